use Rattle.std.proofs.Common.{sym, ◌∙◌}
use Rattle.store_files.proofs.file_tree.Refusing.{collides, onto_directory, onto_file, onto_nothing, target_there}
use Rattle.store_files.proofs.file_tree.tree.Tree.target_refusal.Goals as goal

pub returns-then-is_collision : goal.returns-then-is_collision
returns-then-is_collision c = λ s h. collides s c.args.file c.args.replace c.args.to.now
    (sym (c.is_collision.ensures s h) ∙ c.if-is_collision.true)

pub returns-then-is_directory : goal.returns-then-is_directory
returns-then-is_directory c = λ s h.
    let t = sym (c.in-Some.ensures s h) in
    onto_directory s c.args.file c.args.replace c.args.to.now c.in-Some.target (sym (c.is_collision.ensures s h)
    ∙ c.if-is_collision.false) t
    (sym (c.is_directory.ensures s h (target_there s c.args.file c.args.replace c.args.to.now c.in-Some.target t)) ∙ c.if-is_directory.true)

pub returns-in-Some : goal.returns-in-Some
returns-in-Some c = λ s h.
    let t = sym (c.in-Some.ensures s h) in
    onto_file s c.args.file c.args.replace c.args.to.now c.in-Some.target (sym (c.is_collision.ensures s h) ∙ c.if-is_collision.false) t
    (sym (c.is_directory.ensures s h (target_there s c.args.file c.args.replace c.args.to.now c.in-Some.target t))
    ∙ c.if-is_directory.false)

pub returns-in-None : goal.returns-in-None
returns-in-None c = λ s h. onto_nothing s c.args.file c.args.replace c.args.to.now (sym (c.is_collision.ensures s h)
    ∙ c.if-is_collision.false) (sym (c.in-None.ensures s h))
