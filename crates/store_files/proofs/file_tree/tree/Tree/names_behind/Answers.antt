use Rattle.std.proofs.Common.{ℕ, List, ◌∷◌, get_or, refl, ap, ◌∙◌, arith}
use Rattle.std.proofs.lemmas.List.{take_all}
use Rattle.spec_exchange.specs.Table.{has}
use Rattle.store_files.proofs.file_tree.Gathered.{gathered_one, gathered_at, has_at, has_behind, has_first}
use Rattle.store_files.proofs.file_tree.tree.Tree.names_behind.Goals as goal

pub loop-i-init : goal.loop-i-init
loop-i-init c = λ s old h z l w.
    let f = w c.args.file (has_first c.args.file c.args.below.now) in
    gathered_one c.new-names.result.items c.push_name.new.names.items c.args.file s old c.args.to.now
    c.new-names.ensures.items (c.in_ok-push_name.ensures s old h z l f.0 f.1)

pub loop-i-preserved : goal.loop-i-preserved
loop-i-preserved c = λ s old h z l w.
    let f = w (get_or c.args.below.now c.loop-i.i 0) (has_behind (get_or c.args.below.now c.loop-i.i 0) c.args.file
    c.args.below.now (has_at c.args.below.now c.loop-i.i (omega arith))) in
    gathered_at c.loop-i.names.items c.push_name-in-loop-i.new.names.items c.args.file c.args.below.now c.loop-i.i
    (get_or c.args.below.now c.loop-i.i 0) s old c.args.to.now (omega arith) refl
    (c.loop-i.invariant s old h z l w) (c.in_ok-push_name-2.ensures s old h z l f.0 f.1)

pub returns : goal.returns
returns c = λ s old h z l w. let i = c.loop-i.invariant s old h z l w in
    (i.0, λ g. i.1 g ∙ ap (λ (xs : List ℕ). has g (c.args.file ∷ xs)) (take_all c.loop-i.i c.args.below.now (omega arith)))
