use Rattle.std.proofs.Common.{ℕ, List, Some, if◌then◌else◌, sym, ap, ◌∙◌}
use Rattle.std.specs.BTreeMap.{get_by_text}
use Rattle.std.specs.Str.{bytes_eq}
use Rattle.store_files.proofs.file_tree.Gathered.{no_row_there}
use Rattle.store_files.proofs.file_tree.Spelled.{spell_directory, spell_file}
use Rattle.store_files.proofs.file_tree.tree.Tree.spell.Goals as goal

pub returns-then-row : goal.returns-then-row
returns-then-row c = λ s h e p. spell_directory c.args.self.now s c.args.file c.in-Some.row.now h
    (sym c.in-Some.ensures.value) c.if-row.true p (get_by_text c.args.spelled.now p)

pub returns-in-Some : goal.returns-in-Some
returns-in-Some c = λ s h e p.
    let old = get_by_text c.args.spelled.now p in
    c.in_ok-name_path-in-Some.ensures.ok p
    ∙ (ap (λ (k : List ℕ). if bytes_eq k p then Some c.args.file else old) (c.in_ok-path-in-Some.ensures.ok ∙ c.as_str.ensures)
    ∙ spell_file c.args.self.now s c.args.file c.in-Some.row.now h (sym c.in-Some.ensures.value) c.if-row.false p old)

pub returns-in-None : goal.returns-in-None
returns-in-None c = λ s h e p. absurd (let x = no_row_there c.args.self.now s c.args.file h (sym c.in-None.ensures.value) e in cc)
