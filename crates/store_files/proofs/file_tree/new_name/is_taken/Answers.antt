use Rattle.std.proofs.Common.{nat_eq, not, ◌&&◌, ap, ◌∙◌}
use Rattle.std.specs.HashMap.{get}
use Rattle.std.specs.String.{string_bytes}
use Rattle.store_files.specs.file_tree.Moved.{same_file, row_key}
use Rattle.store_files.proofs.file_tree.new_name.is_taken.Goals as goal

pub returns-in-Some : goal.returns-in-Some
returns-in-Some c = let n = c.args.name.now in c.is_owed.ensures
    ∙ ap (λ o. same_file o n.file && not (row_key (get nat_eq c.args.rows.now n.file) (string_bytes n.key)))
    (rw c.as_str.ensures.value at c.in-Some.ensures.value)

pub returns-in-None : goal.returns-in-None
returns-in-None c = let n = c.args.name.now in
    ap (λ o. same_file o n.file && not (row_key (get nat_eq c.args.rows.now n.file) (string_bytes n.key)))
    (rw c.as_str.ensures.value at c.in-None.ensures.value)
