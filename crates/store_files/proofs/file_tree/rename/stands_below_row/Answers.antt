use Rattle.std.proofs.Common.{ap, ◌∙◌}
use Rattle.store_files.specs.file_tree.Shown.{folded}
use Rattle.store_files.specs.file_tree.Keys.{key_begins}
use Rattle.store_files.proofs.file_tree.Refusing.{row_below, file_below}
use Rattle.store_files.proofs.file_tree.rename.stands_below_row.Goals as goal

pub returns-then-row : goal.returns-then-row
returns-then-row c = λ s f a n z e h. row_below s f c.args.row.now c.args.path.now c.begins_so.result a n z e h
    c.if-row.true (c.begins_so.ensures ∙ ap (λ k. key_begins k (folded c.args.path.now)) c.as_str.ensures.value)

pub returns-else-row : goal.returns-else-row
returns-else-row c = λ s f a n z e h. file_below s f c.args.row.now c.args.path.now h c.if-row.false
