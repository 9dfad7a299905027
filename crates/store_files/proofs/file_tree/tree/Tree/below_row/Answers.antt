use Rattle.std.proofs.Common.{◌∙◌, ap}
use Rattle.std.specs.BTreeMap.{get_by_text}
use Rattle.spec_exchange.specs.Table.{has}
use Rattle.store_files.proofs.file_tree.Pairs.{row_stands, file_stands}
use Rattle.store_files.proofs.file_tree.tree.Tree.below_row.Goals as goal

pub returns-then-row : goal.returns-then-row
returns-then-row c = λ s f h r. row_stands s f c.args.row.now (λ q. get_by_text c.args.self.now.paths q)
    c.in_ok-files.files.items h.rows.apart h.rows.no_empty h.rows.no_root h.keys_are r c.if-row.true
    c.in_ok-files.ensures

pub returns : goal.returns
returns c = λ s f h r g. ap (has g) c.new.ensures.items ∙ file_stands s f c.args.row.now r c.if-row.false g
