use Rattle.std.proofs.Common.{arith}
use Rattle.std.proofs.lemmas.Grind.{common_steps}
use Rattle.store_files.proofs.file_tree.Full.{row_full, row_filled}
use Rattle.store_files.proofs.file_tree.Found.{found_below}
use Rattle.store_files.proofs.file_tree.tree.Tree.full_row.Goals as goal

pub returns-then-row : goal.returns-then-row
returns-then-row c = λ s h f z r.
    let n = row_filled s f c.args.row.now h.rows.apart h.rows.no_empty z r in
    let b = c.has_below.ensures s h c.args.row.now.path n (found_below s f c.args.row.now r n c.if-row.true) in
    let w = row_full s f c.args.row.now h.rows.no_root r in
    let d = c.if-row.true in
    grind (arith, common_steps)

pub returns : goal.returns
returns c = λ s h f z r. let w = row_full s f c.args.row.now h.rows.no_root r in let d = c.if-row.false in grind (arith, common_steps)
