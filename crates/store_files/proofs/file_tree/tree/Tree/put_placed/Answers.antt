use Rattle.std.proofs.Common.{refl, arith}
use Rattle.store_files.proofs.file_tree.PutPlace.{may, placed, sum_is}
use Rattle.store_files.proofs.file_tree.tree.Tree.put_placed.Goals as goal

pub returns-clause-shown : goal.returns-clause-shown
returns-clause-shown c = λ s path n r e more one.
    let m = may s c.args.placed.now.file path c.args.placed.now.size e in
    placed c.args.self.now (record c.args.self.now { rows = c.put_row.new.rows; used = c.saturating_add-self.result }) s c.args.row path
    c.args.placed.now more n r m one c.put_row.ensures.at c.put_row.ensures.count refl refl refl refl
    (sum_is s c.args.self.now.used c.args.placed.now.size c.saturating_add-self.result n.rows.used_is m.fits c.saturating_add-self.ensures)
