use Rattle.std.proofs.Common.{refl}
use Rattle.store_opens.proofs.open_table.Same.{same_rooms}
use Rattle.store_opens.proofs.open_table.table.Opens.reserve_row.Goals as goal

pub returns-in_err-reserve_rows-clause-same : goal.returns-in_err-reserve_rows-clause-same
returns-in_err-reserve_rows-clause-same c = λ s h. same_rooms c.args.self.now (record c.args.self.now {
  rows = c.reserve_rows.new.rows;
}) refl c.reserve_rows.ensures.at c.reserve_rows.ensures.len (λ a b. refl)
    (λ q. refl) s h

pub returns-in_err-reserve_names-clause-same : goal.returns-in_err-reserve_names-clause-same
returns-in_err-reserve_names-clause-same c = λ s h. same_rooms c.args.self.now (record c.args.self.now {
  rows = c.reserve_rows.new.rows;
  guids = c.reserve_names.new.guids;
}) refl c.reserve_rows.ensures.at
    c.reserve_rows.ensures.len c.reserve_names.ensures.at (λ q. refl) s h

pub returns-clause-same : goal.returns-clause-same
returns-clause-same c = λ s h. same_rooms c.args.self.now (record c.args.self.now {
  rows = c.reserve_rows.new.rows;
  guids = c.reserve_names.new.guids;
  files = c.reserve_files.new.files;
}) refl c.reserve_rows.ensures.at
    c.reserve_rows.ensures.len c.reserve_names.ensures.at c.reserve_files.ensures.at s h
