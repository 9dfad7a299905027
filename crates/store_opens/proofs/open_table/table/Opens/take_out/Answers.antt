use Rattle.std.proofs.Common.{refl, ap}
use Rattle.store_opens.specs.declared.open_table.table.Opens.{Opens}
use Rattle.store_opens.proofs.open_table.Dropped.{left_if}
use Rattle.store_opens.proofs.open_table.table.Opens.take_out.Goals as goal

pub returns-clause-row : goal.returns-clause-row
returns-clause-row c = c.take_row.ensures.row

pub returns-clause-left : goal.returns-clause-left
returns-clause-left c = left_if c.args.self.now (record c.args.self.now { deadlines = c.forget.new.self })
    c.take_row.new.self c.args.id c.take_row.result refl c.forget.ensures.whole
    (λ q d. c.forget.ensures.others q d) c.take_row.ensures.left

pub returns-clause-sessions : goal.returns-clause-sessions
returns-clause-sessions c = ap (λ (w : Opens). w.sessions) c.take_row.ensures.rest
