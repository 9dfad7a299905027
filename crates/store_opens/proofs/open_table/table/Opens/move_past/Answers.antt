use Rattle.std.proofs.Common.{refl}
use Rattle.law_server.proofs.tables.Logic.{other_on}
use Rattle.store_opens.proofs.open_table.Same.{same_index}
use Rattle.store_opens.proofs.open_table.table.Opens.move_past.Goals as goal

pub returns-clause-shows : goal.returns-clause-shows
returns-clause-shows c = λ s h. same_index c.args.self.now (record c.args.self.now { deadlines = c.move_past.new.self })
    refl (record { whole = c.move_past.ensures.whole; kept = c.move_past.ensures.kept }) s h

pub returns-clause-past : goal.returns-clause-past
returns-clause-past c = λ s h w o d e l.
    other_on _ _ (c.move_past.ensures.kept w o d (h.indexed (c.move_past.ensures.whole w) o d e))
    (c.move_past.ensures.past o d l)
