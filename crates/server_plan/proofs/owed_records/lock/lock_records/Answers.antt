use Rattle.std.proofs.Common.{sym, ◌∙◌}
use Rattle.server_plan.proofs.owed_records.lock.lock_records.Goals as goal

pub returns-in-Some : goal.returns-in-Some
returns-in-Some c = λ s o st. c.row_records.ensures s (c.in-Some.ensures s o).1.opened_is

pub returns-in-None : goal.returns-in-None
returns-in-None c = λ s o st. absurd (let e = sym (c.in-None.ensures s o) ∙ st in cc)
