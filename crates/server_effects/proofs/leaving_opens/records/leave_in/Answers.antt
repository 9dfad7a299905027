use Rattle.std.proofs.Common.{sym, ◌∙◌}
use Rattle.server_effects.proofs.leaving_opens.records.leave_in.Goals as goal

pub returns-in-Some : goal.returns-in-Some
returns-in-Some c = λ s u f o t l st. c.leave_row.ensures s u o t l st (c.in-Some.ensures s o).1.opened_is

pub returns-in-None : goal.returns-in-None
returns-in-None c = λ s u f o t l st. absurd (let e = sym (c.in-None.ensures s o) ∙ l.stood c.args.id st in cc)
