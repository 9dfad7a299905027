use Rattle.std.proofs.Common.{sym, ◌∙◌}
use Rattle.server_plan.proofs.owed_records.Told.{if_ok_by}
use Rattle.server_plan.proofs.owed_records.create.user_of.Goals as goal

pub returns-in-Some : goal.returns-in-Some
returns-in-Some c = λ s h p. if_ok_by c.copy.result c.copy.ensures (λ t e. e ∙ sym (c.in-Some.ensures.shows s h).1.user_is)

pub returns-in-None : goal.returns-in-None
returns-in-None c = λ s h p. absurd (let e = sym (c.in-None.ensures.shows s h).0 ∙ p in cc)
