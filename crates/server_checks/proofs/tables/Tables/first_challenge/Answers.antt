use Rattle.std.proofs.Common.{◌∙◌, nat_le, Bool, ap, if◌then◌else◌}
use Rattle.spec_exchange.specs.Effects.{next_session}
use Rattle.spec_exchange.specs.Opens.{max_ids}
use Rattle.spec_exchange.specs.Status.{insufficient_resources}
use Rattle.spec_exchange.specs.Verdict.{Challenge, Refuse}
use Rattle.server_checks.proofs.Creates.{left_ids, no_ids}
use Rattle.server_checks.proofs.tables.Tables.first_challenge.Goals as goal

pub returns-in-Some : goal.returns-in-Some
returns-in-Some c = λ k s t. ap (λ (b : Bool). if b then Refuse insufficient_resources else Challenge)
    (left_ids (nat_le max_ids s.session_ids_given) (next_session s) _ (c.in-Some.ensures.shown s t.sessions))

pub returns-in-None : goal.returns-in-None
returns-in-None c = λ k s t. c.refuse.ensures k
    ∙ ap (λ (b : Bool). if b then Refuse insufficient_resources else Challenge)
    (no_ids (nat_le max_ids s.session_ids_given) (next_session s) (c.in-None.ensures.shown s t.sessions))
