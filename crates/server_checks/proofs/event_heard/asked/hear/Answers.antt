use Rattle.std.proofs.Common.{refl, ap}
use Rattle.spec_exchange.specs.State as says
use Rattle.server_checks.proofs.event_heard.asked.hear.Goals as goal

pub returns-in-Message-clause-event : goal.returns-in-Message-clause-event
returns-in-Message-clause-event c = λ s L t l. rw c.in-Message.is (ap (λ (m : says.Message). says.Heard m) c.without_token.ensures, refl)

pub returns-in-Setup-clause-event : goal.returns-in-Setup-clause-event
returns-in-Setup-clause-event c = rw c.in-Setup.is c.asked_setup.ensures.event

pub returns-in-Setup-clause-sure : goal.returns-in-Setup-clause-sure
returns-in-Setup-clause-sure c = rw c.in-Setup.is (λ h. absurd (cc))

pub returns-in-Accept-clause-event : goal.returns-in-Accept-clause-event
returns-in-Accept-clause-event c = λ s L t l. rw c.in-Accept.is (refl, refl)

pub returns-in-End-clause-event : goal.returns-in-End-clause-event
returns-in-End-clause-event c = λ s L t l. rw c.in-End.is (refl, refl)

pub returns-in-Stop-clause-event : goal.returns-in-Stop-clause-event
returns-in-Stop-clause-event c = λ s L t l. rw c.in-Stop.is (refl, refl)
