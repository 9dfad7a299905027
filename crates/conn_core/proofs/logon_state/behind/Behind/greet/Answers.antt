use Rattle.std.proofs.Common.{subst}
use Rattle.std.specs.Prelude.{option_copied}
use Rattle.conn_core.specs.message_replies.Replying.{HelloFor}
use Rattle.conn_core.proofs.logon_state.Moved.{not_both}
use Rattle.conn_core.proofs.logon_state.behind.Behind.greet.Goals as goal

pub returns-in-Some : goal.returns-in-Some
returns-in-Some c = λ nonces guid salt now f s shows hello chooses greets status raw.
    let heard = subst (λ o. HelloFor guid salt now s.request (option_copied o)) c.in-Some.is hello in
    c.negotiated.ensures nonces guid salt now f s shows (heard greets) chooses greets status raw

pub returns-in-None : goal.returns-in-None
returns-in-None c = λ nonces guid salt now f s shows hello chooses greets status raw.
    let none = subst (λ o. HelloFor guid salt now s.request (option_copied o)) c.in-None.is hello in
    absurd (not_both _ greets none)
