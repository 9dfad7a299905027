use Rattle.std.proofs.Common.{subst}
use Rattle.std.specs.Prelude.{option_copied}
use Rattle.conn_core.specs.negotiating.Greeting.{IsShortHello}
use Rattle.conn_core.specs.message_replies.Replying.{HelloFor}
use Rattle.conn_core.proofs.message_replies.Parts.{greets_not}
use Rattle.conn_core.proofs.message_replies.saying.greeted.Goals as goal

pub returns-in-Some-clause-said : goal.returns-in-Some-clause-said
returns-in-Some-clause-said c = λ z now f x keys like fault greets h.
    c.greeted_by.ensures.said z now f x keys like fault greets
    (subst (λ o. HelloFor z.guid f.salt now x (option_copied o)) c.in-Some.is h greets)

pub returns-in-Some-clause-fits : goal.returns-in-Some-clause-fits
returns-in-Some-clause-fits c = λ short. c.greeted_by.ensures.fits (subst (λ o. IsShortHello (option_copied o)) c.in-Some.is short)

pub returns-in-None-clause-said : goal.returns-in-None-clause-said
returns-in-None-clause-said c = λ z now f x keys like fault greets h.
    absurd (greets_not _ greets (subst (λ o. HelloFor z.guid f.salt now x (option_copied o)) c.in-None.is h))

pub returns-in-None-clause-fits : goal.returns-in-None-clause-fits
returns-in-None-clause-fits c = λ short. c.refusal.ensures.fits
