use Rattle.std.proofs.Common.{Result, subst}
use Rattle.conn_core.specs.declared.served.error.ServeError.{ServeError}
use Rattle.conn_core.specs.declared.served.serve.Reply.{Reply}
use Rattle.conn_core.specs.message_replies.Replying.{IsShortAnswer}
use Rattle.conn_core.proofs.message_replies.saying.answered_by.Goals as goal

pub returns-in-Ok-clause-said : goal.returns-in-Ok-clause-said
returns-in-Ok-clause-said c = λ f x keys like. rw c.in-Ok.is (λ s to. c.said_to.ensures.said f x s keys like to)

pub returns-in-Ok-clause-fits : goal.returns-in-Ok-clause-fits
returns-in-Ok-clause-fits c = λ short.
    c.said_to.ensures.fits (subst (λ (r : Result Reply ServeError). IsShortAnswer r) c.in-Ok.is short)

pub returns-in-Err-clause-said : goal.returns-in-Err-clause-said
returns-in-Err-clause-said c = λ f x keys like. rw c.in-Err.is (c.refusal.ensures.said f x keys like)

pub returns-in-Err-clause-fits : goal.returns-in-Err-clause-fits
returns-in-Err-clause-fits c = λ short. c.refusal.ensures.fits
