use Rattle.std.proofs.Common.{◌∙◌, Option, Result, sym, ap, subst}
use Rattle.std.specs.Prelude.{option_copied}
use Rattle.conn_core.specs.declared.served.error.ServeError.{ServeError}
use Rattle.conn_core.specs.declared.served.serve.Reply.{Reply}
use Rattle.conn_core.specs.message_replies.Replying.{SaidOf}
use Rattle.conn_core.proofs.message_replies.Parts.{short_at}
use Rattle.conn_core.proofs.message_replies.saying.answered.Goals as goal

pub returns-in-Some-clause-said : goal.returns-in-Some-clause-said
returns-in-Some-clause-said c = λ f x keys like.
    subst (λ (o : Option (Result Reply ServeError)). SaidOf f c.args.conn.now.window x o c.answered_by.result)
    (sym (sym c.answer_at.ensures ∙ ap option_copied c.in-Some.is)) (c.answered_by.ensures.said f x keys like)

pub returns-in-Some-clause-fits : goal.returns-in-Some-clause-fits
returns-in-Some-clause-fits c = λ short.
    c.answered_by.ensures.fits (short_at c.args.replies.now.items.items c.args.place c.in-Some.answer.now short
    (sym c.answer_at.ensures ∙ ap option_copied c.in-Some.is))

pub returns-in-None-clause-said : goal.returns-in-None-clause-said
returns-in-None-clause-said c = λ f x keys like.
    subst (λ (o : Option (Result Reply ServeError)). SaidOf f c.args.conn.now.window x o c.refusal.result)
    (sym (sym c.answer_at.ensures ∙ ap option_copied c.in-None.is)) (c.refusal.ensures.said f x keys like)

pub returns-in-None-clause-fits : goal.returns-in-None-clause-fits
returns-in-None-clause-fits c = λ short. c.refusal.ensures.fits
