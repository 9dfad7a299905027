use Rattle.std.proofs.Common.{Option, sym, subst}
use Rattle.conn_core.specs.declared.negotiating.greeting.Hello.{Hello}
use Rattle.conn_core.specs.negotiating.Greeting.{IsShortHello}
use Rattle.conn_core.specs.message_replies.Replying.{HelloOf}
use Rattle.conn_core.proofs.reply_frames.answering.answered_with.Goals as goal

pub answer_by-requires-clause-short : goal.answer_by-requires-clause-short
answer_by-requires-clause-short c = (
  c.requires.short,
  subst (λ (o : Option Hello). IsShortHello o) (sym c.as_ref.ensures.value) c.in_ok-hello.ensures.short,
)

pub returns-clause-answers : goal.returns-clause-answers
returns-clause-answers c = λ z s L f cs ss w shows a.
    c.answer_by.ensures.answers z s L f cs ss w shows a
    (subst (λ (o : Option Hello). HelloOf z.guid f.salt c.args.asked.now.moment cs o) (sym c.as_ref.ensures.value)
    (c.in_ok-hello.ensures.hello z.guid f cs shows a.shows))
