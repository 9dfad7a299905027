use Rattle.conn_core.proofs.frame_events.Stops.{adds_stop}
use Rattle.conn_core.proofs.frame_events.dealing.deal.Goals as goal

pub returns-clause-deals : goal.returns-clause-deals
returns-clause-deals g c = λ m here. (
  c.answer_of-answer.result,
  c.hand_on.ensures.deals m here,
  λ z before s L records f k shows conn going none.
      c.answer_of-answer.ensures.gives z before s L records f m k shows conn here going none,
)

pub returns-clause-stops : goal.returns-clause-stops
returns-clause-stops g c = λ count stop.
    let given = c.hand_on.ensures.deals c.requires.message.0 c.requires.message.1 in
    c.answer_of-answer.ensures.stops count
    (adds_stop c.answer_of-answer.result c.args.dealt.now c.hand_on.new.dealt c.hand_on.result count given.adds stop)
