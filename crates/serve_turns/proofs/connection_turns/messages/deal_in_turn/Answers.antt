use Rattle.std.proofs.Common.{◌≡◌, Some, slice_get, option_map, inl, inr, refl, sym, ap, subst, ◌∙◌}
use Rattle.std.proofs.lemmas.Option.{get_or_from_slice_get}
use Rattle.spec_world.specs.Given.{is_past_setups}
use Rattle.conn_core.specs.declared.frame_messages.checked.Checked.{Checked}
use Rattle.conn_core.specs.declared.frame_messages.checked.CheckedFrame.{CheckedFrame}
use Rattle.conn_core.specs.frame_messages.Checking.{HasMessage, message_in}
use Rattle.conn_core.specs.frame_events.Dealing.{DealsOne}
use Rattle.conn_core.specs.message_replies.Replying.{has_message_event}
use Rattle.conn_core.specs.related.Carrying.{carry_of}
use Rattle.conn_core.proofs.related.Denied.{denied_at}
use Rattle.serve_turns.proofs.event_book.Places.{asked_by}
use Rattle.serve_turns.proofs.connection_turns.messages.deal_in_turn.Goals as goal

pub returns-then-not-has_event-clause-deals : goal.returns-then-not-has_event-clause-deals
returns-then-not-has_event-clause-deals g c = λ m here.
    let a = c.index-checked.result.now in
    let same : a ≡ m = c.index-checked.ensures ∙ get_or_from_slice_get c.args.asked.now.messages.items c.args.at m a here in
    inl (record {
      none = ap (λ (q : Checked). has_message_event q) (sym same) ∙ (sym c.has_event.ensures ∙ c.if-not-has_event.true);
      deals = c.hand_on.ensures.deals m here;
      state = refl;
      same = refl;
    })

pub returns-then-is_late-clause-deals : goal.returns-then-is_late-clause-deals
returns-then-is_late-clause-deals g c = λ m here.
    let a = c.index-checked.result.now in
    let same : a ≡ m = c.index-checked.ensures ∙ get_or_from_slice_get c.args.asked.now.messages.items c.args.at m a here in
    inr (inl (record {
      event = ap (λ (q : Checked). has_message_event q) (sym same) ∙ (sym c.has_event.ensures ∙ c.if-not-has_event.false);
      late = ap (λ (q : Checked). is_past_setups c.args.state.now.setups q.header) (sym same) ∙ (sym c.is_late.ensures ∙ c.if-is_late.true);
      refuses = c.refuse.ensures.refuses m here;
      state = refl;
      same = refl;
    }))

pub answer_in_turn-answer-requires-clause-asks : goal.answer_in_turn-answer-requires-clause-asks
answer_in_turn-answer-requires-clause-asks g c =
    let x = c.args.asked.now in
    let has = c.requires.message in
    let a = c.index-checked.result.now in
    let same : a ≡ has.0 = c.index-checked.ensures ∙ get_or_from_slice_get x.messages.items c.args.at has.0 a has.1 in
    asked_by x c.args.at has.0 has.1 has (denied_at x.messages.items c.args.at has.0 has.1 c.requires.denied)
    (ap (λ (q : Checked). has_message_event q) (sym same) ∙ (sym c.has_event.ensures ∙ c.if-not-has_event.false))

pub hand_on-requires-clause-message : goal.hand_on-requires-clause-message
hand_on-requires-clause-message g c = c.requires.message

pub hand_on-requires-2-clause-message : goal.hand_on-requires-2-clause-message
hand_on-requires-2-clause-message g c =
    subst (λ (q : CheckedFrame). HasMessage q c.args.at) (sym c.answer_in_turn-answer.ensures.frame) c.requires.message

pub returns-clause-deals : goal.returns-clause-deals
returns-clause-deals g c = λ m here.
    let a = c.index-checked.result.now in
    let same : a ≡ m = c.index-checked.ensures ∙ get_or_from_slice_get c.args.asked.now.messages.items c.args.at m a here in
    let back : c.answer_in_turn-answer.new.asked ≡ c.args.asked.now = c.answer_in_turn-answer.ensures.frame in
    inr (inr (record {
      early = ap (λ (q : Checked). is_past_setups c.args.state.now.setups q.header) (sym same) ∙ (sym c.is_late.ensures ∙ c.if-is_late.false);
      given = c.answer_in_turn-answer.result;
      deals = subst (λ (q : CheckedFrame). DealsOne m (message_in q.bytes.items m) (option_map carry_of c.args.carried.now)
          c.answer_in_turn-answer.result c.args.dealt.now c.hand_on-2.new.dealt c.hand_on-2.result) back
          (c.hand_on-2.ensures.deals m
          (subst (λ (q : CheckedFrame). slice_get q.messages.items c.args.at ≡ Some m) (sym back) here));
      takes = c.answer_in_turn-answer.ensures.takes m here;
    }))
