use Rattle.std.proofs.Common.{◌≡◌, ◌+◌, Bool, true, min, if◌then◌else◌, sym, ap, subst, ◌∙◌}
use Rattle.std.proofs.lemmas.Option.{get_or_from_slice_get}
use Rattle.conn_core.specs.declared.frame_messages.checked.Checked.{Checked}
use Rattle.conn_core.specs.declared.frame_messages.checked.CheckedFrame.{CheckedFrame}
use Rattle.conn_core.specs.declared.requests.hearing.Told.{Told}
use Rattle.conn_core.specs.message_replies.Replying.{has_message_event}
use Rattle.conn_core.specs.requests.Asking.{IsRequestTold}
use Rattle.conn_core.proofs.frame_events.Lists.{one_message}
use Rattle.serve_turns.specs.connection_turns.Messages.{Counts}
use Rattle.serve_turns.specs.event_book.Places.{is_asked}
use Rattle.serve_turns.proofs.event_book.Places.{asked_is, asked_message}
use Rattle.serve_turns.proofs.connection_turns.messages.answer_in_turn.Goals as goal

pub told_of-told-requires : goal.told_of-told-requires
told_of-told-requires g c = asked_message c.args.asked.now c.args.at c.requires.asks

pub asks_of-asks-requires : goal.asks_of-asks-requires
asks_of-asks-requires g c =
    subst (λ (y : CheckedFrame). is_asked y c.args.at ≡ true) (sym c.replace-frame.ensures.value) c.requires.asks

pub returns-clause-frame : goal.returns-clause-frame
returns-clause-frame g c =
    c.ask_in_turn-given.ensures.asks.frame ∙ (c.asks_of-asks.ensures.0 ∙ c.replace-frame.ensures.value)

pub returns-clause-takes : goal.returns-clause-takes
returns-clause-takes g c = λ m here.
    let asked = asked_is c.args.asked.now c.args.at c.requires.asks in
    let once = c.ask_in_turn-given.ensures.asks in
    let a = c.index.result.now in
    let same : a ≡ m = c.index.ensures ∙ get_or_from_slice_get c.args.asked.now.messages.items c.args.at m a here in
    record {
      event = ap (λ (q : Checked). has_message_event q) (one_message m asked.message (sym here ∙ asked.here)) ∙ asked.event;
      asks = c.asks_of-asks.result;
      frame = c.asks_of-asks.ensures.0 ∙ c.replace-frame.ensures.value;
      place = c.asks_of-asks.ensures.1;
      told = λ guid f n k shows there going.
          subst (λ (t : Told). IsRequestTold f k t) (sym c.asks_of-asks.ensures.2)
          (c.told_of-told.ensures.told guid f n k shows there going);
      connection = ap (λ (t : Told). t.connection) c.asks_of-asks.ensures.2 ∙ c.told_of-told.ensures.connection;
      fresh_is = ap (λ (t : Told). t.fresh) c.asks_of-asks.ensures.2 ∙ c.told_of-told.ensures.fresh;
      turn = once.turn;
      own = once.own;
      is_turn = once.event;
      is = once.reply;
      conn = c.count.ensures.kept;
      setups = subst (λ (q : Checked). Counts c.args.state.now.setups q c.count.new.self.setups) same
          (c.count.ensures.setups ∙ ap (λ (b : Bool). if b then min (c.args.state.now.setups + 1) 4294967295 else c.args.state.now.setups)
          c.is_setup-setup.ensures);
    }

pub returns-clause-short : goal.returns-clause-short
returns-clause-short g c = c.ask_in_turn-given.ensures.asks.short
