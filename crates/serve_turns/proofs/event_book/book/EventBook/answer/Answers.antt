use Rattle.std.proofs.Common.{◌≡◌, ℕ, Option, None, Some, refl, sym, ap, subst, ◌∙◌}
use Rattle.conn_core.specs.declared.frame_messages.checked.Checked.{Checked}
use Rattle.conn_core.specs.frame_messages.Checking.{IsDenied}
use Rattle.conn_core.specs.message_replies.Replying.{AreMessagesShort, has_message_event}
use Rattle.conn_core.proofs.frame_events.Lists.{one_message}
use Rattle.serve_turns.proofs.event_book.Answering.{had_stopped, some_count}
use Rattle.serve_turns.proofs.event_book.Places.{asked_is, asked_message}
use Rattle.serve_turns.proofs.event_book.book.EventBook.answer.Goals as goal

pub ask-requires : goal.ask-requires
ask-requires g c = asked_message c.args.frame.now c.args.at c.requires

pub returns-in-Some : goal.returns-in-Some
unfolding AreMessagesShort
returns-in-Some g c =
    let stopped : g.S.Serve.stopped c.args.self.now.server ≡ Some c.in-Some.count = sym c.stop_count.ensures ∙ c.in-Some.is in
    record {
      gives = λ z s L records m goes here. absurd (had_stopped (g.S.Serve.stopped c.args.self.now.server) c.in-Some.count stopped goes.1);
      short = tt;
      stops = λ count is. stopped ∙ is;
      halted = λ count was. (
        ap (λ (o : Option ℕ). some_count o) (sym stopped ∙ was),
        refl,
      );
      fault = λ users s L records goes count is.
          absurd (had_stopped (g.S.Serve.stopped c.args.self.now.server) c.in-Some.count stopped goes.1);
    }

pub returns-in-None : goal.returns-in-None
returns-in-None g c =
    let a = asked_is c.args.frame.now c.args.at c.requires in
    let stopped : g.S.Serve.stopped c.args.self.now.server ≡ None = sym c.stop_count.ensures ∙ c.in-None.is in
    record {
      gives = λ z s L records m goes here.
          let same : a.message ≡ m = one_message a.message m (sym a.here ∙ here) in
          c.ask.ensures.tells z None s L records m goes here (subst (λ (q : Checked). IsDenied q.fault) same a.denied)
          (sym (ap (λ (q : Checked). has_message_event q) same) ∙ a.event);
      short = c.ask.ensures.short;
      stops = c.ask.ensures.stops;
      fault = λ users s L records goes count stop. c.ask.ensures.fault users s L records goes.0 goes.1 count stop;
      halted = λ count was. absurd (had_stopped (g.S.Serve.stopped c.args.self.now.server) count was stopped);
    }
