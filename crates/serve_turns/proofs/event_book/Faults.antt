-- A server that stops in an event tells its disk's own count of faults, which rose in it.
use Rattle.std.proofs.Common.{◌≡◌, inl, inr, ℕ, List, [], Option, None, Some, Result, Ok, Err, refl, sym, ap, subst, ◌∙◌}
use Rattle.base_outside.specs.streams.Faults.{Rose}
use Rattle.spec_crypto.specs.tokens.Tokens.{Users}
use Rattle.spec_exchange.specs.State as model
use Rattle.spec_world.specs.Ends.{Logons}
use Rattle.spec_world.specs.Settings.{ServerSettings}
use Rattle.conn_core.specs.declared.frame_messages.checked.Checked.{Checked}
use Rattle.conn_core.specs.declared.requests.hearing.Told.{Told}
use Rattle.conn_core.specs.declared.served.error.ServeError.{ServeError}
use Rattle.conn_core.specs.declared.served.error.ServeError.TheVariants as errors
use Rattle.conn_core.specs.declared.served.serve.Reply.{Reply}
use Rattle.conn_core.specs.frame_events.Dealing.{EventAnswer, stop_in}
use Rattle.conn_core.specs.frame_events.Telling.{ToldIf}
use Rattle.conn_core.specs.served.Serving.{Halts, StopsAtFault}
use Rattle.serve_turns.specs.declared.event_book.book.EventBook.{EventBook}
use Rattle.serve_turns.specs.declared.event_book.turn.Answer.{Answer}
use Rattle.serve_turns.specs.declared.event_book.turn.Asks.{Asks}
use Rattle.serve_turns.specs.declared.event_book.turn.Turn.{Turn}
use Rattle.serve_turns.specs.declared.event_book.turn.What.{What}
use Rattle.serve_turns.specs.declared.event_book.turn.What.TheVariants.{Accept, End, Message}
use Rattle.serve_turns.specs.event_book.History.{On, Stand}
use Rattle.serve_turns.specs.event_book.Steps.{AsksEvent, EventSteps, EventStepsFor, GoesOn, RenewsBook, ShowsStanding, StaysHalted}
use Rattle.serve_turns.specs.event_book.Renewing.{RenewedTo}
use Rattle.serve_turns.proofs.event_book.Answering.{had_stopped}
use Rattle.serve_turns.proofs.event_book.Places.{asked_is}

one_count : (o : Option ℕ) (n count : ℕ) → o ≡ Some n → o ≡ Some count → n ≡ count
one_count o n count is stop = one n count (sym is ∙ stop)
  where
    one : (a b : ℕ) → Some a ≡ Some b → a ≡ b
    one a b e = cc

module _ {S : Type 0} (shows : S → Users → model.Server → Logons → List model.Record → Type 0) (stopped : S → Option ℕ)
    (faults : S → ℕ) where
  abbrev AtFault : EventBook S → EventBook S → ℕ → Type 0
  AtFault b c count = StopsAtFault (faults b.server) (faults c.server) count

  -- by the reply to a connection that is made or lost
  by_reply : (b c : EventBook S) (reply : Result Reply ServeError) (count : ℕ) → Halts (stopped b.server) (stopped c.server) reply
      → ((n : ℕ) → reply ≡ Err (errors.Stopped n) → AtFault b c n) → stopped c.server ≡ Some count → AtFault b c count
  by_reply b c (Ok r) count halts fault stop = absurd (had_stopped (stopped c.server) count stop halts.1)
  by_reply b c (Err errors.Memory) count halts fault stop = absurd (had_stopped (stopped c.server) count stop halts.1)
  by_reply b c (Err (errors.Unanswered acted)) count halts fault stop = absurd (had_stopped (stopped c.server) count stop halts.1)
  by_reply b c (Err (errors.Stopped n)) count halts fault stop =
      subst (AtFault b c) (one_count (stopped c.server) n count halts.0 stop) (fault n refl)

  -- a message's reply tells it
  stop_told : (z : ServerSettings) (now : ℕ) (s : model.Server) (L : Logons) (records : List model.Record) (t : Told) (m : Checked)
      (bytes : List ℕ) (due : Option model.Message) (reply : EventAnswer) (c : EventBook S) (count : ℕ)
      → ToldIf (GoesOn shows stopped faults c z.users) z now s L records t m bytes due reply → stopped c.server ≡ Some count
      → (n : ℕ) × (stop_in reply ≡ Some n)
  stop_told z now s L records t m bytes None None c count gives stop = absurd (had_stopped (stopped c.server) count stop gives.1)
  stop_told z now s L records t m bytes None (Some r) c count gives stop = absurd gives
  stop_told z now s L records t m bytes (Some x) None c count gives stop = absurd (had_stopped (stopped c.server) count stop gives.1.1)
  stop_told z now s L records t m bytes (Some x) (Some (Ok r)) c count gives stop =
      absurd (had_stopped (stopped c.server) count stop gives.1.state.1)
  stop_told z now s L records t m bytes (Some x) (Some (Err errors.Memory)) c count gives stop =
      absurd (had_stopped (stopped c.server) count stop gives.1.3.1)
  stop_told z now s L records t m bytes (Some x) (Some (Err (errors.Unanswered acted))) c count gives stop =
      absurd (had_stopped (stopped c.server) count stop gives.1.state.1)
  stop_told z now s L records t m bytes (Some x) (Some (Err (errors.Stopped n))) c count gives stop = (n, refl)

  by_message : (z : ServerSettings) (s : Stand) (b c : EventBook S) (now : ℕ) (a : Asks) (t : Answer) (count : ℕ)
      → AsksEvent shows stopped faults b now a t c → ShowsStanding shows stopped faults z.users b (On s) → stopped c.server ≡ Some count
      → AtFault b c count
  by_message z s b c now a t count asks stands stop =
      let is = asked_is a.frame a.at a.asked in
      let told = stop_told z now s.server s.logons s.records a.told is.message a.frame.bytes.items _ t.reply c count
      (asks.answers.gives z s.server s.logons s.records is.message stands is.here) stop in
      subst (AtFault b c) (one_count (stopped c.server) told.0 count (asks.answers.stops told.0 told.1) stop)
      (asks.answers.fault z.users s.server s.logons s.records stands told.0 told.1)

  -- of a server that went on
  at_fault : (z : ServerSettings) (s : Stand) (b c : EventBook S) (e : Turn) (t : Answer) (what : What) (count : ℕ)
      → EventStepsFor shows stopped faults what b e t c → ShowsStanding shows stopped faults z.users b (On s)
      → stopped c.server ≡ Some count → AtFault b c count
  at_fault z s b c e t (Accept k) count steps stands stop =
      by_reply b c steps.reply count (steps.halts z.users s.server s.logons s.records stands.0)
      (λ n is. steps.fault z.users s.server s.logons s.records stands n is) stop
  at_fault z s b c e t (Message a) count steps stands stop = by_message z s b c e.now a t count steps stands stop
  at_fault z s b c e t (End k) count steps stands stop =
      by_reply b c steps.reply count (steps.halts z.users s.server s.logons s.records stands.0)
      (λ n is. steps.fault z.users s.server s.logons s.records stands n is) stop

  -- ---- a whole turn: what comes in front of the event, and the event

  -- a server that had stopped in front of the event is as it was behind it
  halted_by : (b c : EventBook S) (e : Turn) (t : Answer) (what : What) → EventStepsFor shows stopped faults what b e t c
      → StaysHalted shows stopped faults b t.reply c
  halted_by b c e t (Accept k) steps = steps.halted
  halted_by b c e t (Message a) steps = steps.answers.halted
  halted_by b c e t (End k) steps = steps.halted

  -- the count stays where the server goes on in front of the event
  counts_on : (b m c : EventBook S) (count : ℕ) → faults m.server ≡ faults b.server → AtFault m c count → AtFault b c count
  counts_on b m c count calm fault = (subst (λ (n : ℕ). Rose n count) calm fault.0, fault.1)

  -- it stopped in front of the event
  stopped_before : (b m c : EventBook S) (e : Turn) (t : Answer) (n count : ℕ) → EventStepsFor shows stopped faults e.what m e t c
      → AtFault b m n → stopped m.server ≡ Some n → stopped c.server ≡ Some count → AtFault b c count
  stopped_before b m c e t n count steps fault stop stops =
      let same = (halted_by m c e t e.what steps n stop).1 in
      subst (AtFault b c) (one_count (stopped c.server) n count (ap stopped same ∙ stop) stops)
      (fault.0, fault.1 ∙ sym (ap faults same))

  by_renewal : (z : ServerSettings) (s : Stand) (b m c : EventBook S) (e : Turn) (t : Answer) (count : ℕ)
      → RenewsBook shows stopped faults b m → EventStepsFor shows stopped faults e.what m e t c
      → ShowsStanding shows stopped faults z.users b (On s) → stopped c.server ≡ Some count
      → RenewedTo (shows m.server z.users) (stopped m.server) s.server s.logons s.records → AtFault b c count
  by_renewal z s b m c e t count renews steps stands stop (inl so) =
      counts_on b m c count (renews.calm z.users s.server s.logons s.records stands so.0)
      (at_fault z s m c e t e.what count steps (so.1, so.0) stop)
  by_renewal z s b m c e t count renews steps stands stop (inr (inl so)) =
      let anew : Stand = record { server = record s.server { journal = so.1 }; logons = s.logons; records = [] } in
      counts_on b m c count (renews.calm z.users s.server s.logons s.records stands so.0)
      (at_fault z anew m c e t e.what count steps (so.2, so.0) stop)
  by_renewal z s b m c e t count renews steps stands stop (inr (inr so)) =
      stopped_before b m c e t so.0 count steps (renews.fault z.users s.server s.logons s.records stands so.0 so.1) so.1 stop

  pub turn_fault : (z : ServerSettings) (s : Stand) (b c : EventBook S) (e : Turn) (t : Answer) (count : ℕ)
      → EventSteps shows stopped faults b e t c → ShowsStanding shows stopped faults z.users b (On s) → stopped c.server ≡ Some count
      → AtFault b c count
  turn_fault z s b c e t count steps stands stop =
      by_renewal z s b steps.0 c e t count steps.1 steps.2 stands stop (steps.1.renewed z.users s.server s.logons s.records stands)
