-- What a server does in a turn of one of its connections: one event.
use Rattle.std.specs.Prelude.{◌≡◌, ℕ, List, Option, Some, None, Result, Err, slice_get}
use Rattle.spec_crypto.specs.tokens.Tokens.{Users}
use Rattle.spec_exchange.specs.State as model
use Rattle.spec_world.specs.Ends.{Logons}
use Rattle.spec_world.specs.Settings.{ServerSettings}
use Rattle.server_checks.specs.declared.event_heard.event.ServerEvent.{ServerEvent}
use Rattle.server_checks.specs.declared.event_heard.event.ServerEvent.TheVariants as events
use Rattle.conn_core.specs.declared.frame_messages.checked.Checked.{Checked}
use Rattle.conn_core.specs.declared.frame_messages.checked.CheckedFrame.{CheckedFrame}
use Rattle.conn_core.specs.declared.requests.hearing.Told.{Told}
use Rattle.conn_core.specs.frame_events.Dealing.{AreShortIf, EventAnswer, stop_in}
use Rattle.conn_core.specs.frame_events.Telling.{ToldGives}
use Rattle.conn_core.specs.served.Serving.{Halts, Onward, ServerServes, Showing, StopsAtFault}
use Rattle.conn_core.specs.declared.served.error.ServeError.{ServeError}
use Rattle.conn_core.specs.declared.served.error.ServeError.TheVariants as errors
use Rattle.conn_core.specs.declared.served.serve.Reply.{Reply}
use Rattle.serve_turns.specs.event_book.History.{Standing, On, Off}
use Rattle.serve_turns.specs.event_book.Renewing.{RenewedTo}
use Rattle.serve_turns.specs.declared.event_book.book.EventBook.{EventBook}
use Rattle.serve_turns.specs.declared.event_book.turn.Answer.{Answer}
use Rattle.serve_turns.specs.declared.event_book.turn.Asks.{Asks}
use Rattle.serve_turns.specs.declared.event_book.turn.Turn.{Turn}
use Rattle.serve_turns.specs.declared.event_book.turn.What.{What}
use Rattle.serve_turns.specs.declared.event_book.turn.What.TheVariants.{Accept, Message, End}

-- of a server what it shows, the count of its disk's faults at which it stopped, and that count
module _ {S : Type 0} (shows : S → Users → model.Server → Logons → List model.Record → Type 0) (stopped : S → Option ℕ)
    (faults : S → ℕ) where
  -- it has not stopped, and shows a state
  abbrev pub GoesOn : EventBook S → Users → Showing
  GoesOn book users = Onward (shows book.server users) None (stopped book.server)

  -- a server that had stopped says so, and stays as it was, its disk too
  abbrev pub StaysHalted : EventBook S → Option (Result Reply ServeError) → EventBook S → Type 0
  StaysHalted old reply new = (count : ℕ) → stopped old.server ≡ Some count
      → (reply ≡ Some (Err (errors.Stopped count))) × (new.server ≡ old.server)

  -- a connection is made or lost: what the step says of the event
  pub record HearsEvent (old : EventBook S) (now : ℕ) (event : ServerEvent) (t : Answer) (new : EventBook S) : Type 0 where
    pub reply : Result Reply ServeError
    pub is : t.reply ≡ Some reply
    pub no_frame : t.frame ≡ None
    pub serves : (users : Users) (s : model.Server) (L : Logons) (records : List model.Record) → shows old.server users s L records
        → ServerServes (shows new.server users) users s L records now event reply
    pub halts : (users : Users) (s : model.Server) (L : Logons) (records : List model.Record) → shows old.server users s L records
        → Halts (stopped old.server) (stopped new.server) reply
    pub fault : (users : Users) (s : model.Server) (L : Logons) (records : List model.Record) → GoesOn old users s L records → (count : ℕ)
        → reply ≡ Err (errors.Stopped count) → StopsAtFault (faults old.server) (faults new.server) count
    pub halted : StaysHalted old t.reply new

  -- what the step says of what a message of a checked frame asks, by what its connection tells of it
  pub record AnswersMessage (old : EventBook S) (now : ℕ) (x : CheckedFrame) (at : ℕ) (told : Told) (reply : EventAnswer)
      (new : EventBook S) : Type 0 where
    pub gives : (z : ServerSettings) (s : model.Server) (L : Logons) (records : List model.Record) (m : Checked)
        → GoesOn old z.users s L records → slice_get x.messages.items at ≡ Some m
        → ToldGives (GoesOn new z.users) z now s L records told m x.bytes.items reply
    pub short : AreShortIf reply
    pub stops : (count : ℕ) → stop_in reply ≡ Some count → stopped new.server ≡ Some count
    pub fault : (users : Users) (s : model.Server) (L : Logons) (records : List model.Record) → GoesOn old users s L records → (count : ℕ)
        → stop_in reply ≡ Some count → StopsAtFault (faults old.server) (faults new.server) count
    pub halted : StaysHalted old reply new

  -- a message came; its frame comes back
  pub record AsksEvent (old : EventBook S) (now : ℕ) (a : Asks) (t : Answer) (new : EventBook S) : Type 0 where
    pub frame : t.frame ≡ Some a.frame
    pub answers : AnswersMessage old now a.frame a.at a.told t.reply new

  abbrev pub EventStepsFor : What → EventBook S → Turn → Answer → EventBook S → Type 0
  EventStepsFor (Accept k) old e t new = HearsEvent old e.now (events.Accept k) t new
  EventStepsFor (Message a) old e t new = AsksEvent old e.now a t new
  EventStepsFor (End k) old e t new = HearsEvent old e.now (events.End k) t new

  -- What comes in front of the event: a server that goes on may renew its journal. Where it stops in that, that is at its disk's count of
  -- faults, which rose, and else that count stays; one that had stopped stays as it was, its disk too.
  pub record RenewsBook (old mid : EventBook S) : Type 0 where
    pub renewed : (users : Users) (s : model.Server) (L : Logons) (records : List model.Record) → GoesOn old users s L records
        → RenewedTo (shows mid.server users) (stopped mid.server) s L records
    pub fault : (users : Users) (s : model.Server) (L : Logons) (records : List model.Record) → GoesOn old users s L records → (count : ℕ)
        → stopped mid.server ≡ Some count → StopsAtFault (faults old.server) (faults mid.server) count
    pub calm : (users : Users) (s : model.Server) (L : Logons) (records : List model.Record) → GoesOn old users s L records
        → stopped mid.server ≡ None → faults mid.server ≡ faults old.server
    pub stays : (count : ℕ) → stopped old.server ≡ Some count → mid.server ≡ old.server

  -- a turn of a connection, by what it is for
  abbrev pub EventSteps : EventBook S → Turn → Answer → EventBook S → Type 0
  EventSteps old e t new = (mid : EventBook S) × RenewsBook old mid × EventStepsFor e.what mid e t new

  -- what it is at a place of its history; where it has stopped, that is at its disk's count of faults
  abbrev pub ShowsStanding : Users → EventBook S → Standing → Type 0
  ShowsStanding users book (On s) = GoesOn book users s.server s.logons s.records
  ShowsStanding users book (Off count) = (stopped book.server ≡ Some count) × (count ≡ faults book.server)
