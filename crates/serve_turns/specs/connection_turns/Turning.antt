-- One turn of a connection at a shared server, as its seat knows it.
use Rattle.std.specs.Prelude.{◌≡◌, ℕ, [], ◌∷◌, ◌++◌}
use Rattle.conn_core.specs.frame_events.Dealing.{AreShortIf, EventAnswer}
use Rattle.serve_turns.specs.declared.connection_turns.turning.Asked.{Asked}
use Rattle.serve_turns.specs.declared.event_book.turn.Answer.{Answer}
use Rattle.serve_turns.specs.declared.event_book.turn.Asks.{Asks}
use Rattle.serve_turns.specs.declared.event_book.turn.Turn.{Turn}
use Rattle.serve_turns.specs.declared.event_book.turn.What.{What}
use Rattle.serve_turns.specs.declared.event_book.turn.What.TheVariants.{Message}
use Rattle.serve_turns.specs.declared.shared_book.view.View.{View}
use Rattle.serve_turns.specs.event_book.History.{Placed}

-- the turn that a message takes
abbrev pub message_turn : ℕ → Asks → Turn
message_turn now a = record { now = now; what = Message a }

-- an event for this
abbrev pub IsThe : What → Placed → Type 0
IsThe what x = x.1.event.what ≡ what

module _ {B : Type 0} where
  -- Between v and w the seat gave the server one message. The frame is as it was.
  pub record AsksOnce (v : View B Turn Answer) (now : ℕ) (a : Asks) (x : Asked) (w : View B Turn Answer) : Type 0 where
    pub turn : Placed
    pub own : w.own ≡ v.own ++ turn ∷ []
    pub event : turn.1.event ≡ message_turn now a
    pub reply : turn.1.reply.reply ≡ x.reply
    pub frame : x.frame ≡ a.frame
    pub short : AreShortIf x.reply

  -- it told the server that a connection was made, or is lost
  pub record HearsOnce (v : View B Turn Answer) (what : What) (reply : EventAnswer) (w : View B Turn Answer) : Type 0 where
    pub turn : Placed
    pub own : w.own ≡ v.own ++ turn ∷ []
    pub is : IsThe what turn
    pub replied : turn.1.reply.reply ≡ reply
