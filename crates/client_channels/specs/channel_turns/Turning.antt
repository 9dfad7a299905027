-- One turn of a channel at the client, as its seat knows it.
use Rattle.std.specs.Prelude.{◌≡◌, ℕ, List, [], ◌∷◌, ◌++◌}
use Rattle.serve_turns.specs.declared.shared_book.view.Entry.{Entry}
use Rattle.client_ends.specs.line_calls.Sending.{CanSend}
use Rattle.client_book.specs.declared.turn.Told.{Told}
use Rattle.client_book.specs.declared.turn.Told.TheVariants as tells
use Rattle.client_book.specs.declared.turn.Turn.{Turn}

-- an event with its place in the history
abbrev pub Placed : Type 0
Placed = ℕ × Entry Turn Told

-- one more turn, of which this was told
pub record TurnsOnce (own : List Placed) (turn : Turn) (told : Told) (own' : List Placed) : Type 0 where
  pub placed : Placed
  pub own_is : own' ≡ own ++ placed ∷ []
  pub event : placed.1.event ≡ turn
  pub reply : placed.1.reply ≡ told

-- a line can send what is told to be sent
abbrev pub CanSendTold : Told → Type 0
CanSendTold (tells.Send request) = CanSend request
CanSendTold _ = Unit {0}
