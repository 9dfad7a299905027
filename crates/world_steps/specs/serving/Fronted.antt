-- The front of what goes up to the server, and its connection behind it.
use Rattle.std.specs.Prelude.{◌≡◌, ℕ, Bool, true, false, List, ◌∷◌, Option, Some, None}
use Rattle.conn_core.specs.declared.conn.Conn.{Conn}
use Rattle.spec_exchange.specs.Table.{is_filled}
use Rattle.world_ends.specs.Tests.{is_open}
use Rattle.world_ends.specs.declared.sides.Channel.{Channel}
use Rattle.world_ends.specs.declared.sides.Down.{Down}
use Rattle.world_steps.specs.serving.Said.{SaysAll}
use Rattle.world_steps.specs.declared.serving.fronts.Front.{Front}

-- something goes up; of no connection nothing does
abbrev pub is_fronted : Channel → Bool
is_fronted c = is_filled c.up.items

abbrev pub fronted_in : Option Channel → Bool
fronted_in None = false
fronted_in (Some c) = is_fronted c

-- its end at the server and the front are taken from it
pub record FrontTaken (old : Channel) (f : Front) (new : Channel) : Type 0 where
  pub conn : old.server ≡ Some f.conn
  pub up : old.up.items ≡ f.up ∷ new.up.items
  pub client : new.client ≡ old.client
  pub server : new.server ≡ None
  pub down : new.down.items ≡ old.down.items

-- what goes down of an answer: nothing, where the client's end is closed
abbrev pub SaysBy : Bool → List Down → ℕ → List ℕ → List Down → Type 0
SaysBy true old place answer new = SaysAll old place answer new
SaysBy false old place answer new = new ≡ old

-- it goes on with this end, and the frames of an answer go down
pub record FrontGoesOn (old : Channel) (conn : Conn) (place : ℕ) (answer : List ℕ) (new : Channel) : Type 0 where
  pub client : new.client ≡ old.client
  pub server : new.server ≡ Some conn
  pub up : new.up.items ≡ old.up.items
  pub down : SaysBy (is_open old.client) old.down.items place answer new.down.items
