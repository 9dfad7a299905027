-- How each channel of the client stands in every world that a run leads to, and what waits of its dialog.
use Rattle.std.specs.Prelude.{◌≡◌, ℕ, ◌<◌, Bool, true, false, [], ◌∷◌, Some, slice_get}
use Rattle.spec_exchange.specs.Commands.{Command, Setup}
use Rattle.spec_exchange.specs.Client.{Client, Identity, Stage, Apart}
use Rattle.spec_exchange.specs.Schedules.{is_talking}
use Rattle.spec_exchange.specs.Network.{Conn, Sent, Received, ForDialog}
use Rattle.law_sessions.specs.sessions.Sessions.{makes_session}

-- What waits of a dialog that was begun: its message alone, its reply alone, or nothing, where the server's end closed
-- before it took the message.
pub data Awaits (conn : Conn) : Type 0 where
  MessageAlone : (x : Sent) → conn.up ≡ x ∷ [] → conn.down ≡ [] → x.token ≡ ForDialog → Awaits conn
  ReplyAlone : (y : Received) → conn.up ≡ [] → conn.down ≡ y ∷ [] → y.token ≡ ForDialog → Awaits conn
  IsLost : conn.server_open ≡ false → conn.up ≡ [] → conn.down ≡ [] → Awaits conn

-- A channel is closed, or ready, or in its dialog: so a ready channel's dialog is over, and an open end whose dialog is
-- over is ready.
pub data Channel (ready : Bool) (stage : Stage) (conn : Conn) : Type 0 where
  IsClosed : ready ≡ false → stage ≡ Apart → conn.client_open ≡ false → conn.down ≡ [] → Channel ready stage conn
  IsReady : ready ≡ true → stage ≡ Apart → conn.client_open ≡ true → Channel ready stage conn
  IsInDialog : ready ≡ false → is_talking stage ≡ true → conn.client_open ≡ true → Awaits conn → Channel ready stage conn

-- of every channel
abbrev pub Channels : Client → (ℕ → Conn) → Type 0
Channels c conns = (k : ℕ) → Channel (c.ready k) (c.stage k) (conns k)

-- the session in the making has its dialog there
abbrev pub MakingTalks : Client → Type 0
MakingTalks c = (k : ℕ) → c.making ≡ Some k → makes_session (c.stage k) ≡ true

-- a SESSION_SETUP that carries a signature
unfoldable pub is_signed : Command → Bool
is_signed (Setup request) = request.signed
is_signed _ = false

-- a signed SESSION_SETUP that waits, on whichever connection, is of a session that the client accepted
abbrev pub SignedUp : Client → (ℕ → Conn) → Type 0
SignedUp c conns = (k n : ℕ) (x : Sent) → slice_get (conns k).up n ≡ Some x → is_signed x.message.command ≡ true
    → 0 < c.rank x.message.session_id

pub record Dialogs (identity : Identity) (c : Client) (conns : ℕ → Conn) : Type 0 where
  pub who : c.who ≡ identity
  pub channels : Channels c conns
  pub making_talks : MakingTalks c
  pub signed_up : SignedUp c conns
