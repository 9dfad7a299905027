-- Lists of what waits that hold no more than before, in any order: what a network that reorders and loses single messages leaves.
use Rattle.std.specs.Prelude.{◌≡◌, ℕ, ◌≤◌, [], Some, slice_get}
use Rattle.spec_exchange.specs.Table.{put}
use Rattle.spec_exchange.specs.State.{Server}
use Rattle.spec_exchange.specs.Client.{Client}
use Rattle.spec_exchange.specs.Network.{World, Conn, Sent, Received}
use Rattle.law_sessions.specs.messages.Connections.{Connections, count_up, count_down}
use Rattle.law_sessions.specs.sessions.Sessions.{Sessions}
use Rattle.law_sessions.specs.sessions.Kinds.{Kinds}
use Rattle.law_creates.specs.Creates.{Creates, Seen}
use Rattle.law_locks.specs.Locks.{Locks}
use Rattle.law_order.specs.order.Newest.{Newest}

-- d is connection c with other lists: each member was there, and no operation has more copies
pub record Sifted (c d : Conn) : Type 0 where
  pub client : d.client_open ≡ c.client_open
  pub server : d.server_open ≡ c.server_open
  pub up : (n : ℕ) (x : Sent) → slice_get d.up n ≡ Some x → (m : ℕ) × (slice_get c.up m ≡ Some x)
  pub down : (n : ℕ) (y : Received) → slice_get d.down n ≡ Some y → (m : ℕ) × (slice_get c.down m ≡ Some y)
  pub none : c.down ≡ [] → d.down ≡ []
  pub fewer_up : (g : ℕ) → count_up g d.up ≤ count_up g c.up
  pub fewer_down : (g : ℕ) → count_down g d.down ≤ count_down g c.down

-- each record that the laws on once and newer rest on stays
abbrev pub ConnectionsSift : Type 0
ConnectionsSift =
    (c : Client) (conns : ℕ → Conn) (a : ℕ → ℕ) (k : ℕ) (d : Conn) → Sifted (conns k) d → Connections c conns a
    → Connections c (put conns k d) a

abbrev pub SessionsSift : Type 0
SessionsSift =
    (c : Client) (conns : ℕ → Conn) (s : Server) (k : ℕ) (d : Conn) → Sifted (conns k) d → Sessions c conns s
    → Sessions c (put conns k d) s

abbrev pub KindsSift : Type 0
KindsSift =
    (c : Client) (conns : ℕ → Conn) (s : Server) (k : ℕ) (d : Conn) → Sifted (conns k) d → Kinds c conns s → Kinds c (put conns k d) s

abbrev pub CreatesSift : Type 0
CreatesSift =
    (c : Client) (conns : ℕ → Conn) (v : Seen) (a : ℕ → ℕ) (k : ℕ) (d : Conn) → Sifted (conns k) d → Creates c conns v a
    → Creates c (put conns k d) v a

abbrev pub LocksSift : Type 0
LocksSift =
    (c : Client) (conns : ℕ → Conn) (s : Server) (a : ℕ → ℕ) (k : ℕ) (d : Conn) → Sifted (conns k) d → Locks c conns s a
    → Locks c (put conns k d) s a

abbrev pub NewestSifts : Type 0
NewestSifts = (w : World) (k : ℕ) (d : Conn) → Sifted (w.conns k) d → Newest w → Newest (record w { conns = put w.conns k d })
