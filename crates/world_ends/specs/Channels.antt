-- A connection in code shows one of the definitions: its two ends, and what is on its way.
use Rattle.std.specs.Prelude.{◌≡◌, ℕ, ◌≤◌, ◌<◌, ◌^◌, Bool, true, false, List, [], ◌∷◌, length, slice_get, Option, Some, None, ⊤}
use Rattle.spec_exchange.specs.Client.{Client, Stage, Apart}
use Rattle.spec_exchange.specs.Network.{Conn as Link, Sent, Received, op_of, max_channel}
use Rattle.spec_crypto.specs.sessions.Nonces.{last_counter}
use Rattle.spec_crypto.specs.declared.sessions.material.Keys.{Keys}
use Rattle.spec_world.specs.World.{Wires}
use Rattle.spec_world.specs.Ends.{ClientEnd, ServerEnd}
use Rattle.conn_core.specs.declared.conn.Conn.{Conn}
use Rattle.conn_core.specs.Shown.{ShowsEnd}
use Rattle.client_ends.specs.declared.ends.config.Bound.{Bound}
use Rattle.client_ends.specs.declared.ends.config.ClientConfig.{ClientConfig}
use Rattle.client_ends.specs.declared.ends.dialog.Dialog.{Dialog}
use Rattle.client_ends.specs.declared.ends.dialog.Stage.{Stage as DialogStage}
use Rattle.client_ends.specs.declared.ends.dialog.Stage.TheVariants as stages
use Rattle.client_ends.specs.declared.ends.line.Line.{Line}
use Rattle.client_ends.specs.ends.Shown.{ShowsDialog, ShowsLine, token_of}
use Rattle.world_ends.specs.declared.sides.Channel.{Channel}
use Rattle.world_ends.specs.declared.sides.ClientSide.{ClientSide}
use Rattle.world_ends.specs.declared.sides.ClientSide.TheVariants.{Closed, Talks, Ready}
use Rattle.world_ends.specs.declared.sides.Down.{Down}
use Rattle.world_ends.specs.declared.sides.Up.{Up}

-- ---- the columns of the client at which connections look

pub record ChannelSeen : Type 0 where
  pub ready : ℕ → Bool
  pub stage : ℕ → Stage
  pub making : Option ℕ
  pub live : Bool
  pub session : ℕ
  pub tree : ℕ
  pub accepted : ℕ
  pub pending : ℕ

abbrev pub seen_of : Client → ChannelSeen
seen_of c = record {
  ready = c.ready;
  stage = c.stage;
  making = c.making;
  live = c.live;
  session = c.session;
  tree = c.tree;
  accepted = c.accepted;
  pending = c.pending;
}

-- ---- a dialog's own values are those of the client

-- it goes on: it has neither ended nor been refused
abbrev pub ChannelGoesOn : DialogStage → Type 0
ChannelGoesOn stages.SaidNegotiate = ⊤
ChannelGoesOn stages.SaidFirst = ⊤
ChannelGoesOn stages.SaidSecond = ⊤
ChannelGoesOn stages.AskedTree = ⊤
ChannelGoesOn stages.Joined = ⊥
ChannelGoesOn (stages.Refused why) = ⊥
ChannelGoesOn stages.Over = ⊥

-- the session in the making, once the interim response told it
abbrev pub session_at : DialogStage → ℕ → ℕ
session_at stages.SaidSecond pending = pending
session_at stages.AskedTree pending = pending
session_at _ pending = 0

-- the last session that was accepted before it, until its own is
abbrev pub IsPrevious : DialogStage → ℕ → ℕ → Type 0
IsPrevious stages.AskedTree previous accepted = ⊤
IsPrevious _ previous accepted = previous ≡ accepted

-- a binding is to the session that is live
pub record IsChannelBinding (keys : Keys) (c : ChannelSeen) (b : Bound) : Type 0 where
  pub live : c.live ≡ true
  pub session : b.session ≡ c.session
  pub tree : b.tree ≡ c.tree
  pub keys_are : b.keys ≡ keys
  pub known : b.keys.cipher ≤ 4

-- else its session is in the making on its connection
pub record IsMaking (k : ℕ) (c : ChannelSeen) (d : Dialog) : Type 0 where
  pub making : c.making ≡ Some k
  pub apart : c.live ≡ false
  pub previous : IsPrevious d.stage d.previous c.accepted
  pub session : d.session ≡ session_at d.stage c.pending

abbrev pub IsChannelFor : ℕ → Keys → ChannelSeen → Dialog → Option Bound → Type 0
IsChannelFor k keys c d None = IsMaking k c d
IsChannelFor k keys c d (Some b) = IsChannelBinding keys c b

-- ---- the client's end

pub record ChannelShowsTalk (k : ℕ) (settings : ClientConfig) (keys : Keys) (c : ChannelSeen) (n : ClientEnd) (d : Dialog) : Type 0 where
  pub goes_on : ChannelGoesOn d.stage
  pub shown : ShowsDialog d n
  pub stage : c.stage k ≡ n.stage
  pub unready : c.ready k ≡ false
  pub config : d.config ≡ settings
  pub own : IsChannelFor k keys c d d.bound

pub record ShowsReady (k : ℕ) (c : ChannelSeen) (n : ClientEnd) (l : Line) : Type 0 where
  pub shown : ShowsLine l n
  pub over : n.stage ≡ Apart
  pub apart : c.stage k ≡ Apart
  pub ready : c.ready k ≡ true

-- whether it is open there
abbrev pub ShowsClientSide : ℕ → ClientConfig → Keys → ChannelSeen → Bool → ClientEnd → ClientSide → Type 0
ShowsClientSide k settings keys c there n Closed = (there ≡ false) × (c.ready k ≡ false)
ShowsClientSide k settings keys c there n (Talks d) = (there ≡ true) × ChannelShowsTalk k settings keys c n d
ShowsClientSide k settings keys c there n (Ready l) = (there ≡ true) × ShowsReady k c n l

-- ---- the server's end

-- its nonces aren't all given
abbrev pub ShowsServerSide : ℕ → List ℕ → Bool → ServerEnd → Option Conn → Type 0
ShowsServerSide k guid there f None = there ≡ false
ShowsServerSide k guid there f (Some x) = (there ≡ true) × ShowsEnd k guid x f × (f.counter ≤ last_counter)

-- ---- what is on its way: each frame, and beside it the token or the place that the definitions have there

-- frames are short, and tokens of operations that were taken
pub record IsUp (taken : ℕ) (u : Up) (b : List ℕ) (x : Sent) : Type 0 where
  pub bytes : b ≡ u.bytes.items
  pub token : x.token ≡ token_of u.token
  pub below : op_of x.token ≤ taken
  pub short : length b < 2 ^ 60

abbrev pub AreUp : ℕ → List Up → List (List ℕ) → List Sent → Type 0
AreUp taken [] [] [] = ⊤
AreUp taken (u ∷ us) (b ∷ bs) (x ∷ xs) = IsUp taken u b x × AreUp taken us bs xs
AreUp taken _ _ _ = ⊥

pub record IsDown (d : Down) (b : List ℕ) (y : Received) : Type 0 where
  pub bytes : b ≡ d.bytes.items
  pub place : y.place ≡ d.place
  pub short : length b < 2 ^ 60

abbrev pub AreDown : List Down → List (List ℕ) → List Received → Type 0
AreDown [] [] [] = ⊤
AreDown (d ∷ ds) (b ∷ bs) (y ∷ ys) = IsDown d b y × AreDown ds bs ys
AreDown _ _ _ = ⊥

-- ---- a connection

pub record ShowsChannel (k : ℕ) (settings : ClientConfig) (guid : List ℕ) (keys : Keys) (taken : ℕ) (c : ChannelSeen) (i : Link) (u : Wires)
    (x : Channel) : Type 0 where
  pub client : ShowsClientSide k settings keys c i.client_open u.client_end x.client
  pub server : ShowsServerSide k guid i.server_open u.server_end x.server
  pub up : AreUp taken x.up.items u.up i.up
  pub down : AreDown x.down.items u.down i.down

-- there are 256 of them, and beyond those both ends are closed
pub record ShowsChannels (settings : ClientConfig) (guid : List ℕ) (keys : Keys) (taken : ℕ) (c : ChannelSeen) (conns : ℕ → Link)
    (wires : ℕ → Wires) (xs : List Channel) : Type 0 where
  pub counted : length xs ≡ max_channel
  pub each : (k : ℕ) (x : Channel) → slice_get xs k ≡ Some x → ShowsChannel k settings guid keys taken c (conns k) (wires k) x
  pub beyond :
      (k : ℕ) → slice_get xs k ≡ None →
      ((conns k).client_open ≡ false) × ((conns k).server_open ≡ false) × (c.ready k ≡ false)
