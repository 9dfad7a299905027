-- What holds of channel numbers and counters in every world of a run, tampered with or not.
use Rattle.std.specs.Prelude.{◌≡◌, ℕ, ◌≤◌, ◌<◌, ◌^◌, Bool, true, false, ◌&&◌, if◌then◌else◌, List, Option, Some, None, is_some, slice_get}
use Rattle.spec_exchange.specs.Table.{put}
use Rattle.spec_exchange.specs.Opens.{id_of}
use Rattle.spec_exchange.specs.State.{Server, Making, NewSession, Record}
use Rattle.spec_exchange.specs.Network.{World as Values, Conn}
use Rattle.spec_crypto.specs.declared.sessions.material.Keys.{Keys}
use Rattle.law_server.specs.tables.Fits.{Fits, all_sound}
use Rattle.law_records.specs.recovery.Recovers.{RecordRecovers}
use Rattle.spec_world.specs.Ends.{ServerEnd, Logons}
use Rattle.spec_world.specs.Answering.{Seal}
use Rattle.spec_world.specs.Logon.{Progress, Stays, Interim, Final}
use Rattle.spec_world.specs.World.{World, Wires}

-- ---- the server's tables fit together, and the records stand for them

pub record AreTables (rs : List Record) (s : Server) : Type 0 where
  pub fit : Fits s
  pub sound : all_sound rs ≡ true
  pub recovers : RecordRecovers rs s

-- ---- the numbers of channels; drawn has the highest one that was ever given in a session, be it there or gone

pub record AreDrawn (is_there : ℕ → Bool) (numbers : ℕ → ℕ) (being_made : ℕ → Option Making) (last : ℕ) (drawn : ℕ → ℕ) : Type 0 where
  pub present : (x : ℕ) → is_there x ≡ true → drawn x ≡ numbers x
  pub making : (k x : ℕ) → being_made k ≡ Some (NewSession x) → drawn x ≡ 0
  pub fresh : (x : ℕ) → last < x → drawn x ≡ 0

abbrev pub NonceDraws : Server → (ℕ → ℕ) → Type 0
NonceDraws s drawn = AreDrawn s.present s.channel_numbers_drawn s.making (id_of s.epoch s.session_ids_given) drawn

-- behind a reply to a message of session x
abbrev pub next_drawn : (ℕ → ℕ) → ℕ → Progress → ℕ → ℕ
next_drawn drawn x Stays = drawn
next_drawn drawn x (Interim binding) = drawn
next_drawn drawn x (Final binding channel encrypts) = put drawn x channel

abbrev pub DrawsOn : (ℕ → ℕ) → ℕ → Progress → Type 0
DrawsOn drawn x Stays = Unit {0}
DrawsOn drawn x (Interim binding) = Unit {0}
DrawsOn drawn x (Final binding channel encrypts) = (drawn x < channel) × (channel < 2 ^ 16)

-- ---- the keys of a session that is there name it

abbrev pub key_sessions : Logons → ℕ → ℕ
key_sessions L = λ x. (L.keys x).session

abbrev pub AreNamed : Server → (ℕ → ℕ) → Type 0
AreNamed s names = (x : ℕ) → s.present x ≡ true → names x ≡ x

abbrev pub next_names : (ℕ → ℕ) → ℕ → Progress → ℕ → ℕ
next_names names x Stays = names
next_names names x (Interim binding) = names
next_names names x (Final binding channel encrypts) = if binding then names else put names x x

-- a channel is bound to a session whose keys name it
abbrev pub IsKeyed : (ℕ → ℕ) → ℕ → Progress → Type 0
IsKeyed names x Stays = Unit {0}
IsKeyed names x (Interim binding) = Unit {0}
IsKeyed names x (Final binding channel encrypts) = (if binding then names x else x) ≡ x

-- ---- the ends that seal to the client: one that has no keys, or has closed, is off

pub record Sealer : Type 0 where
  pub is_on : Bool
  pub session : ℕ
  pub channel : ℕ
  pub counter : ℕ

abbrev pub session_of : Option Keys → ℕ
session_of None = 0
session_of (Some keys) = keys.session

abbrev pub sealer_of : Bool → ServerEnd → Sealer
sealer_of server_open f = record {
  is_on = server_open && is_some f.keys;
  session = session_of f.keys;
  channel = f.channel;
  counter = f.counter;
}

abbrev pub sealers : (ℕ → Conn) → (ℕ → Wires) → ℕ → Sealer
sealers conns wires = λ k. sealer_of (conns k).server_open (wires k).server_end

-- ---- no two seals agree; an end's counter is above all that was sealed under its session and number, and no other end has both

pub record AreOne (u v : Seal) : Type 0 where
  pub session : u.session ≡ v.session
  pub channel : u.channel ≡ v.channel
  pub counter : u.counter ≡ v.counter

abbrev pub ToClient : List Seal → ℕ → Seal → Type 0
ToClient us i u = (slice_get us i ≡ Some u) × (u.to_server ≡ false)

pub record NonceNumbered (us : List Seal) (ends : ℕ → Sealer) (drawn : ℕ → ℕ) : Type 0 where
  pub once : (i j : ℕ) (u v : Seal) → ToClient us i u → ToClient us j v → AreOne u v → i ≡ j
  pub below :
      (i k : ℕ) (u : Seal) → ToClient us i u → (ends k).is_on ≡ true → u.session ≡ (ends k).session →
      u.channel ≡ (ends k).channel → u.counter < (ends k).counter
  pub apart :
      (j k : ℕ) → (ends j).is_on ≡ true → (ends k).is_on ≡ true → (ends j).session ≡ (ends k).session →
      (ends j).channel ≡ (ends k).channel → j ≡ k
  pub used : (i : ℕ) (u : Seal) → ToClient us i u → u.channel ≤ drawn u.session
  pub held : (k : ℕ) → (ends k).is_on ≡ true → (ends k).channel ≤ drawn (ends k).session
  pub bounds : (i : ℕ) (u : Seal) → ToClient us i u → (u.channel < 2 ^ 16) × (u.counter < 2 ^ 64)
  pub end_bounds : (k : ℕ) → (ends k).is_on ≡ true → (ends k).channel < 2 ^ 16

-- ---- all of it, of a world

pub record NonceKept (v : Values) (wires : ℕ → Wires) (L : Logons) (us : List Seal) : Type 0 where
  pub drawn : ℕ → ℕ
  pub tables : AreTables v.records v.server
  pub draws : NonceDraws v.server drawn
  pub named : AreNamed v.server (key_sessions L)
  pub numbered : NonceNumbered us (sealers v.conns wires) drawn

abbrev pub NonceKeeps : World → Type 0
NonceKeeps w = NonceKept w.values w.wires w.logons w.sealings
