-- What the client seals, and what holds of it in every world of a run.
use Rattle.std.specs.Prelude.{◌≡◌, ℕ, ◌==◌, ◌≤◌, ◌<◌, Bool, true, false, not, ◌||◌, List, [], ◌∷◌, take, Some, slice_get}
use Rattle.spec_exchange.specs.Status.{success}
use Rattle.spec_exchange.specs.Client.{Client, SaidSecond}
use Rattle.spec_exchange.specs.Network.{Event}
use Rattle.spec_world.specs.Settings.{WorldSettings}
use Rattle.spec_world.specs.Ends.{ClientEnd}
use Rattle.spec_world.specs.Messages.{HeardMessage}
use Rattle.spec_world.specs.Dialog.{is_asked, dialog_response}
use Rattle.spec_world.specs.Answering.{Seal}
use Rattle.spec_world.specs.World.{World}
use Rattle.spec_world.specs.Events.{ByteEvent, Plain, bytes_happen, bytes_run, bytes_start}
use Rattle.spec_world.specs.Statements.{IsOneNonce, NoncesOnce, plain_run, IsInStep}
use Rattle.law_ties.specs.channel_numbers.Counted.{binds}
use Rattle.law_nonces.specs.server_nonces.Numbering.{Sealer, NonceNumbered}

-- ---- the statement

abbrev pub NoncesToServerOnce : World → Type 0
NoncesToServerOnce w =
    (i j : ℕ) (a b : Seal) → slice_get w.sealings i ≡ Some a → slice_get w.sealings j ≡ Some b → a.to_server ≡ true
    → IsOneNonce a b → i ≡ j

-- where the success of a binding comes, the number of one more channel fits its field
abbrev pub HasNumber : World → Type 0
HasNumber w =
    (k : ℕ) (b : List ℕ) (bs : List (List ℕ)) (x : HeardMessage) → (w.values.conns k).client_open ≡ true →
    w.values.client.stage k ≡ SaidSecond true → (w.wires k).down ≡ b ∷ bs →
    dialog_response (w.wires k).client_end (SaidSecond true) b ≡ Some x → (x.header.status == success) ≡ true → w.numbers < 65535

-- and where a dialog waits for that of a new session, the client never accepted one of this id
abbrev pub HasNewId : World → Type 0
HasNewId w = (k : ℕ) → w.values.client.stage k ≡ SaidSecond false → w.values.client.rank w.values.client.pending ≡ 0

pub record IsSealingNew (w : World) : Type 0 where
  pub id : HasNewId w
  pub room : HasNumber w

-- in each world of a run before its last event
abbrev pub AreNew : WorldSettings → List ByteEvent → World → Type 0
AreNew z [] w = Unit {0}
AreNew z (e ∷ es) w = IsSealingNew w × AreNew z es (bytes_happen z w e)

-- over every run, tampered with or not
abbrev pub NoncesToServer : Type 0
NoncesToServer =
    (z : WorldSettings) (events : List ByteEvent) → AreNew z events (bytes_start z)
    → NoncesToServerOnce (bytes_run z events (bytes_start z))

-- ---- of runs without tampering, both directions

-- in each world before the last event
abbrev pub HasSealingRoom : WorldSettings → List Event → World → Type 0
HasSealingRoom z [] w = Unit {0}
HasSealingRoom z (e ∷ es) w = HasNumber w × HasSealingRoom z es (bytes_happen z w (Plain e))

-- where each beginning of the run is in step with the model
abbrev pub PlainNonces : Type 0
PlainNonces =
    (z : WorldSettings) (events : List Event) → ((n : ℕ) → IsInStep z (take n events)) → HasSealingRoom z events (bytes_start z)
    → NoncesOnce (plain_run z events)

-- ---- the client's ends that seal: a ready channel's, and a new session's from its TREE_CONNECT on

abbrev pub may_send : Client → ℕ → Bool
may_send c k = c.ready k || is_asked (c.stage k)

abbrev pub sender_of : Bool → ClientEnd → Sealer
sender_of on n = record { is_on = on; session = n.keys.session; channel = n.channel; counter = n.counter }

abbrev pub senders : World → ℕ → Sealer
senders w = λ k. sender_of (may_send w.values.client k) (w.wires k).client_end

-- such an end, and one in a binding, have keys of the client's session
abbrev pub has_keys : Client → ℕ → Bool
has_keys c k = may_send c k || binds (c.stage k)

-- what is sealed, turned around, so that what is said of the other direction speaks of this one
abbrev pub turned_around : Seal → Seal
turned_around u = record u { to_server = not u.to_server }

abbrev pub all_turned : List Seal → List Seal
all_turned [] = []
all_turned (u ∷ us) = turned_around u ∷ all_turned us

-- ---- all of it, of a world

pub record SealingSends (w : World) : Type 0 where
  pub drawn : ℕ → ℕ
  pub numbered : NonceNumbered (all_turned w.sealings) (senders w) drawn
  pub highest : drawn w.keys.session ≤ w.numbers
  pub own : (k : ℕ) → has_keys w.values.client k ≡ true → (w.wires k).client_end.keys.session ≡ w.keys.session
  -- what is sealed is of sessions that were accepted
  pub ranked : (i : ℕ) (u : Seal) → slice_get w.sealings i ≡ Some u → u.to_server ≡ true → 0 < w.values.client.rank u.session
  pub sending : (k : ℕ) → may_send w.values.client k ≡ true → 0 < w.values.client.rank w.keys.session
  pub alive : w.values.client.live ≡ true → 0 < w.values.client.rank w.keys.session
