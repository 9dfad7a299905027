-- What keeps ends tied behind a Serve of a dialog's NEGOTIATE or SESSION_SETUP, and a Crash that keeps one.
use Rattle.std.specs.Prelude.{◌≡◌, ℕ, ◌==◌, ◌<◌, ◌^◌, Bool, true, false, not, List, [], ◌∷◌}
use Rattle.spec_exchange.specs.Status.{success}
use Rattle.spec_exchange.specs.Commands.{Setup, SetupRequest, Logon}
use Rattle.spec_exchange.specs.State.{Reply}
use Rattle.spec_exchange.specs.Client.{Stage, SaidSecond}
use Rattle.spec_exchange.specs.Network.{Serve, Crash, Sent, Received, ForDialog, answer}
use Rattle.spec_crypto.specs.sessions.Derivation.{known}
use Rattle.spec_world.specs.Settings.{WorldSettings, chosen_of, logon_of}
use Rattle.spec_world.specs.Logon.{Progress, Final, progress}
use Rattle.spec_world.specs.World.{World}
use Rattle.spec_world.specs.Events.{Plain, bytes_happen}
use Rattle.law_ties.specs.wire_facts.Lawful.{IsLawful}
use Rattle.law_ties.specs.events.Links.{is_lined, IsTied}
use Rattle.law_ties.specs.requests.Lines.{is_lines}
use Rattle.law_ties.specs.channel_numbers.Counted.{binds}
use Rattle.spec_commands.specs.ReplyBody.{seals_in}

-- ---- a SESSION_SETUP changes the server's logons: those of its connection, and the keys of one session

-- a new session's keys are noted
abbrev pub begins_new : Progress → Bool
begins_new (Final binding channel encrypts) = not binding
begins_new _ = false

-- the sessions whose keys stay
abbrev pub Spare : ℕ → Progress → ℕ → Type 0
Spare session p y = begins_new p ≡ true → y ≡ session → ⊥

-- each signed SESSION_SETUP that waits is of such a session
abbrev pub AllSpared : (ℕ → Type 0) → List Sent → Type 0
AllSpared spared [] = Unit {0}
AllSpared spared (x ∷ xs) =
    ((r : SetupRequest) → x.message.command ≡ Setup r → r.signed ≡ true → spared x.message.session_id) × AllSpared spared xs

-- and so is a new session whose success waits
abbrev pub is_new_second : Stage → Bool
is_new_second (SaidSecond false) = true
is_new_second _ = false

abbrev pub PendingSpared : (ℕ → Type 0) → ℕ → Stage → List Received → Type 0
PendingSpared spared pending stage ys =
    (y : Received) → ys ≡ y ∷ [] → y.token ≡ ForDialog → is_new_second stage ≡ true → (y.reply.status == success) ≡ true → spared pending

pub record IsApart (w : World) (session : ℕ) (p : Progress) : Type 0 where
  pub setups : (j : ℕ) → AllSpared (Spare session p) (w.values.conns j).up
  pub pending : (j : ℕ) → PendingSpared (Spare session p) w.values.client.pending (w.wires j).client_end.stage (w.values.conns j).down
  pub accepted : 0 < w.values.client.rank w.values.client.accepted → Spare session p w.values.client.accepted

-- ---- the front of what goes up, which is alone

pub record ReplyHeaderFits (r : Reply) : Type 0 where
  pub status : r.status < 256 ^ 4
  pub session : r.session_id < 256 ^ 8
  pub tree : r.tree_id < 256 ^ 4

-- a dialog's request that isn't a line's
pub record IsTalk (w : World) (k : ℕ) (x : Sent) : Type 0 where
  pub own : x.token ≡ ForDialog
  pub talks : is_lines x.message.command ≡ false
  pub apart : IsApart w x.message.session_id (progress x.message.command (answer w.values x).reply)

pub record IsDialogFront (z : WorldSettings) (w : World) (k : ℕ) (x : Sent) (xs : List Sent) : Type 0 where
  pub talk : IsTalk w k x
  pub alone : xs ≡ []
  pub unlined : (w.values.conns k).client_open ≡ true → is_lined (w.wires k).client_end.stage ≡ false
  pub fits : ReplyHeaderFits (answer w.values x).reply
  pub moment : w.values.moment < 256 ^ 8
  -- a binding is of the last accepted session
  pub bound_session :
      (w.values.conns k).client_open ≡ true → binds (w.wires k).client_end.stage ≡ true →
      (w.values.client.session ≡ w.values.client.accepted) × (0 < w.values.client.rank w.values.client.accepted)
  -- a success is that of a user, and seals where there is a cipher
  pub logs_on :
      (w.values.conns k).client_open ≡ true → (bound : Bool) → (w.wires k).client_end.stage ≡ SaidSecond bound →
      (answer w.values x).reply.status ≡ success → (user : List ℕ) × (logon_of z ≡ Logon user)
  pub seals : seals_in (answer w.values x).reply.body ≡ true → (known (chosen_of z.client).cipher == 0) ≡ false

abbrev pub DialogServesAreKept : Type 0
DialogServesAreKept =
    (z : WorldSettings) (w : World) (k : ℕ) (x : Sent) (xs : List Sent) → IsLawful z → IsTied z w →
    (w.values.conns k).server_open ≡ true → (w.values.conns k).up ≡ x ∷ xs → IsDialogFront z w k x xs →
    IsTied z (bytes_happen z w (Plain (Serve k)))

-- ---- a Crash that keeps such a request: what the server took stands, and every server's end closes

abbrev pub DialogCrashesAreKept : Type 0
DialogCrashesAreKept =
    (z : WorldSettings) (w : World) (k : ℕ) (x : Sent) (xs : List Sent) → IsTied z w → (w.values.conns k).server_open ≡ true →
    (w.values.conns k).up ≡ x ∷ xs → IsTalk w k x → IsTied z (bytes_happen z w (Plain (Crash k true)))
