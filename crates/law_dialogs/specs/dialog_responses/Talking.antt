-- What keeps ends tied behind the Take of a dialog's response that is due, where its next request goes up.
use Rattle.std.specs.Prelude.{◌≡◌, ℕ, ◌==◌, ◌<◌, ◌^◌, Bool, true, false, List, ◌∷◌}
use Rattle.spec_exchange.specs.Client.{Stage, SaidNegotiate, SaidFirst}
use Rattle.spec_exchange.specs.Network.{Take, Received}
use Rattle.spec_world.specs.Settings.{WorldSettings, identity_of}
use Rattle.spec_world.specs.Dialog.{status_due}
use Rattle.spec_world.specs.World.{World}
use Rattle.spec_world.specs.Events.{Plain, bytes_happen}
use Rattle.law_ties.specs.wire_facts.Lawful.{IsLawful}
use Rattle.law_ties.specs.events.Links.{IsTied}
use Rattle.law_ties.specs.events.InStep.{RepliesAreDue}
use Rattle.law_ties.specs.events.Taken.{IsQuiet}
use Rattle.law_ties.specs.channel_numbers.Counted.{binds}

-- a SESSION_SETUP follows
abbrev pub goes_on : Stage → Bool
goes_on (SaidNegotiate bound) = true
goes_on (SaidFirst bound) = true
goes_on _ = false

-- the client is the settings', its sessions' ids fit, a binding is of the last accepted session, and a new session's dialog is alone
pub record IsGoing (z : WorldSettings) (w : World) (k : ℕ) (y : Received) : Type 0 where
  pub who : w.values.client.who ≡ identity_of z
  pub session : w.values.client.session < 256 ^ 8
  pub accepted : w.values.client.accepted < 256 ^ 8
  pub pending : w.values.client.pending < 256 ^ 8
  pub told : y.reply.session_id < 256 ^ 8
  pub bound_session :
      binds (w.values.client.stage k) ≡ true →
      (w.values.client.session ≡ w.values.client.accepted) × (0 < w.values.client.rank w.values.client.accepted)
  pub quiet : binds (w.values.client.stage k) ≡ false → IsQuiet w k

abbrev pub GoingOnIsKept : Type 0
GoingOnIsKept =
    (z : WorldSettings) (w : World) (k : ℕ) (y : Received) (ys : List Received) → IsLawful z → IsTied z w → RepliesAreDue w →
    (w.values.conns k).client_open ≡ true → (w.values.conns k).down ≡ y ∷ ys → goes_on (w.values.client.stage k) ≡ true →
    (y.reply.status == status_due (w.values.client.stage k)) ≡ true → IsGoing z w k y → IsTied z (bytes_happen z w (Plain (Take k)))
