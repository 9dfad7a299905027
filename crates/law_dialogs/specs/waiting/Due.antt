-- What the laws on values say of a world whose values are those of a run of the model, as far as it keeps the ends of a connection tied.
use Rattle.std.specs.Prelude.{◌≡◌, ℕ, ◌<◌, true, false, List, [], ◌∷◌}
use Rattle.spec_exchange.specs.Client.{Apart}
use Rattle.spec_exchange.specs.Network.{Event, Sent, Received, ForDialog, run, start}
use Rattle.law_sessions.specs.sessions.Sessions.{makes_session}
use Rattle.spec_world.specs.Settings.{WorldSettings, identity_of, values_of}
use Rattle.spec_world.specs.World.{World}
use Rattle.law_ties.specs.events.Links.{is_lined}
use Rattle.law_ties.specs.events.InStep.{RepliesAreDue, RepliesAreTaken}
use Rattle.law_ties.specs.events.Taken.{IsAlone, IsQuiet}
use Rattle.law_ties.specs.channel_numbers.Counted.{binds}

pub record IsWaitingDue (z : WorldSettings) (w : World) : Type 0 where
  pub who : w.values.client.who ≡ identity_of z
  pub due : RepliesAreDue w
  pub taken : RepliesAreTaken w
  -- an operation has one copy on a connection
  pub alone : (k : ℕ) (y : Received) (ys : List Received) → (w.values.conns k).down ≡ y ∷ ys → IsAlone w k y ys
  -- while a session is in the making no other dialog is on its way
  pub quiet : (k : ℕ) → makes_session (w.values.client.stage k) ≡ true → IsQuiet w k
  pub bound_session :
      (k : ℕ) → binds (w.values.client.stage k) ≡ true →
      (w.values.client.session ≡ w.values.client.accepted) × (0 < w.values.client.rank w.values.client.accepted)
  -- a ready channel's dialog is over
  pub ready : (k : ℕ) → w.values.client.ready k ≡ true → ((w.values.conns k).client_open ≡ true) × (w.values.client.stage k ≡ Apart)
  -- a dialog's message that waits is alone, where the client waits for it
  pub talks :
      (k : ℕ) (x : Sent) (xs : List Sent) → (w.values.conns k).client_open ≡ true → is_lined (w.values.client.stage k) ≡ false →
      (w.values.conns k).up ≡ x ∷ xs → (xs ≡ []) × (x.token ≡ ForDialog)

abbrev pub WorldsAreDue : Type 0
WorldsAreDue = (z : WorldSettings) (w : World) (events : List Event) → w.values ≡ run events (start (values_of z)) → IsWaitingDue z w
