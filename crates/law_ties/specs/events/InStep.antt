-- A world whose ends are tied together goes in step, whatever happens next; and what keeps them tied.
use Rattle.std.specs.Prelude.{◌≡◌, ℕ, ◌≤◌, Bool, true, false, not, List, [], ◌∷◌}
use Rattle.spec_exchange.specs.Client.{Apart, AskedTree}
use Rattle.spec_exchange.specs.Network.{Event, Submit, Cut, Drop, Restart, Crash, Wait, Finish, Received, ForDialog, op_of, happens}
use Rattle.spec_world.specs.Settings.{WorldSettings}
use Rattle.spec_world.specs.World.{World}
use Rattle.spec_world.specs.Events.{Plain, bytes_happen, bytes_start}
use Rattle.spec_world.specs.Statements.{value_event, RequestsAreHeard}
use Rattle.law_ties.specs.events.Links.{IsTied}

-- what the laws on values say of whose replies come: on a line operations', and the dialog's where its TREE_CONNECT was asked
pub record RepliesAreDue (w : World) : Type 0 where
  pub operations :
      (k : ℕ) (y : Received) (ys : List Received) → (w.values.conns k).client_open ≡ true → w.values.client.stage k ≡ Apart →
      (w.values.conns k).down ≡ y ∷ ys → y.token ≡ ForDialog → ⊥
  pub dialogs :
      (k : ℕ) (y : Received) (ys : List Received) → (w.values.conns k).client_open ≡ true → w.values.client.stage k ≡ AskedTree →
      (w.values.conns k).down ≡ y ∷ ys → y.token ≡ ForDialog

-- each event does to the values what it does in the model, and what goes up is heard as the message that it was made for
pub record GoesInStep (z : WorldSettings) (w : World) : Type 0 where
  pub values : (e : Event) → (bytes_happen z w (Plain e)).values ≡ happens w.values (value_event w e)
  pub requests : RequestsAreHeard z w

abbrev pub TiedGoesInStep : Type 0
TiedGoesInStep = (z : WorldSettings) (w : World) → IsTied z w → RepliesAreDue w → GoesInStep z w

-- ---- what keeps ends tied: the events that close ends, and those of the client alone

abbrev pub only_closes : Event → Bool
only_closes (Submit g op) = true
only_closes (Cut k) = true
only_closes (Drop k) = true
only_closes Restart = true
only_closes (Crash k kept) = not kept
only_closes (Wait n) = true
only_closes (Finish refusal) = true
only_closes _ = false

-- each reply that comes is of an operation that was taken
abbrev pub AllTaken : ℕ → List Received → Type 0
AllTaken taken [] = Unit {0}
AllTaken taken (y ∷ ys) = (op_of y.token ≤ taken) × AllTaken taken ys

abbrev pub RepliesAreTaken : World → Type 0
RepliesAreTaken w = (k : ℕ) → AllTaken w.values.client.taken (w.values.conns k).down

-- the opening state is tied, and behind such an event the world is
pub record EndsStayTied (z : WorldSettings) : Type 0 where
  pub start : IsTied z (bytes_start z)
  pub closing :
      (w : World) (e : Event) → only_closes e ≡ true → RepliesAreTaken w → IsTied z w → IsTied z (bytes_happen z w (Plain e))

abbrev pub TiesAreKept : Type 0
TiesAreKept = (z : WorldSettings) → EndsStayTied z
