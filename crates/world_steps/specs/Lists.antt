-- Connections of which one has changed, or each.
use Rattle.std.specs.Prelude.{◌≡◌, ℕ, ◌≤◌, ◌<◌, List, [], length, slice_get, Option, Some, None}
use Rattle.world_ends.specs.declared.sides.Channel.{Channel}
use Rattle.world_ends.specs.declared.sides.ClientSide.TheVariants.{Closed}

-- the client's end is closed, or the server's
pub record ClosesClient (old new : Channel) : Type 0 where
  pub client : new.client ≡ Closed
  pub server : new.server ≡ old.server
  pub up : new.up.items ≡ old.up.items
  pub down : new.down.items ≡ []

pub record ClosesServer (old new : Channel) : Type 0 where
  pub client : new.client ≡ old.client
  pub server : new.server ≡ None
  pub up : new.up.items ≡ []
  pub down : new.down.items ≡ old.down.items

-- the one at k, where there is one, has become another one; the others stay
pub record ChangedAt (R : Channel → Channel → Type 0) (k : ℕ) (old new : List Channel) : Type 0 where
  pub counted : length new ≡ length old
  pub here : (x : Channel) → slice_get old k ≡ Some x → (y : Channel) × (slice_get new k ≡ Some y) × R x y
  pub there : (j : ℕ) → (j ≡ k → ⊥) → slice_get new j ≡ slice_get old j

-- each has
pub record ChangedAll (R : Channel → Channel → Type 0) (old new : List Channel) : Type 0 where
  pub counted : length new ≡ length old
  pub each : (k : ℕ) (y : Channel) → slice_get new k ≡ Some y → (x : Channel) × (slice_get old k ≡ Some x) × R x y
  pub past : (k : ℕ) → slice_get new k ≡ None → slice_get old k ≡ None

-- each below i has, and the others stay
pub record ChangedBelow (R : Channel → Channel → Type 0) (i : ℕ) (old new : List Channel) : Type 0 where
  pub counted : length new ≡ length old
  pub below : (k : ℕ) (y : Channel) → k < i → slice_get new k ≡ Some y → (x : Channel) × (slice_get old k ≡ Some x) × R x y
  pub above : (k : ℕ) → i ≤ k → slice_get new k ≡ slice_get old k
