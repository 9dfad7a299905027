-- Between two events of a repeat run nothing stands on the lists of its world: all that was put stands beside it.
use Rattle.std.specs.Prelude.{◌≡◌, ℕ, List, []}
use Rattle.spec_world.specs.Settings.{WorldSettings}
use Rattle.spec_world.specs.World.{World}
use Rattle.spec_hostile.specs.RepeatRuns.{RepeatEvent}
use Rattle.spec_hostile.specs.HostileNetwork.{repeated}

-- of each connection: its frames, and the values beside them
pub record HasEmptyLists (w : World) : Type 0 where
  pub up : (k : ℕ) → (w.wires k).up ≡ []
  pub down : (k : ℕ) → (w.wires k).down ≡ []
  pub sent : (k : ℕ) → (w.values.conns k).up ≡ []
  pub received : (k : ℕ) → (w.values.conns k).down ≡ []

abbrev pub ListsAreEmpty : Type 0
ListsAreEmpty = (z : WorldSettings) (es : List RepeatEvent) → HasEmptyLists (repeated z es).world
