-- A server whose journal takes space ahead: what it then shows and stands for is as before.
use Rattle.std.specs.Prelude.{◌≡◌, ℕ, Bool, List, Some, None, Result, Ok, Err}
use Rattle.spec_exchange.specs.State as model
use Rattle.law_snapshots.specs.snapshots.Pieces.{SnapshotPiece}
use Rattle.base_outside.specs.streams.Faults.{Rose}
use Rattle.spec_world.specs.Ends.{Logons}
use Rattle.server_checks.specs.declared.setups.error.EventError.{EventError}
use Rattle.server_checks.specs.declared.setups.error.EventError.TheVariants.{Memory, DiskFault, Stopped}
use Rattle.server_core.specs.journaled_tables.Holds.{HoldsOver}
use Rattle.server_core.specs.journaled_tables.Shown.{ServerShown}
use Rattle.server_core.specs.declared.journaled_tables.state.ServerState.{ServerState}

-- whether there was room or not, or no memory, it goes on as it was; or its disk failed, and it stopped
abbrev pub TakesSpace : {D : Type 0} → Type 0 → (D → List ℕ) → (D → List ℕ → Type 0) → (D → ℕ) → List SnapshotPiece → ServerState D
    → ServerState D → model.Server → Logons → List model.Record → Result Bool EventError → Type 0
TakesSpace told seen may_leave faults base old new s L records (Ok whole) =
    (old.stopped ≡ None) × (new.stopped ≡ None) × HoldsOver told seen may_leave base new s L records
TakesSpace told seen may_leave faults base old new s L records (Err Memory) =
    (old.stopped ≡ None) × (new.stopped ≡ None) × HoldsOver told seen may_leave base new s L records
TakesSpace told seen may_leave faults base old new s L records (Err (DiskFault count)) =
    (old.stopped ≡ None) × (new.stopped ≡ Some count) × Rose (faults old.journal.disk) count × (count ≡ faults new.journal.disk)
    × ServerShown new.tables s L
TakesSpace told seen may_leave faults base old new s L records (Err (Stopped count)) = (old.stopped ≡ Some count) × (new ≡ old)
