-- What writing a body comes to.
use Rattle.std.specs.Prelude.{◌≡◌, ℕ, ◌+◌, List, Some, Result, Ok, Err}
use Rattle.journal_bytes.specs.record_bodies.Body.{added_by}
use Rattle.server_checks.specs.declared.setups.error.EventError.{EventError}
use Rattle.server_checks.specs.declared.setups.error.EventError.TheVariants.{Memory, DiskFault, Stopped}
use Rattle.server_core.specs.declared.journaled_tables.state.ServerState.{ServerState}
use Rattle.base_outside.specs.streams.Faults.{Rose}

-- The journal uses a body more, or the disk failed and the server stops. It speaks of no table.
abbrev pub WritesBut : {D A : Type 0} → (D → ℕ) → ServerState D → List ℕ → Result A EventError → ServerState D → Type 0
WritesBut faults old body (Ok u) new = (new.stopped ≡ old.stopped)
    × (new.journal.stopped ≡ old.journal.stopped) × (new.journal.used ≡ old.journal.used + added_by body)
WritesBut faults old body (Err Memory) new = ⊥
WritesBut faults old body (Err (DiskFault count)) new = (new.stopped ≡ Some count)
    × (new.journal.stopped ≡ Some count) × Rose (faults old.journal.disk) count × (count ≡ faults new.journal.disk)
WritesBut faults old body (Err (Stopped count)) new = ⊥
