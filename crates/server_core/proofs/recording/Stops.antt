-- A write that fails stops the server.
use Rattle.std.proofs.Common.{◌≡◌, ℕ, List}
use Rattle.std.specs.Prelude.{Err}
use Rattle.server_core.specs.recording.Writes.{WritesBut}
use Rattle.server_core.specs.declared.journaled_tables.state.ServerState.{ServerState}
use Rattle.server_checks.specs.declared.setups.error.EventError.{EventError}
use Rattle.server_checks.specs.declared.setups.error.EventError.TheVariants.{DiskFault, Memory, Stopped}
use Rattle.server_core.specs.body_writing.Bodies.{WritesBody, stopped_by}

pub stops : {D : Type 0} (faults : D → ℕ) (old new : ServerState D) (b : List ℕ) (x : EventError)
    → WritesBody faults old.journal b (Err x) new.journal → new.stopped ≡ stopped_by x old.stopped
    → WritesBut {A = Unit} faults old b (Err x) new
stops faults old new b Memory w e = absurd w
stops faults old new b (DiskFault n) w e = (e, w.0, w.1, w.2)
stops faults old new b (Stopped n) w e = absurd w
