-- A write that failed, of which there is no answer, whatever becomes of the tables.
use Rattle.std.proofs.Common.{ℕ, List}
use Rattle.std.specs.Prelude.{Err}
use Rattle.server_checks.specs.declared.tables.Tables.{Tables}
use Rattle.server_effects.specs.declared.answering.Answer.{Answer}
use Rattle.server_checks.specs.declared.setups.error.EventError.{EventError}
use Rattle.server_checks.specs.declared.setups.error.EventError.TheVariants.{DiskFault, Memory, Stopped}
use Rattle.server_core.specs.declared.journaled_tables.state.ServerState.{ServerState}
use Rattle.server_core.specs.recording.Writes.{WritesBut}

pub failed : {D : Type 0} (faults : D → ℕ) (old new : ServerState D) (t : Tables) (body : List ℕ) (x : EventError)
    → WritesBut {A = Unit} faults old body (Err x) new → WritesBut {A = Answer} faults old body (Err x) (record new { tables = t })
failed faults old new t body Memory w = absurd w
failed faults old new t body (DiskFault n) w = w
failed faults old new t body (Stopped n) w = absurd w
