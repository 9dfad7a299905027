-- An expiry that stands alone, since memory ran out for the event behind it.
use Rattle.std.specs.Prelude.{ℕ, ◌+◌, List, Result, Ok, Err}
use Rattle.spec_exchange.specs.State as model
use Rattle.spec_exchange.specs.Step.{expire, with_deadlines}
use Rattle.journal_bytes.specs.record_bodies.Body.{added_by}
use Rattle.server_checks.specs.Shown.{TablesShown}
use Rattle.server_checks.specs.declared.setups.error.EventError.{EventError}
use Rattle.server_checks.specs.declared.setups.error.EventError.TheVariants.{Memory, DiskFault, Stopped}
use Rattle.server_core.specs.journaled_tables.Counted.{counting}
use Rattle.server_core.specs.declared.journaled_tables.state.ServerState.{ServerState}

-- where its body was written, memory ran out for the event
abbrev pub written_as : EventError → Result Unit EventError
written_as Memory = Ok tt
written_as (DiskFault count) = Err (DiskFault count)
written_as (Stopped count) = Err (Stopped count)

-- the tables count its body, unless the disk failed
abbrev pub AloneShown : {D : Type 0} → model.Server → ℕ → ℕ → List ℕ → EventError → ServerState D → Type 0
AloneShown s now o front Memory new = TablesShown new.tables (counting (expire (with_deadlines s now) o) (s.journal + added_by front))
AloneShown s now o front _ new = TablesShown new.tables (counting (expire (with_deadlines s now) o) s.journal)
