-- Who may hear that memory ran out.
use Rattle.std.specs.Prelude.{Bool, false, Result, Ok, Err, ⊤}
use Rattle.spec_exchange.specs.State as model
use Rattle.server_checks.specs.declared.setups.error.EventError.{EventError}
use Rattle.server_checks.specs.declared.setups.error.EventError.TheVariants.{Memory, DiskFault, Stopped}
use Rattle.server_plan.specs.Plans.{is_early}

-- memory didn't run out
abbrev pub HasMemory : {A : Type 0} → Result A EventError → Type 0
HasMemory (Ok answer) = ⊤
HasMemory (Err Memory) = ⊥
HasMemory (Err (DiskFault count)) = ⊤
HasMemory (Err (Stopped count)) = ⊤

-- a message that is refused by the checks of its session, and of signing and sealing (3.3.5.2.9, 3.3.5.2.4)
abbrev pub is_refused_early : model.Server → model.ServerEvent → Bool
is_refused_early s (model.Heard m) = is_early s (model.Heard m)
is_refused_early s _ = false
