-- What each arm shows of what was made ready.
use Rattle.std.proofs.Common.{ℕ}
use Rattle.spec_exchange.specs.Commands.{Command}
use Rattle.spec_exchange.specs.Effects.{apply}
use Rattle.spec_exchange.specs.State.{Message, Server}
use Rattle.server_checks.specs.declared.tables.Tables.{Tables}
use Rattle.server_effects.specs.Able.{Able}
use Rattle.server_effects.specs.Carried.{Carried}
use Rattle.server_effects.specs.declared.answering.Answer.{Answer}
use Rattle.server_effects.specs.reserved.Readied.{readied, stepped}
use Rattle.server_effects.specs.reserved.Room.{IsReadied, StepStands}
use Rattle.server_effects.specs.declared.reserved.ready.Ready.{Ready}
use Rattle.server_effects.specs.declared.reserved.ready.SetupReady.{SetupReady}

abbrev pub ArmShows : Tables → Tables → Answer → Server → Message → ℕ → Command → Ready → Type 0
ArmShows old new r s m now c x = IsReadied old s m now x → Able s m (readied c x) → Carried new r (apply s m now (readied c x))

abbrev pub StepShows : Tables → Answer → Server → Message → ℕ → Command → SetupReady → Type 0
StepShows new r s m now c x = StepStands m x → Able s m (stepped c x) → Carried new r (apply s m now (stepped c x))
