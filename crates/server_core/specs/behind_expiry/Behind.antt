-- An event that is planned and prepared behind an expiry.
use Rattle.std.specs.Prelude.{◌≡◌, ℕ, true, false, List, ◌++◌, Option, Some, None}
use Rattle.spec_exchange.specs.Records.{fits}
use Rattle.spec_exchange.specs.State as model
use Rattle.spec_exchange.specs.Step.{carried_out, ruling}
use Rattle.server_core.specs.declared.behind_expiry.behind.Both.{Both}
use Rattle.journal_bytes.specs.record_bodies.Body.{IsBodyOf}
use Rattle.server_checks.specs.Shown.{TablesShown}
use Rattle.server_core.specs.declared.journaled_tables.state.ServerState.{ServerState}
use Rattle.server_effects.specs.prepared_event.Prepared.{IsPrepared, prepared_ruling}
use Rattle.server_plan.specs.rulings.Rulings.{ruling_of}
use Rattle.server_plan.specs.declared.rulings.ruling.Ruling.{Ruling}

-- the ruling on an event, with the body of its records behind those in front
abbrev pub IsPlannedBehind : Ruling → List ℕ → model.Server → ℕ → model.ServerEvent → List model.Record → Type 0
IsPlannedBehind r body s now e front = (ruling_of e r ≡ ruling s e)
    × IsBodyOf body (front ++ (carried_out s now (ruling s e)).records)

-- the event is prepared on a state, its body behind records, where both fit
abbrev pub BothReady : {D : Type 0} → ServerState D → model.Server → ℕ → model.ServerEvent → List model.Record
    → Option Both → Type 0
BothReady c s now e front None = TablesShown c.tables s × (fits s (front ++ (carried_out s now (ruling s e)).records) ≡ false)
BothReady c s now e front (Some x) = IsPrepared c.tables s now e x.prepared × (prepared_ruling e x.prepared ≡ ruling s e)
    × IsBodyOf x.body (front ++ (carried_out s now (ruling s e)).records)
    × (fits s (front ++ (carried_out s now (ruling s e)).records) ≡ true)
