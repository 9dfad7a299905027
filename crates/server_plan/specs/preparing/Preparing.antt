-- What an event comes to with its memory, from the ruling on it.
use Rattle.std.specs.Prelude.{◌≡◌, ℕ, Bool, true, false, Result, MatchResult}
use Rattle.spec_exchange.specs.State as model
use Rattle.spec_exchange.specs.Step as steps
use Rattle.server_checks.specs.Shown.{TablesShown}
use Rattle.server_checks.specs.declared.tables.Tables.{Tables}
use Rattle.server_effects.specs.prepared_event.Prepared.{IsPrepared, prepared_ruling}
use Rattle.server_effects.specs.declared.prepared_event.prepared.Prepared.{Prepared}
use Rattle.server_plan.specs.reserving.Readies.{wants_memory}

-- a ruling was prepared, or memory ran out and the state is as before
abbrev pub PreparesRuling : {E : Type 0} → Tables → model.Server → ℕ → model.ServerEvent → steps.Ruling → Result Prepared E → Type 0
PreparesRuling new s now e r result = MatchResult result (λ p. IsPrepared new s now e p × (prepared_ruling e p ≡ r))
    (λ _. TablesShown new s)

-- its effect wants memory: that of some verdicts, and a connection that is made
abbrev pub wants_memory_by : steps.Ruling → Bool
wants_memory_by (steps.Says m v) = wants_memory v
wants_memory_by (steps.TakesIn connection) = true
wants_memory_by _ = false
