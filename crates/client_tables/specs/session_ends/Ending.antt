-- The end of a session, operation by operation.
use Rattle.std.specs.Prelude.{ℕ, ◌<◌, nat_lt, if◌then◌else◌, List, length, Option, Some, None}
use Rattle.spec_exchange.specs.Operations.{Outcome, Unsettled}
use Rattle.spec_exchange.specs.Client.{Client, end_session, outcome_after_end}
use Rattle.client_rows.specs.declared.operation_rows.row.Row.{Row}
use Rattle.client_rows.specs.operation_rows.Rows.{owner}
use Rattle.client_values.specs.declared.outcomes.outcome.Outcome.{Outcome as Settled}
use Rattle.client_values.specs.outcomes.Meaning.{outcome_of}

-- the session ended, and nothing settled with it yet
abbrev pub ending : Client → Client
ending c = record (end_session c) { outcome = c.outcome }

-- those below a number are as it leaves them
abbrev pub ended_below : Client → ℕ → Client
ended_below c n = record (end_session c) {
  outcome = λ g. if nat_lt g n then outcome_after_end c g (c.outcome g) else c.outcome g;
}

-- an operation is left unsettled where it isn't told how it settles
abbrev pub settled_or_left : Option Settled → Outcome
settled_or_left None = Unsettled
settled_or_left (Some o) = outcome_of o

-- each operation's create has a row
abbrev pub AreEndingsOwned : List Row → Type 0
AreEndingsOwned rows = (g : ℕ) → 0 < g → g < length rows → (0 < owner rows g) × (owner rows g < length rows)
