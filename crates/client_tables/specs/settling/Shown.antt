-- What each operation asks and how it settled, tied to the model's client, and what stays of the rows where some settle.
use Rattle.std.specs.Prelude.{◌≡◌, ℕ, ◌-◌, ◌<◌, ◌≤◌, Bool, true, false, List, length, slice_index_or}
use Rattle.spec_exchange.specs.Operations.{Op, Outcome, Unsettled}
use Rattle.client_values.specs.declared.operations.values.OpKind.{OpKind}
use Rattle.client_values.specs.declared.operations.values.OpKind.TheVariants as kinds
use Rattle.client_values.specs.operations.Meaning.{op_of}
use Rattle.client_rows.specs.declared.operation_rows.row.Row.{Row}
use Rattle.client_rows.specs.operation_rows.Rows.{row_at, stands, owner, kind}
use Rattle.client_values.specs.declared.outcomes.outcome.Outcome.{Outcome as Settled}
use Rattle.client_values.specs.declared.outcomes.outcome.Outcome.TheVariants as outcomes
use Rattle.client_values.specs.outcomes.Meaning.{outcome_of}

-- operation g at place g - 1
abbrev pub op_at : List OpKind → ℕ → Op
op_at ops g = op_of (slice_index_or ops (g - 1) (kinds.Close 0))

-- how it settled, where its row is settled
abbrev pub outcome_by : Bool → Settled → Outcome
outcome_by true o = Unsettled
outcome_by false o = outcome_of o

abbrev pub outcome_at : List Row → List Settled → ℕ → Outcome
outcome_at rows settled g = outcome_by (stands rows g) (slice_index_or settled (g - 1) (outcomes.NoOpen 0))

pub record ShowsValues (rows : List Row) (ops : List OpKind) (settled : List Settled) (taken : ℕ) (op : ℕ → Op) (outcome : ℕ → Outcome)
    : Type 0 where
  pub ops_counted : length ops ≡ taken
  pub settled_counted : length settled ≡ taken
  pub op_is : (g : ℕ) → 0 < g → g ≤ taken → op g ≡ op_at ops g
  pub outcome_is : (g : ℕ) → 0 < g → g ≤ taken → outcome g ≡ outcome_at rows settled g

-- all below a number are settled
abbrev pub AreSettledBelow : List Row → ℕ → Type 0
AreSettledBelow rows n = (g : ℕ) → g < n → stands rows g ≡ false

-- some settle, and all else of a row stays at which a step looks
pub record GoesSettled (old new : List Row) : Type 0 where
  pub count : length new ≡ length old
  pub create : (g : ℕ) → owner new g ≡ owner old g
  pub opens : (g : ℕ) → (row_at new g).«open» ≡ (row_at old g).«open»
  pub kinds : (g : ℕ) → kind new g ≡ kind old g
  pub sent : (g : ℕ) → (row_at new g).sent ≡ (row_at old g).sent
  pub asks : (g : ℕ) → (row_at new g).asking ≡ (row_at old g).asking
  pub slots : (g : ℕ) → (row_at new g).slot ≡ (row_at old g).slot
  pub out : (g : ℕ) → (row_at new g).outstanding_on ≡ (row_at old g).outstanding_on
  pub settled : (g : ℕ) → stands old g ≡ false → stands new g ≡ false
