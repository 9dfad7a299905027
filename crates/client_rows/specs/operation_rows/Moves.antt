-- A change of one row, beside links, lists, prices and watchers.
use Rattle.std.specs.Prelude.{◌≡◌, ℕ, ◌<◌, Bool, true, false, List}
use Rattle.base_lists.specs.declared.watch_lists.Link.{Link as Watch}
use Rattle.client_rows.specs.declared.operation_rows.row.Row.{Row}
use Rattle.client_rows.specs.operation_rows.Rows.{stands, owner, costs}
use Rattle.client_rows.specs.operation_rows.Choosing.{RowStands}

-- where it stands among the others, and whether it is settled
pub record KeepsPlace (old new : Row) : Type 0 where
  pub kind : new.kind ≡ old.kind
  pub unsettled : new.unsettled ≡ old.unsettled
  pub create : new.create ≡ old.create
  pub holders : new.holders ≡ old.holders
  pub holders_end : new.holders_end ≡ old.holders_end
  pub lower : new.lower ≡ old.lower
  pub change : new.change ≡ old.change
  pub filled : new.filled ≡ old.filled

-- at what each row costs
abbrev pub StandsRows : (ℕ → ℕ → Bool) → (ℕ → Bool) → List Row → (holders prices : List ℕ) → List Watch → Type 0
StandsRows holds fills rows holders prices watchers = RowStands holds fills (costs rows) rows holders prices watchers

-- each lower one of its open that holds it up is settled
abbrev pub IsSettled : (ℕ → ℕ → Bool) → List Row → ℕ → Type 0
IsSettled holds rows g = (h : ℕ) → h < g → owner rows h ≡ owner rows g → holds h g ≡ true → stands rows h ≡ false
