-- Columns of the rows, by number.
use Rattle.std.specs.Prelude.{ℕ, Bool, false, List, slice_index_or, None, is_some}
use Rattle.client_values.specs.declared.operations.shapes.Kind.{Kind}
use Rattle.client_values.specs.declared.operations.shapes.Kind.TheVariants as kinds
use Rattle.client_rows.specs.declared.operation_rows.row.Row.{Row}
use Rattle.client_rows.specs.declared.operation_rows.chains.Chain.{Chain}
use Rattle.client_rows.specs.declared.operation_rows.chains.Chain.TheVariants as chains

-- the row of a number that isn't taken
abbrev pub no_row : Row
no_row =
    record {
      kind = kinds.Create;
      unsettled = false;
      firm = false;
      sent = false;
      asking = false;
      unanswered = false;
      charge = 0;
      cost = 0;
      slot = 0;
      slot_number = 0;
      sequence = 0;
      outstanding_on = None;
      create = 0;
      «open» = 0;
      holders = 0;
      holders_end = 0;
      lower = 0;
      change = 0;
      filled = 0;
      dear = 0;
    }

abbrev pub row_at : List Row → ℕ → Row
row_at rows g = slice_index_or rows g no_row

-- it is unsettled
abbrev pub stands : List Row → ℕ → Bool
stands rows g = (row_at rows g).unsettled

-- the create whose open it is on
abbrev pub owner : List Row → ℕ → ℕ
owner rows g = (row_at rows g).create

abbrev pub kind : List Row → ℕ → Kind
kind rows g = (row_at rows g).kind

-- where the list of what it was found to wait for begins, and where it ends
abbrev pub begins : List Row → ℕ → ℕ
begins rows g = (row_at rows g).holders

abbrev pub ends : List Row → ℕ → ℕ
ends rows g = (row_at rows g).holders_end

-- what it costs to send it now
abbrev pub costs : List Row → ℕ → ℕ
costs rows g = (row_at rows g).cost

abbrev pub is_out : List Row → ℕ → Bool
is_out rows g = is_some (row_at rows g).outstanding_on

-- ---- links

abbrev pub link_of : Chain → Row → ℕ
link_of chains.All r = r.lower
link_of chains.Changes r = r.change
link_of chains.Filled r = r.filled
link_of chains.Dear r = r.dear

abbrev pub with_link : Chain → Row → ℕ → Row
with_link chains.All r n = record r { lower = n }
with_link chains.Changes r n = record r { change = n }
with_link chains.Filled r n = record r { filled = n }
with_link chains.Dear r n = record r { dear = n }

abbrev pub links : Chain → List Row → ℕ → ℕ
links chain rows g = link_of chain (row_at rows g)
