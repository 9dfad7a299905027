-- What operations cost where their open is attached in this session, and where it isn't: a request to attach costs 1.
use Rattle.std.specs.Prelude.{ℕ, ◌==◌, ◌&&◌, nat_lt, Bool, if◌then◌else◌, List}
use Rattle.base_lists.specs.declared.watch_lists.Link.{Link as Watch}
use Rattle.spec_exchange.specs.Client.{Client}
use Rattle.client_values.specs.declared.operations.shapes.Kind.{Kind}
use Rattle.client_values.specs.declared.operations.shapes.Kind.TheVariants as kinds
use Rattle.client_rows.specs.declared.operation_rows.row.Row.{Row}
use Rattle.client_rows.specs.operation_rows.Rows.{row_at, owner, kind}
use Rattle.client_rows.specs.operation_rows.Moves.{StandsRows}
use Rattle.client_rows.specs.Shown.{RowShowsPlaces, ShowsSends, fills_by, waits_by}

-- a create asks for no open
abbrev pub unattached_cost : Kind → ℕ → ℕ
unattached_cost kinds.Create charge = charge
unattached_cost kinds.Write charge = 1
unattached_cost kinds.Read charge = 1
unattached_cost kinds.End charge = 1
unattached_cost kinds.Change charge = 1
unattached_cost kinds.Lock charge = 1
unattached_cost kinds.Look charge = 1
unattached_cost kinds.List charge = 1
unattached_cost kinds.Close charge = 1

abbrev pub cost_where : Bool → Kind → ℕ → ℕ
cost_where attached k charge = if attached then charge else unattached_cost k charge

-- the row with this cost
abbrev pub priced_row : Bool → Row → Row
priced_row attached r = record r { cost = cost_where attached r.kind r.charge }

-- rows show a client, but for what its operations cost
pub record ShowsPaid (rows : List Row) (holders prices : List ℕ) (watchers : List Watch) (c : Client) (paid : ℕ → ℕ) : Type 0 where
  pub places : RowShowsPlaces rows c.taken c.op c.outcome paid
  pub sends : ShowsSends rows c.sent c.outstanding_on c.asks_attach c.unanswered c.sequence_of c.slot_of c.number_of
  pub stand : StandsRows (waits_by c.op) (fills_by c.op) rows holders prices watchers

-- what those of the open of one cost now that are above a number; others stay
abbrev pub paid_above : List Row → Bool → (last at : ℕ) → (ℕ → ℕ) → ℕ → ℕ
paid_above rows attached last at paid g =
    if (owner rows g == owner rows last) && nat_lt at g then cost_where attached (kind rows g) (row_at rows g).charge else paid g

-- and all of them
abbrev pub paid_where : List Row → Bool → ℕ → (ℕ → ℕ) → ℕ → ℕ
paid_where rows attached last paid g =
    if owner rows g == owner rows last then cost_where attached (kind rows g) (row_at rows g).charge else paid g
