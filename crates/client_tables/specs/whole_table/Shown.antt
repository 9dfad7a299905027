-- What a client's table shows of a client of the model: an equation for each column that it keeps. Free are the columns of opens (file,
-- attached, closed_ok, slot_user, retried, full), those at which no step looks (settled_by, given_up), and those of dialogs (stage, making,
-- pending, accepted, accepted_count, rank).
use Rattle.std.specs.Prelude.{◌≡◌, ℕ, ◌+◌, ◌-◌, ◌<◌, ◌≤◌, true, if◌then◌else◌, List, length, map, vec_capacity, Some, is_some, ◌⊎◌}
use Rattle.std.specs.List.{sum_by}
use Rattle.base_lists.specs.declared.watch_lists.Link.{Link as Watch}
use Rattle.spec_exchange.specs.Operations.{is_lock, keeps_limits}
use Rattle.spec_exchange.specs.Client.{Client, create_for}
use Rattle.base_lists.specs.declared.number_set.Members.{Members}
use Rattle.client_values.specs.declared.operations.values.OpKind.{OpKind}
use Rattle.client_rows.specs.declared.operation_rows.row.Row.{Row}
use Rattle.client_rows.specs.operation_rows.Rows.{owner}
use Rattle.client_rows.specs.operation_rows.Holding.{IsSafe}
use Rattle.client_rows.specs.operation_rows.Choosing.{RowCounts}
use Rattle.client_values.specs.declared.outcomes.outcome.Outcome.{Outcome as Settled}
use Rattle.client_values.specs.declared.outcomes.outcome.RefusedDialog.{RefusedDialog as Refused}
use Rattle.client_values.specs.outcomes.Meaning.{dialog_of}
use Rattle.client_rows.specs.Shown.{ShowsRows}
use Rattle.client_rows.specs.declared.session_state.session.Session.{Session}
use Rattle.client_rows.specs.session_state.Shown.{ClientShowsSession}
use Rattle.client_tables.specs.outstanding.Shown.{HoldsOut}
use Rattle.client_tables.specs.settling.Shown.{AreSettledBelow, ShowsValues}
use Rattle.client_tables.specs.declared.whole_table.parts.Table.{Table}

-- 1 where it is unsettled
abbrev pub one_left : Row → ℕ
one_left r = if r.unsettled then 1 else 0

-- each operation's create has a row
abbrev pub AreRowsOwned : List Row → Type 0
AreRowsOwned rows = (g : ℕ) → 0 < g → g < length rows → (0 < owner rows g) × (owner rows g < length rows)

-- what the parts keep among themselves, whatever client of the model they show. Of values and of the order of replies, how many there are;
-- `room` is how many of the latter find room.
pub record FitsParts (rows : List Row) (holders prices : List ℕ) (watchers : List Watch) (members : Members)
    (low operations settled replies room : ℕ) : Type 0 where
  pub safe : IsSafe rows holders
  pub counts : RowCounts rows prices watchers
  pub out : HoldsOut rows members
  pub above : 0 < low
  pub lowest : AreSettledBelow rows low
  -- it has a row, or is the next one to be taken; where nothing is taken it is the first one
  pub inside : (low ≤ 1) ⊎ (low ≤ length rows)
  pub owned : AreRowsOwned rows
  -- row 0 is none
  pub ops_counted : operations ≡ length rows - 1
  pub settled_counted : settled ≡ length rows - 1
  -- each that is unsettled finds room where a reply settles it
  pub roomy : replies + sum_by one_left rows ≤ room

abbrev pub TableFits : Table → Type 0
TableFits t = FitsParts t.rows.items t.holders.items t.prices t.watchers t.out t.lowest (length t.ops.items) (length t.settled.items)
    (length t.order.items) (vec_capacity t.order)

-- what holds of each client of a run
pub record TableBounds (c : Client) : Type 0 where
  -- no open was attached in a session to come
  pub attached : (x : ℕ) → c.attached x ≤ c.session_number
  -- a session that is live has a number
  pub counted : c.live ≡ true → 0 < c.session_number
  -- what was taken keeps the limits of what a script gives
  pub limits : (g : ℕ) → 0 < g → g ≤ c.taken → keeps_limits (c.op g) ≡ true
  -- a lock that went out has a slot, which was used since
  pub slotted : (g : ℕ) → 0 < g → g ≤ c.taken → c.sent g ≡ true → is_lock (c.op g) ≡ true
      → (0 < c.slot_of g) × (is_some (c.slot_user (create_for c g) (c.slot_of g)) ≡ true)
  -- a slot's last user is a lock of its open, which went out with that slot
  pub users : (x i g : ℕ) → c.slot_user x i ≡ Some g
      → (is_lock (c.op g) ≡ true) × (create_for c g ≡ x) × (c.slot_of g ≡ i) × (c.sent g ≡ true)

pub record ShowsParts (z : Session) (lines : List Row) (holders prices : List ℕ) (watchers : List Watch) (ops : List OpKind)
    (settled : List Settled) (replies : List ℕ) (dialogs : List Refused) (c : Client) : Type 0 where
  pub rows : ShowsRows lines holders prices watchers c
  pub session : ClientShowsSession z c
  pub values : ShowsValues lines ops settled c.taken c.op c.outcome
  pub order : c.order ≡ replies
  pub refusals : c.refusals ≡ map dialog_of dialogs
  pub bounds : TableBounds c

abbrev pub ShowsTable : Table → Client → Type 0
ShowsTable t c = ShowsParts t.session t.rows.items t.holders.items t.prices t.watchers t.ops.items t.settled.items t.order.items
    t.dialogs.items c
