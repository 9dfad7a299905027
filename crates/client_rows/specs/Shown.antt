-- What the rows of a client's operations show of a client of the model: an equation for each column that rows keep.
use Rattle.std.specs.Prelude.{◌≡◌, ℕ, ◌<◌, ◌≤◌, ◌==◌, not, Bool, true, false, if◌then◌else◌, List, length, Option, None}
use Rattle.base_lists.specs.declared.watch_lists.Link.{Link as Watch}
use Rattle.spec_exchange.specs.Operations.{Op, OpWrite, Outcome, charge, create_of, holds_up, is_firm, is_unsettled, weight}
use Rattle.spec_exchange.specs.Table.{put}
use Rattle.spec_exchange.specs.Client.{Client}
use Rattle.spec_exchange.specs.Schedules.{cost}
use Rattle.client_values.specs.operations.Waiting.{kind_of}
use Rattle.client_rows.specs.declared.operation_rows.row.Row.{Row}
use Rattle.client_rows.specs.operation_rows.Rows.{row_at, stands, owner, kind, costs}
use Rattle.client_rows.specs.operation_rows.Moves.{StandsRows}

-- of one open, g waits for h, by what they ask
abbrev pub waits_by : (ℕ → Op) → ℕ → ℕ → Bool
waits_by op h g = holds_up (op h) (op g)

-- it writes a byte or more
abbrev pub is_row_filled : Op → Bool
is_row_filled (OpWrite create at bytes) = not (length bytes == 0)
is_row_filled _ = false

abbrev pub fills_by : (ℕ → Op) → ℕ → Bool
fills_by op h = is_row_filled (op h)

-- of what was taken: each has a row, its create, its kind, whether it is settled, and what it costs
pub record RowShowsPlaces (rows : List Row) (taken : ℕ) (op : ℕ → Op) (outcome : ℕ → Outcome) (paid : ℕ → ℕ) : Type 0 where
  pub has_row : (g : ℕ) → 0 < g → g ≤ taken → g < length rows
  pub is_taken : (g : ℕ) → 0 < g → g < length rows → g ≤ taken
  pub creates : (g : ℕ) → 0 < g → g ≤ taken → create_of g (op g) ≡ owner rows g
  pub kinds : (g : ℕ) → 0 < g → g ≤ taken → kind_of (op g) ≡ kind rows g
  pub charges : (g : ℕ) → 0 < g → g ≤ taken → charge (weight (op g)) ≡ (row_at rows g).charge
  pub unsettled : (g : ℕ) → 0 < g → g ≤ taken → is_unsettled (outcome g) ≡ stands rows g
  pub firm_is : (g : ℕ) → 0 < g → g ≤ taken → is_firm (outcome g) ≡ (row_at rows g).firm
  pub pays : (g : ℕ) → 0 < g → g ≤ taken → stands rows g ≡ true → paid g ≡ costs rows g

-- what went out, and how; a number that isn't taken never did
pub record ShowsSends (rows : List Row) (sent : ℕ → Bool) (out : ℕ → Option ℕ) (asks unanswered : ℕ → Bool)
    (sequence slot number : ℕ → ℕ) : Type 0 where
  pub sent_is : (g : ℕ) → sent g ≡ (row_at rows g).sent
  pub out_is : (g : ℕ) → out g ≡ (row_at rows g).outstanding_on
  pub asks_is : (g : ℕ) → asks g ≡ (row_at rows g).asking
  pub unanswered_is : (g : ℕ) → unanswered g ≡ (row_at rows g).unanswered
  pub sequence_is : (g : ℕ) → sequence g ≡ (row_at rows g).sequence
  pub slot_is : (g : ℕ) → slot g ≡ (row_at rows g).slot
  pub number_is : (g : ℕ) → number g ≡ (row_at rows g).slot_number

pub record ShowsRows (rows : List Row) (holders prices : List ℕ) (watchers : List Watch) (c : Client) : Type 0 where
  pub places : RowShowsPlaces rows c.taken c.op c.outcome (λ g. cost c g)
  pub sends : ShowsSends rows c.sent c.outstanding_on c.asks_attach c.unanswered c.sequence_of c.slot_of c.number_of
  -- links, lists, prices and watchers stand right by what the operations ask
  pub stand : StandsRows (waits_by c.op) (fills_by c.op) rows holders prices watchers

-- ---- what a channel takes with it

-- where something is outstanding of the operation; a request to attach that is lost makes no unanswered copy
abbrev pub lost : Client → ℕ → Client
lost c g =
    record c {
      outstanding_on = put c.outstanding_on g None;
      unanswered = put c.unanswered g (if c.asks_attach g then c.unanswered g else true);
    }

-- ---- what stays where one row changes

-- where each stands stays, and of all but one also what is outstanding
pub record KeepsRow (old new : List Row) (x : ℕ) : Type 0 where
  pub count : length new ≡ length old
  pub create : (g : ℕ) → owner new g ≡ owner old g
  pub opens : (g : ℕ) → (row_at new g).«open» ≡ (row_at old g).«open»
  pub kinds : (g : ℕ) → kind new g ≡ kind old g
  pub unsettled : (g : ℕ) → stands new g ≡ stands old g
  pub firms : (g : ℕ) → (row_at new g).firm ≡ (row_at old g).firm
  pub charges : (g : ℕ) → (row_at new g).charge ≡ (row_at old g).charge
  pub others : (g : ℕ) → (g ≡ x → ⊥) → (row_at new g).outstanding_on ≡ (row_at old g).outstanding_on
