-- What a push looks at of each open, tied to the columns of the model's client. No session has to be live: before the first one there are
-- opens too, of creates that were taken and didn't go out yet.
use Rattle.std.specs.Prelude.{◌≡◌, ℕ, ◌+◌, ◌<◌, ◌≤◌, Bool, false, List, length, vec_capacity, Option, None, Some, ◌⊎◌}
use Rattle.spec_exchange.specs.Client.{Client}
use Rattle.client_rows.specs.declared.operation_rows.row.Row.{Row}
use Rattle.client_rows.specs.declared.operation_rows.slots.Slot.{Slot}
use Rattle.client_rows.specs.operation_rows.Rows.{row_at, owner}
use Rattle.client_rows.specs.operation_rows.Slots.{slot_at}
use Rattle.client_tables.specs.declared.choice.finding.Attached.{Attached}
use Rattle.client_tables.specs.choice.Shown.{AreChoicesBounded, HaveOpens, IsChoiceAt}
use Rattle.client_tables.specs.attached_opens.Locks.{locks_on}

-- the lock slots of one open, counted from 1, by the model's columns of that open; those behind its slots were never used
pub record HasSlots (slots : List Slot) (user : ℕ → Option ℕ) (retried : ℕ → ℕ) (full : ℕ → Bool) : Type 0 where
  pub user_is : (place : ℕ) → place < length slots → user (place + 1) ≡ Some (slot_at slots place).user
  pub retried_is : (place : ℕ) → place < length slots → retried (place + 1) ≡ (slot_at slots place).retried
  pub full_is : (place : ℕ) → place < length slots → full (place + 1) ≡ (slot_at slots place).full
  pub unused : (place : ℕ) → length slots ≤ place
      → (user (place + 1) ≡ None) × (retried (place + 1) ≡ 0) × (full (place + 1) ≡ false)

-- each slot's last user is an operation
abbrev pub HaveUsers : List Row → List Slot → Type 0
HaveUsers rows slots = (place : ℕ) → place < length slots
    → (0 < (slot_at slots place).user) × ((slot_at slots place).user < length rows)

-- two operations have one place for their open where they have one create
abbrev pub ArePaired : List Row → Type 0
ArePaired rows = (g h : ℕ) → 0 < g → g < length rows → 0 < h → h < length rows
    → (owner rows g ≡ owner rows h → (row_at rows g).«open» ≡ (row_at rows h).«open»)
    × ((row_at rows g).«open» ≡ (row_at rows h).«open» → owner rows g ≡ owner rows h)

-- for n locks it has counted enough, and has room for as many slots as it counted
pub record IsRoomy (n counted room : ℕ) : Type 0 where
  pub enough : (64 ≤ counted) ⊎ (n ≤ counted)
  pub within : counted ≤ room

-- an open has room for a slot of each of its locks, or for all 64
abbrev pub HaveRoom : List Row → List Attached → Type 0
HaveRoom rows attached = (i : ℕ) (o : Attached) → i < length attached → IsChoiceAt attached i o
    → IsRoomy (locks_on rows i) o.locks (vec_capacity o.slots)

-- what the opens keep among themselves and with the rows
pub record FitsOpens (rows : List Row) (attached : List Attached) : Type 0 where
  pub opens : HaveOpens rows attached
  pub paired : ArePaired rows
  pub room : HaveRoom rows attached
  pub bounded : AreChoicesBounded rows attached
  pub users : (i : ℕ) (o : Attached) → i < length attached → IsChoiceAt attached i o → HaveUsers rows o.slots.items

-- by operation, of its open
pub record ShowsSlotsOf (rows : List Row) (attached : List Attached) (session : ℕ → ℕ) (user : ℕ → ℕ → Option ℕ) (retried : ℕ → ℕ → ℕ)
    (full : ℕ → ℕ → Bool) : Type 0 where
  pub session_is : (g : ℕ) (o : Attached) → 0 < g → g < length rows → IsChoiceAt attached (row_at rows g).«open» o
      → session (owner rows g) ≡ o.session
  pub slots_are : (g : ℕ) (o : Attached) → 0 < g → g < length rows → IsChoiceAt attached (row_at rows g).«open» o
      → HasSlots o.slots.items (user (owner rows g)) (retried (owner rows g)) (full (owner rows g))
  -- of a create that isn't taken nothing is known
  pub session_none : (x : ℕ) → length rows ≤ x → session x ≡ 0
  pub slots_none : (x i : ℕ) → length rows ≤ x → (user x i ≡ None) × (retried x i ≡ 0) × (full x i ≡ false)

abbrev pub ShowsAttached : List Row → List Attached → Client → Type 0
ShowsAttached rows attached c = ShowsSlotsOf rows attached c.attached c.slot_user c.retried c.full

-- columns of opens, of all but one
pub record KeepsOthers (x : ℕ) (was_session session : ℕ → ℕ) (was_user user : ℕ → ℕ → Option ℕ) (was_retried retried : ℕ → ℕ → ℕ)
    (was_full full : ℕ → ℕ → Bool) : Type 0 where
  pub session_is : (y : ℕ) → (y ≡ x → ⊥) → session y ≡ was_session y
  pub user_is : (y : ℕ) → (y ≡ x → ⊥) → (i : ℕ) → user y i ≡ was_user y i
  pub retried_is : (y : ℕ) → (y ≡ x → ⊥) → (i : ℕ) → retried y i ≡ was_retried y i
  pub full_is : (y : ℕ) → (y ≡ x → ⊥) → (i : ℕ) → full y i ≡ was_full y i
