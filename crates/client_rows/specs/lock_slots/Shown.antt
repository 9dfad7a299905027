-- What lock slots of the code show of a client of the model.
use Rattle.std.specs.Prelude.{◌≡◌, ℕ, ◌+◌, ◌<◌, ◌≤◌, false, List, length, None, Some}
use Rattle.client_rows.specs.declared.operation_rows.row.Row.{Row}
use Rattle.client_rows.specs.declared.operation_rows.slots.Slot.{Slot}
use Rattle.client_rows.specs.operation_rows.Rows.{row_at}
use Rattle.client_rows.specs.operation_rows.Slots.{slot_at}
use Rattle.spec_exchange.specs.Operations.{is_firm}
use Rattle.spec_exchange.specs.Client.{Client}

-- the code has it of each slot's last user whether it settled as Ok or Refused
abbrev pub ShowsFirm : List Row → List Slot → Client → Type 0
ShowsFirm rows slots c =
    (place : ℕ) → place < length slots → is_firm (c.outcome (slot_at slots place).user) ≡ (row_at rows (slot_at slots place).user).firm

-- nothing was done to the slot
abbrev pub IsSlotUnused : Client → ℕ → ℕ → Type 0
IsSlotUnused c create i = (c.slot_user create i ≡ None) × (c.retried create i ≡ 0) × (c.full create i ≡ false)

-- The lock slots of an open, counted from 1; those behind its slots were never used. It holds before the first session too; which slot
-- is free is told in a session alone.
pub record ShowsSlots (rows : List Row) (slots : List Slot) (session : ℕ) (c : Client) (create : ℕ) : Type 0 where
  pub user : (place : ℕ) → place < length slots → c.slot_user create (place + 1) ≡ Some (slot_at slots place).user
  pub retried : (place : ℕ) → place < length slots → c.retried create (place + 1) ≡ (slot_at slots place).retried
  pub full : (place : ℕ) → place < length slots → c.full create (place + 1) ≡ (slot_at slots place).full
  pub firm : ShowsFirm rows slots c
  pub unused : (place : ℕ) → length slots ≤ place → IsSlotUnused c create (place + 1)
  pub number : c.session_number ≡ session

-- what was done between two clients left the lock slots of an open
pub record KeepsSlots (c d : Client) (create : ℕ) : Type 0 where
  pub user : (i : ℕ) → d.slot_user create i ≡ c.slot_user create i
  pub retried : (i : ℕ) → d.retried create i ≡ c.retried create i
  pub full : (i : ℕ) → d.full create i ≡ c.full create i
  pub number : d.session_number ≡ c.session_number

-- each slot's last user has a row
abbrev pub HaveRows : List Row → List Slot → Type 0
HaveRows rows slots = (place : ℕ) → place < length slots → (slot_at slots place).user < length rows

-- each slot's last user is an operation
abbrev pub AreUsed : List Slot → Type 0
AreUsed slots = (place : ℕ) → place < length slots → 0 < (slot_at slots place).user
