-- Which lock slots of an open may be taken, counted from 1.
use Rattle.std.specs.Prelude.{ℕ, zero, suc, ◌+◌, ◌-◌, ◌==◌, ◌&&◌, nat_le, nat_lt, not, Bool, true, false, if◌then◌else◌}
use Rattle.std.specs.Prelude.{List, length, slice_index_or, Option, Some, None}
use Rattle.client_rows.specs.declared.operation_rows.row.Row.{Row}
use Rattle.client_rows.specs.declared.operation_rows.slots.Slot.{Slot}
use Rattle.client_rows.specs.operation_rows.Rows.{row_at}

abbrev pub no_slot : Slot
no_slot = record { user = 0; retried = 0; full = false }

-- by place from 0
abbrev pub slot_at : List Slot → ℕ → Slot
slot_at slots place = slice_index_or slots place no_slot

-- its last user settled as Ok or Refused, it wasn't retried in this session, and it never met DISK_FULL
abbrev pub is_free_slot : List Row → ℕ → Slot → Bool
is_free_slot rows session slot = (row_at rows slot.user).firm && (not (slot.retried == session) && not slot.full)

-- one that was never used is free
abbrev pub is_slot_free : List Row → List Slot → ℕ → ℕ → Bool
is_slot_free rows slots session i =
    (nat_lt 0 i && nat_le i 64) && (if nat_lt (i - 1) (length slots) then is_free_slot rows session (slot_at slots (i - 1)) else true)

-- the least of the n from i on
unfoldable pub slot_least : (ℕ → Bool) → ℕ → ℕ → Option ℕ
slot_least free i zero = None
slot_least free i (suc n) = elim (free i) [ true ↦ Some i | false ↦ slot_least free (i + 1) n ]
