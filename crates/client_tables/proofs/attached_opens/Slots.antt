-- Lock slots of an open, by the model's columns alone and as a search has them.
use Rattle.std.proofs.Common.{◌≡◌, ℕ, ◌+◌, Bool, List, Option, refl, ◌∙◌}
use Rattle.base_lists.specs.declared.watch_lists.Link.{Link as Watch}
use Rattle.spec_exchange.specs.Client.{Client}
use Rattle.client_rows.specs.declared.operation_rows.row.Row.{Row}
use Rattle.client_rows.specs.declared.operation_rows.slots.Slot.{Slot}
use Rattle.client_rows.specs.operation_rows.Slots.{slot_at}
use Rattle.client_rows.specs.Shown.{ShowsRows}
use Rattle.client_rows.specs.lock_slots.Shown.{ShowsSlots}
use Rattle.client_tables.specs.attached_opens.Opens.{HasSlots, HaveUsers}

-- a slot's last user is firm as its row is
pub slots_shown : (rows : List Row) (holders prices : List ℕ) (watchers : List Watch) (slots : List Slot) (c : Client) (create : ℕ)
    → ShowsRows rows holders prices watchers c → HaveUsers rows slots
    → HasSlots slots (c.slot_user create) (c.retried create) (c.full create) → ShowsSlots rows slots c.session_number c create
slots_shown rows holders prices watchers slots c create s u k =
    record {
      user = k.user_is;
      retried = k.retried_is;
      full = k.full_is;
      firm = λ place l. (
          let g = (slot_at slots place).user in
          s.places.firm_is g (u place l).0 (s.places.is_taken g (u place l).0 (u place l).1)
          );
      unused = k.unused;
      number = refl;
    }

pub slots_kept : (rows : List Row) (slots : List Slot) (session : ℕ) (c : Client) (create : ℕ) → ShowsSlots rows slots session c create
    → HasSlots slots (c.slot_user create) (c.retried create) (c.full create)
slots_kept rows slots session c create s = record { user_is = s.user; retried_is = s.retried; full_is = s.full; unused = s.unused }

-- columns that are alike show the same slots
pub slots_alike : (slots : List Slot) (user was_user : ℕ → Option ℕ) (retried was_retried : ℕ → ℕ) (full was_full : ℕ → Bool)
    → ((i : ℕ) → user i ≡ was_user i) → ((i : ℕ) → retried i ≡ was_retried i) → ((i : ℕ) → full i ≡ was_full i)
    → HasSlots slots was_user was_retried was_full → HasSlots slots user retried full
slots_alike slots user was_user retried was_retried full was_full u r f h =
    record {
      user_is = λ place l. u (place + 1) ∙ h.user_is place l;
      retried_is = λ place l. r (place + 1) ∙ h.retried_is place l;
      full_is = λ place l. f (place + 1) ∙ h.full_is place l;
      unused = λ place l. (
          let w = h.unused place l in (
            u (place + 1) ∙ w.0,
            r (place + 1) ∙ w.1,
            f (place + 1) ∙ w.2,
          )
          );
    }
