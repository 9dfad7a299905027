-- A lock that goes out first finds room for its slot.
use Rattle.std.proofs.Common.{◌≡◌, ℕ, ◌+◌, ◌<◌, ◌≤◌, ◌==◌, ◌&&◌, ◌||◌, nat_le, nat_lt, Bool, true, false, List, length, vec_capacity}
use Rattle.std.proofs.Common.{ap, sym, ◌∙◌, arith, ◌⊎◌, inl, inr}
use Rattle.base_lists.specs.declared.watch_lists.Link.{Link as Watch}
use Rattle.spec_exchange.specs.Operations.{is_lock}
use Rattle.spec_exchange.specs.Client.{Client, create_for}
use Rattle.client_rows.specs.declared.operation_rows.row.Row.{Row}
use Rattle.client_rows.specs.operation_rows.Rows.{row_at, kind}
use Rattle.client_rows.specs.operation_rows.Slots.{slot_at}
use Rattle.client_rows.specs.open_marks.Marks.{is_lock_kind}
use Rattle.client_rows.specs.Shown.{ShowsRows}
use Rattle.client_tables.specs.declared.choice.finding.Attached.{Attached}
use Rattle.client_tables.specs.choice.Shown.{IsChoiceAt}
use Rattle.client_tables.specs.whole_table.Shown.{TableBounds}
use Rattle.client_tables.specs.attached_opens.Locks.{is_lock_on, locks_on}
use Rattle.client_tables.specs.attached_opens.Opens.{FitsOpens, HasSlots}
use Rattle.client_tables.proofs.attached_opens.Locks.{count_beside}
use Rattle.client_tables.proofs.attached_opens.Roomy.{roomy_slot}
use Rattle.client_steps.proofs.sending.Going.{lock_at}

pub finds_room : (slot n room : ℕ) → (nat_le slot n || nat_lt n room) ≡ true → n < slot → n < room
finds_room slot n room e l = grind arith

pub no_room : (slot n room : ℕ) → (nat_lt 0 slot && (nat_le slot n || nat_lt n room)) ≡ false → 0 < slot → (n < slot → n < room) → ⊥
no_room slot n room e p f = by_case (in_or_behind slot n)
  where
    in_or_behind : (x m : ℕ) → (x ≤ m) ⊎ (m < x)
    in_or_behind x m = grind arith

    by_case : (slot ≤ n) ⊎ (n < slot) → ⊥
    by_case (inl l) = used slot n room e p l
      where
        used : (x m k : ℕ) → (nat_lt 0 x && (nat_le x m || nat_lt m k)) ≡ false → 0 < x → x ≤ m → ⊥
        used x m k e p l = grind arith
    by_case (inr l) = free slot n room e p (f l)
      where
        free : (x m k : ℕ) → (nat_lt 0 x && (nat_le x m || nat_lt m k)) ≡ false → 0 < x → m < k → ⊥
        free x m k e p l = grind arith

all_three : (g : ℕ) (a : Bool) (x y : ℕ) → 0 < g → a ≡ true → x ≡ y → (nat_lt 0 g && (a && (x == y))) ≡ true
all_three g a x y p e q = grind arith

one_less : (x y : ℕ) → x + 1 ≡ y + 1 → x ≡ y
one_less x y e = omega arith

clash : (b : Bool) → b ≡ true → b ≡ false → ⊥
clash b e f = absurd (cc)

-- each slot's last user is another lock of the open, so that there are more locks than slots
module _ (rows : List Row) (holders prices : List ℕ) (watchers : List Watch) (attached : List Attached) (c : Client) (at x : ℕ)
    (own : Attached) (s : ShowsRows rows holders prices watchers c) (b : TableBounds c) (f : FitsOpens rows attached) (p : 0 < x)
    (l : x < length rows) (on : (row_at rows x).«open» ≡ at) (lock : is_lock (c.op x) ≡ true) (unsent : c.sent x ≡ false)
    (inside : at < length attached) (is : IsChoiceAt attached at own)
    (h : HasSlots own.slots.items (c.slot_user (create_for c x)) (c.retried (create_for c x)) (c.full (create_for c x))) where
  abbrev user : ℕ → ℕ
  user i = (slot_at own.slots.items i).user

  abbrev Took : ℕ → Type 0
  Took i = (is_lock (c.op (user i)) ≡ true) × (create_for c (user i) ≡ create_for c x) × (c.slot_of (user i) ≡ i + 1)
      × (c.sent (user i) ≡ true)

  took : (i : ℕ) → i < length own.slots.items → Took i
  took i k = b.users (create_for c x) (i + 1) (user i) (h.user_is i k)

  counted : (g : ℕ) → 0 < g → g < length rows → is_lock (c.op g) ≡ true → (row_at rows g).«open» ≡ at → is_lock_on rows at g ≡ true
  counted g q k e o =
      all_three g (is_lock_kind (kind rows g)) (row_at rows g).«open» at q (sym (lock_at rows holders prices watchers c g q k s) ∙ e) o

  mine : (i : ℕ) → i < length own.slots.items → (user i < length rows) × (is_lock_on rows at (user i) ≡ true)
  mine i k =
      let w = f.users at own inside is i k in
      let t = took i k in
      let g = user i in (
        w.1,
        counted g w.0 w.1 t.0
            ((f.paired g x w.0 w.1 p l).0 (sym (s.places.creates g w.0 (s.places.is_taken g w.0 w.1)) ∙ t.1
            ∙ s.places.creates x p (s.places.is_taken x p l)) ∙ on),
      )

  apart : (i j : ℕ) → i < length own.slots.items → j < length own.slots.items → user i ≡ user j → i ≡ j
  apart i j k m e = one_less i j (sym (took i k).2 ∙ ap (λ g. c.slot_of g) e ∙ (took j m).2)

  others : (i : ℕ) → i < length own.slots.items → user i ≡ x → ⊥
  others i k e = clash (c.sent (user i)) (took i k).3 (ap (λ g. c.sent g) e ∙ unsent)

  pub slot_room : (slot : ℕ) → slot ≤ 64 → length own.slots.items < slot → length own.slots.items < vec_capacity own.slots
  slot_room slot few behind =
      roomy_slot (locks_on rows at) own.locks (vec_capacity own.slots) (length own.slots.items) slot (f.room at own inside is)
      (count_beside (is_lock_on rows at) (length rows) (length own.slots.items) x user (counted x p l lock on) l mine
      apart others) few behind
