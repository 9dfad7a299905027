-- The least of some numbers, by what is known of those below it.
use Rattle.std.proofs.Common.{◌≡◌, ℕ, zero, suc, ◌+◌, ◌-◌, ◌<◌, ◌≤◌, ◌&&◌, nat_le, nat_lt, Bool, true, false}
use Rattle.std.proofs.Common.{if◌then◌else◌, refl, ap, ◌∙◌}
use Rattle.std.proofs.Common.{List, length, arith, subst, ◌⊎◌, inl, inr, Option, Some, None}
use Rattle.client_rows.specs.declared.operation_rows.row.Row.{Row}
use Rattle.client_rows.specs.declared.operation_rows.slots.Slot.{Slot}
use Rattle.client_rows.specs.operation_rows.Slots.{is_slot_free, is_free_slot, slot_least, slot_at}

by_test : (free : ℕ → Bool) (i n : ℕ) (b : Bool) → free i ≡ b → slot_least free i (suc n)
    ≡ (elim b as (λ x. Option ℕ) [ true ↦ Some i | false ↦ slot_least free (i + 1) n ])
unfolding slot_least
by_test free i n b e =
    subst (λ (z : Bool). (elim (free i) as (λ x. Option ℕ) [ true ↦ Some i | false ↦ slot_least free (i + 1) n ])
    ≡ (elim z as (λ x. Option ℕ) [ true ↦ Some i | false ↦ slot_least free (i + 1) n ])) e refl

same_or_above : (i g : ℕ) → i ≤ g → (i ≡ g) ⊎ (i < g)
same_or_above i g l = grind arith

pub least_is : (free : ℕ → Bool) (i n g : ℕ) → i ≤ g → g < i + n → free g ≡ true
    → ((x : ℕ) → i ≤ x → x < g → free x ≡ false) → slot_least free i n ≡ Some g
least_is free i zero g l k e h = absurd (omega arith)
least_is free i (suc n) g l k e h =
    elim (same_or_above i g l) as (λ _. slot_least free i (suc n) ≡ Some g) [
      | inl q ↦ by_test free i n true (ap free q ∙ e) ∙ ap (λ x. Some x) q
      | inr q ↦ by_test free i n false (h i (omega arith) q) ∙ least_is free (i + 1) n g (omega arith) (omega arith) e
          (λ x a b. h x (omega arith) b)
    ]

pub least_none : (free : ℕ → Bool) (i n : ℕ) → ((x : ℕ) → i ≤ x → x < i + n → free x ≡ false) → slot_least free i n ≡ None
unfolding slot_least
least_none free i zero h = refl
least_none free i (suc n) h = by_test free i n false (h i (omega arith) (omega arith)) ∙ least_none free (i + 1) n
    (λ x a b. h x (omega arith) (omega arith))

-- ---- slots

used : (i n : ℕ) (free : Bool) → 0 < i → i ≤ 64 → i - 1 < n
    → ((nat_lt 0 i && nat_le i 64) && (if nat_lt (i - 1) n then free else true)) ≡ free
used i n free a b c = grind arith

unused : (i n : ℕ) (free : Bool) → 0 < i → i ≤ 64 → n ≤ i - 1
    → ((nat_lt 0 i && nat_le i 64) && (if nat_lt (i - 1) n then free else true)) ≡ true
unused i n free a b c = grind arith

pub used_slot : (rows : List Row) (slots : List Slot) (session i : ℕ) → 0 < i → i ≤ 64 → i - 1 < length slots
    → is_slot_free rows slots session i ≡ is_free_slot rows session (slot_at slots (i - 1))
used_slot rows slots session i a b c = used i (length slots) (is_free_slot rows session (slot_at slots (i - 1))) a b c

pub unused_slot : (rows : List Row) (slots : List Slot) (session i : ℕ) → 0 < i → i ≤ 64 → length slots ≤ i - 1
    → is_slot_free rows slots session i ≡ true
unused_slot rows slots session i a b c = unused i (length slots) (is_free_slot rows session (slot_at slots (i - 1))) a b c

back : (k : ℕ) → 0 < k → (k - 1) + 1 ≡ k
back k l = omega arith

-- the first that may be taken
pub found_slot : (rows : List Row) (slots : List Slot) (session place : ℕ) → place < length slots → length slots ≤ 64
    → is_free_slot rows session (slot_at slots place) ≡ true
    → ((k : ℕ) → k < place → is_slot_free rows slots session (k + 1) ≡ false)
    → slot_least (is_slot_free rows slots session) 1 64 ≡ Some (place + 1)
found_slot rows slots session place l n e h =
    let j : place + 1 - 1 ≡ place = omega arith in
    least_is (is_slot_free rows slots session) 1 64 (place + 1) (omega arith) (omega arith)
    (used_slot rows slots session (place + 1) (omega arith) (omega arith) (omega arith)
    ∙ ap (λ z. is_free_slot rows session (slot_at slots z)) j ∙ e)
    (λ x a b. subst (λ z. is_slot_free rows slots session z ≡ false) (back x (omega arith)) (h (x - 1) (omega arith)))

-- none of those that were used may be taken
pub new_slot : (rows : List Row) (slots : List Slot) (session : ℕ) → length slots < 64
    → ((k : ℕ) → k < length slots → is_slot_free rows slots session (k + 1) ≡ false)
    → slot_least (is_slot_free rows slots session) 1 64 ≡ Some (length slots + 1)
new_slot rows slots session n h =
    least_is (is_slot_free rows slots session) 1 64 (length slots + 1) (omega arith) (omega arith)
    (unused_slot rows slots session (length slots + 1) (omega arith) (omega arith) (omega arith))
    (λ x a b. subst (λ z. is_slot_free rows slots session z ≡ false) (back x (omega arith)) (h (x - 1) (omega arith)))

pub no_slot_left : (rows : List Row) (slots : List Slot) (session : ℕ) → 64 ≤ length slots
    → ((k : ℕ) → k < length slots → is_slot_free rows slots session (k + 1) ≡ false)
    → slot_least (is_slot_free rows slots session) 1 64 ≡ None
no_slot_left rows slots session n h = least_none (is_slot_free rows slots session) 1 64
    (λ x a b. subst (λ z. is_slot_free rows slots session z ≡ false) (back x (omega arith)) (h (x - 1) (omega arith)))
