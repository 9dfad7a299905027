-- The least free slot of the rows is the model's.
use Rattle.std.proofs.Common.{◌≡◌, ℕ, zero, suc, ◌+◌, ◌-◌, ◌<◌, ◌≤◌, ◌==◌, ◌&&◌, not, nat_le, nat_lt, Bool, true, false, if◌then◌else◌}
use Rattle.std.proofs.Common.{List, length, refl, ap, sym, ◌∙◌, arith, ◌⊎◌, inl, inr, Option, Some, None, IfSome}
use Rattle.spec_exchange.specs.Client.{Client, is_out_of_use}
use Rattle.spec_exchange.specs.Client.{is_free as is_free_in}
use Rattle.spec_exchange.specs.Schedules.{least_free}
use Rattle.client_rows.specs.declared.operation_rows.row.Row.{Row}
use Rattle.client_rows.specs.declared.operation_rows.slots.Slot.{Slot}
use Rattle.client_rows.specs.operation_rows.Slots.{is_slot_free, is_free_slot, slot_least, slot_at}
use Rattle.client_rows.specs.lock_slots.Shown.{ShowsSlots}

-- within the range alone
in_range : (a b x y : Bool) → (a ≡ true → b ≡ true → x ≡ y) → ((a && b) && x) ≡ ((a && b) && y)
in_range true true x y h = h refl refl
in_range true false x y h = refl
in_range false b x y h = refl

if_within : (i n : ℕ) (x : Bool) → i < n → (if nat_lt i n then x else true) ≡ x
if_within i n x l = grind arith

if_beyond : (i n : ℕ) (x : Bool) → n ≤ i → (if nat_lt i n then x else true) ≡ true
if_beyond i n x l = grind arith

below_or_not : (i n : ℕ) → (i < n) ⊎ (n ≤ i)
below_or_not i n = grind arith

is_above : (i : ℕ) → nat_lt 0 i ≡ true → i ≡ (i - 1) + 1
is_above i e = grind arith

never_used : (session : ℕ) → 0 < session → (true && (not (0 == session) && not false)) ≡ true
never_used session p = grind arith

module _ (rows : List Row) (slots : List Slot) (session : ℕ) (c : Client) (create : ℕ)
    (counted : 0 < session) where
  abbrev tests : ℕ → Bool
  tests i = is_out_of_use c (c.slot_user create i) && (not (c.retried create i == c.session_number) && not (c.full create i))

  by_slot : ShowsSlots rows slots session c create → (place : ℕ) → place < length slots → tests (place + 1)
      ≡ is_free_slot rows session (slot_at slots place)
  by_slot s place l =
      let u = ap (λ o. is_out_of_use c o) (s.user place l) ∙ s.firm place l in
      λ t. (u t) && (not ((s.retried place l t) == (s.number t)) && not (s.full place l t))

  by_none : ShowsSlots rows slots session c create → (place : ℕ) → length slots ≤ place → tests (place + 1) ≡ true
  by_none s place l =
      let w = s.unused place l in
      let u = ap (λ o. is_out_of_use c o) w.0 in
      (λ t. (u t) && (not ((w.1 t) == (s.number t)) && not (w.2 t))) ∙ never_used session counted

  free_is : ShowsSlots rows slots session c create → (i : ℕ) → is_free_in c create i ≡ is_slot_free rows slots session i
  free_is s i =
      in_range (nat_lt 0 i) (nat_le i 64) (tests i) (if nat_lt (i - 1) (length slots) then is_free_slot rows session
      (slot_at slots (i - 1)) else true)
      (λ a b. ap (λ x. tests x) (is_above i a) ∙ (
      elim (below_or_not (i - 1) (length slots))
      as (λ _. tests ((i - 1) + 1) ≡ (if nat_lt (i - 1) (length slots) then is_free_slot rows session (slot_at slots (i - 1)) else true)) [
        | inl l ↦ by_slot s (i - 1) l ∙ sym (if_within (i - 1) (length slots) (is_free_slot rows session (slot_at slots (i - 1))) l)
        | inr l ↦ by_none s (i - 1) l ∙ sym (if_beyond (i - 1) (length slots) (is_free_slot rows session (slot_at slots (i - 1))) l)
      ]
      ))

  pub least_is : ShowsSlots rows slots session c create → (i n : ℕ) → least_free c create i n
      ≡ slot_least (is_slot_free rows slots session) i n
  unfolding least_free slot_least
  least_is s i zero = refl
  least_is s i (suc n) =
      (λ t. elim (free_is s i t) as (λ x. Option ℕ) [ true ↦ Some i | false ↦ least_free c create (i + 1) n ])
      ∙ (λ t. elim (is_slot_free rows slots session i) as (λ x. Option ℕ) [ true ↦ Some i | false ↦ (least_is s (i + 1) n) t ])

-- ---- it isn't above the slot behind those that were used

if_weaker : (o : Option ℕ) (P Q : ℕ → Type 0) → ((s : ℕ) → P s → Q s) → IfSome o P → IfSome o Q
if_weaker None P Q f h = tt
if_weaker (Some s) P Q f h = f s h

-- the first from i on, of n
abbrev IsFirst : (ℕ → Bool) → (i n s : ℕ) → Type 0
IsFirst free i n s = (i ≤ s) × (s < i + n) × ((j : ℕ) → i ≤ j → j < s → free j ≡ false)

later_too : (free : ℕ → Bool) (i n s : ℕ) → free i ≡ false → IsFirst free (i + 1) n s → IsFirst free i (suc n) s
later_too free i n s e h =
    let a = h.0 in
    let b = h.1 in (
      omega arith,
      omega arith,
      λ j l k. elim (at_or_behind i j l) as (λ _. free j ≡ false) [ inl q ↦ ap (λ x. free x) q ∙ e | inr q ↦ h.2 j q k ],
    )
  where
    at_or_behind : (i j : ℕ) → i ≤ j → (j ≡ i) ⊎ (i + 1 ≤ j)
    at_or_behind i j l = grind arith

by_first : (free : ℕ → Bool) (i n : ℕ) (b : Bool) (o : Option ℕ) → free i ≡ b → IfSome o (λ s. IsFirst free (i + 1) n s)
    → IfSome (elim b as (λ x. Option ℕ) [ true ↦ Some i | false ↦ o ]) (λ s. IsFirst free i (suc n) s)
by_first free i n true o e h = (omega arith, omega arith, λ j l k. absurd (omega arith))
by_first free i n false o e h = if_weaker o (λ s. IsFirst free (i + 1) n s) (λ s. IsFirst free i (suc n) s)
    (λ s f. later_too free i n s e f) h

least_first : (free : ℕ → Bool) (i n : ℕ) → IfSome (slot_least free i n) (λ s. IsFirst free i n s)
unfolding slot_least
least_first free i zero = tt
least_first free i (suc n) = by_first free i n (free i) (slot_least free (i + 1) n) refl (least_first free (i + 1) n)

fresh_is_free : (m : ℕ) (x : Bool) → m < 64 → ((nat_lt 0 (m + 1) && nat_le (m + 1) 64)
    && (if nat_lt ((m + 1) - 1) m then x else true)) ≡ true
fresh_is_free m x l = λ t. (some_above m t && within_all m l t) && if_beyond ((m + 1) - 1) m x (omega arith) t
  where
    some_above : (n : ℕ) → nat_lt 0 (n + 1) ≡ true
    some_above n = grind arith

    within_all : (n : ℕ) → n < 64 → nat_le (n + 1) 64 ≡ true
    within_all n k = grind arith

clash : (b : Bool) → b ≡ true → b ≡ false → ⊥
clash b e f = absurd (cc)

full_or_not : (m : ℕ) → m ≤ 64 → (m ≡ 64) ⊎ (m < 64)
full_or_not m l = grind arith

up_to_or_past : (s m : ℕ) → (s ≤ m) ⊎ (m < s)
up_to_or_past s m = grind arith

module _ (rows : List Row) (slots : List Slot) (session : ℕ) (few : length slots ≤ 64) where
  bounded : (s : ℕ) → IsFirst (is_slot_free rows slots session) 1 64 s → (0 < s) × (s ≤ length slots + 1)
  bounded s h =
      let a = h.0 in
      let b = h.1 in
      elim (full_or_not (length slots) few) as (λ _. (0 < s) × (s ≤ length slots + 1)) [
        | inl e ↦ (omega arith, omega arith)
        | inr l ↦ elim (up_to_or_past s (length slots + 1)) as (λ _. (0 < s) × (s ≤ length slots + 1)) [
          | inl k ↦ (omega arith, k)
          | inr k ↦ absurd (clash (is_slot_free rows slots session (length slots + 1))
              (fresh_is_free (length slots) (is_free_slot rows session (slot_at slots ((length slots + 1) - 1))) l)
              (h.2 (length slots + 1) (omega arith) k))
        ]
      ]

  pub least_few : IfSome (slot_least (is_slot_free rows slots session) 1 64) (λ s. s ≤ 64)
  least_few =
      if_weaker (slot_least (is_slot_free rows slots session) 1 64) (λ s. IsFirst (is_slot_free rows slots session) 1 64 s) (λ s. s ≤ 64)
      (λ s h. up_to s h.1) (least_first (is_slot_free rows slots session) 1 64)
    where
      up_to : (s : ℕ) → s < 1 + 64 → s ≤ 64
      up_to s l = omega arith

  pub least_within : IfSome (slot_least (is_slot_free rows slots session) 1 64) (λ s. (0 < s) × (s ≤ length slots + 1))
  least_within =
      if_weaker (slot_least (is_slot_free rows slots session) 1 64) (λ s. IsFirst (is_slot_free rows slots session) 1 64 s)
      (λ s. (0 < s) × (s ≤ length slots + 1)) bounded (least_first (is_slot_free rows slots session) 1 64)
