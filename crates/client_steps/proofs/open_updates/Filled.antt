-- A lock slot that met DISK_FULL.
use Rattle.std.proofs.Common.{◌≡◌, ℕ, ◌+◌, ◌-◌, ◌<◌, ◌≤◌, ◌==◌, ◌&&◌, nat_le, nat_lt, not, Bool, true, false, if◌then◌else◌, List, length}
use Rattle.std.proofs.Common.{Option, None, is_some, refl, ap, sym, ◌∙◌, subst, arith, ◌⊎◌, inl, inr}
use Rattle.spec_exchange.specs.Table.{put2}
use Rattle.spec_exchange.specs.Operations.{is_lock}
use Rattle.spec_exchange.specs.Client.{Client, create_for}
use Rattle.spec_exchange.specs.Settling.{noted_full}
use Rattle.spec_exchange.specs.Status.{disk_full}
use Rattle.client_rows.specs.declared.operation_rows.row.Row.{Row}
use Rattle.client_rows.specs.declared.operation_rows.slots.Slot.{Slot}
use Rattle.client_rows.specs.lock_slots.Shown.{ShowsSlots}
use Rattle.client_tables.specs.whole_table.Shown.{TableBounds}
use Rattle.client_tables.specs.attached_opens.Opens.{HasSlots, KeepsOthers}
use Rattle.client_steps.specs.open_updates.Columns.{filled_now}

test_other : (x y : ℕ) → (x ≡ y → ⊥) → (x == y) ≡ false
test_other x y e = grind arith

off_by : {X : Type 0} (p q : Bool) (v z : X) → q ≡ false → (if p then (if q then v else z) else z) ≡ z
off_by true true v z e = absurd (cc)
off_by true false v z e = refl
off_by false q v z e = refl

put2_off : {X : Type 0} (f : ℕ → ℕ → X) (a b : ℕ) (v : X) (x y : ℕ) → (y ≡ b → ⊥) → put2 f a b v x y ≡ f x y
put2_off f a b v x y e = off_by (x == a) (y == b) v (f x y) (test_other y b e)

put2_other : {X : Type 0} (f : ℕ → ℕ → X) (a b : ℕ) (v : X) (x y : ℕ) → (x ≡ a → ⊥) → put2 f a b v x y ≡ f x y
put2_other f a b v x y e = ap (λ t. if t then (if y == b then v else f x y) else f x y) (test_other x a e)

next_is_some : (place n : ℕ) → n ≡ 0 → place + 1 ≡ n → ⊥
next_is_some place n e q = omega arith

-- the model's step
pub full_now : (c : Client) (g : ℕ) → is_lock (c.op g) ≡ true → noted_full c g false disk_full ≡ filled_now c g
full_now c g e = ap (λ b. if b && (not false && (disk_full == disk_full)) then filled_now c g else c) e

-- slot 0 is none
pub none_filled : (rows : List Row) (slots : List Slot) (session : ℕ) (c : Client) (g create : ℕ) → c.slot_of g ≡ 0
    → ShowsSlots rows slots session c create → ShowsSlots rows slots session (filled_now c g) create
none_filled rows slots session c g create e h =
    record {
      user = h.user;
      retried = h.retried;
      full = λ place l. put2_off c.full (create_for c g) (c.slot_of g) true create (place + 1) (next_is_some place (c.slot_of g) e)
          ∙ h.full place l;
      firm = h.firm;
      unused = λ place l. (
          let w = h.unused place l in (
            w.0,
            w.1,
            put2_off c.full (create_for c g) (c.slot_of g) true create (place + 1) (next_is_some place (c.slot_of g) e) ∙ w.2,
          )
          );
      number = h.number;
    }

pub is_none : (x n : ℕ) → (nat_lt 0 x && nat_le x n) ≡ false → (0 < x → x ≤ n) → x ≡ 0
is_none x n e h = elim (none_or_some x) as (λ _. x ≡ 0) [ inl q ↦ q | inr p ↦ absurd (clash x n e p (h p)) ]
  where
    none_or_some : (x : ℕ) → (x ≡ 0) ⊎ (0 < x)
    none_or_some x = grind arith

    clash : (x n : ℕ) → (nat_lt 0 x && nat_le x n) ≡ false → 0 < x → x ≤ n → ⊥
    clash x n e p l = grind arith

-- ---- a slot that a lock has is one of those that were used

true_or_false : (b : Bool) → (b ≡ true) ⊎ (b ≡ false)
true_or_false true = inl refl
true_or_false false = inr refl

either_way : (n x : ℕ) → (x ≤ n) ⊎ (n < x)
either_way n x = grind arith

one_before : (n x : ℕ) → n < x → n ≤ x - 1
one_before n x l = omega arith

and_one : (x : ℕ) → 0 < x → (x - 1) + 1 ≡ x
and_one x p = omega arith

none_is_none : (o : Option ℕ) → o ≡ None → is_some o ≡ true → ⊥
none_is_none o e f = absurd (cc)

not_none : (x : ℕ) → x ≡ 0 → 0 < x → ⊥
not_none x e p = omega arith

pub in_range : (c : Client) (g slot : ℕ) (slots : List Slot) → 0 < g → g ≤ c.taken → is_lock (c.op g) ≡ true → TableBounds c
    → HasSlots slots (c.slot_user (create_for c g)) (c.retried (create_for c g)) (c.full (create_for c g))
    → (c.sent g ≡ false → c.slot_of g ≡ 0) → c.slot_of g ≡ slot → 0 < slot → slot ≤ length slots
in_range c g slot slots p l lock b h unsent is some =
    subst (λ y. y ≤ length slots) is
    (elim (true_or_false (c.sent g)) as (λ _. c.slot_of g ≤ length slots) [
      | inl e ↦ (
          let w = b.slotted g p l e lock in
          let x = c.slot_of g in
          elim (either_way (length slots) x) as (λ _. x ≤ length slots) [
            | inl k ↦ k
            | inr k ↦ absurd (none_is_none (c.slot_user (create_for c g) x)
                (ap (λ y. c.slot_user (create_for c g) y) (sym (and_one x w.0)) ∙ (h.unused (x - 1) (one_before (length slots) x k)).0)
                w.1)
          ]
          )
      | inr e ↦ absurd (not_none (c.slot_of g) (unsent e) (subst (λ y. 0 < y) (sym is) some))
    ])

-- ---- the columns of opens

pub others_filled : (c : Client) (g : ℕ)
    → KeepsOthers (create_for c g) c.attached (filled_now c g).attached c.slot_user (filled_now c g).slot_user c.retried
    (filled_now c g).retried c.full (filled_now c g).full
others_filled c g =
    record {
      session_is = λ y e. refl;
      user_is = λ y e i. refl;
      retried_is = λ y e i. refl;
      full_is = λ y e i. put2_other c.full (create_for c g) (c.slot_of g) true y i e;
    }
