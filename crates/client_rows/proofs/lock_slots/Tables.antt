-- The model's tables by two numbers, and lists of slots, at one place and at the others.
use Rattle.std.proofs.Common.{◌≡◌, ℕ, ◌+◌, ◌<◌, ◌==◌, Bool, true, false, if◌then◌else◌, List, [], ◌∷◌, ◌++◌, length}
use Rattle.std.proofs.Common.{set, refl, ap, ◌∙◌, arith, ◌⊎◌}
use Rattle.std.proofs.lemmas.List.{get_or-set_same, get_or-set_other}
use Rattle.std.proofs.lemmas.Grind.{common_steps}
use Rattle.spec_exchange.specs.Table.{put2}
use Rattle.client_rows.specs.declared.operation_rows.slots.Slot.{Slot}
use Rattle.client_rows.specs.operation_rows.Slots.{no_slot, slot_at}

same_or_other : (j k : ℕ) → (j ≡ k) ⊎ (j ≡ k → ⊥)
same_or_other j k = grind arith

equal : (j k : ℕ) → j ≡ k → (j == k) ≡ true
equal j k e = grind arith

apart : (j k : ℕ) → (j ≡ k → ⊥) → (j == k) ≡ false
apart j k n = grind arith

module _ {X : Type 0} where
  by_yes : (b : Bool) (x y : X) → b ≡ true → (if b then x else y) ≡ x
  by_yes true x y e = refl
  by_yes false x y e = absurd (cc)

  by_no : (b : Bool) (x y : X) → b ≡ false → (if b then x else y) ≡ y
  by_no true x y e = absurd (cc)
  by_no false x y e = refl

  pub put2_at : (f : ℕ → ℕ → X) (i j : ℕ) (v : X) → put2 f i j v i j ≡ v
  put2_at f i j v =
      by_yes (i == i) (if j == j then v else f i j) (f i j) (equal i i refl)
      ∙ by_yes (j == j) v (f i j) (equal j j refl)

  pub put2_past : (f : ℕ → ℕ → X) (i j r : ℕ) (v : X) → (r ≡ j → ⊥) → put2 f i j v i r ≡ f i r
  put2_past f i j r v n =
      by_yes (i == i) (if r == j then v else f i r) (f i r) (equal i i refl) ∙ by_no (r == j) v (f i r) (apart r j n)

  pub put2_other : (f : ℕ → ℕ → X) (i j q r : ℕ) (v : X) → (q ≡ i → ⊥) → put2 f i j v q r ≡ f q r
  put2_other f i j q r v n = by_no (q == i) (if r == j then v else f q r) (f q r) (apart q i n)

-- ---- slots by place

pub below_or_last : (p n : ℕ) → p < n + 1 → (p < n) ⊎ (p ≡ n)
below_or_last p n l = grind arith

pub not_last : (p n : ℕ) → p < n → p + 1 ≡ n + 1 → ⊥
not_last p n l e = omega arith

pub is_there : (p place : ℕ) → (p ≡ place) ⊎ (p + 1 ≡ place + 1 → ⊥)
is_there p place = grind arith

pub set_at : (slots : List Slot) (place : ℕ) (s : Slot) → place < length slots → slot_at (set slots place s) place ≡ s
set_at slots place s l = get_or-set_same slots place s no_slot l

pub set_past : (slots : List Slot) (place p : ℕ) (s : Slot) → (p + 1 ≡ place + 1 → ⊥) → slot_at (set slots place s) p ≡ slot_at slots p
set_past slots place p s n = get_or-set_other slots place p s no_slot (λ e. n (ap (λ m. m + 1) e))

pub pushed_below : (slots : List Slot) (s : Slot) (p : ℕ) → p < length slots → slot_at (slots ++ s ∷ []) p ≡ slot_at slots p
pushed_below slots s p l = grind (arith, common_steps)

pub pushed_last : (slots : List Slot) (s : Slot) → slot_at (slots ++ s ∷ []) (length slots) ≡ s
pushed_last slots s = grind (arith, common_steps)
