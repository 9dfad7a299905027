-- Each slot's last user is an operation.
use Rattle.std.proofs.Common.{◌≡◌, ℕ, ◌+◌, ◌<◌, List, [], ◌∷◌, ◌++◌, length, set, sym, subst, arith, ◌⊎◌, inl, inr, length-append}
use Rattle.std.proofs.Math.ListN.{length-set}
use Rattle.std.proofs.lemmas.List.{get_or-set_same, get_or-set_other}
use Rattle.std.proofs.lemmas.Grind.{common_steps}
use Rattle.client_rows.specs.declared.operation_rows.slots.Slot.{Slot}
use Rattle.client_rows.specs.operation_rows.Slots.{no_slot, slot_at}
use Rattle.client_rows.specs.lock_slots.Shown.{AreUsed}

ways : (x y : ℕ) → (x ≡ y) ⊎ (x ≡ y → ⊥)
ways x y = grind arith

below_or_last : (p n : ℕ) → p < n + 1 → (p < n) ⊎ (p ≡ n)
below_or_last p n l = grind arith

pub used_again : (slots : List Slot) (place : ℕ) (s : Slot) → place < length slots → 0 < s.user → AreUsed slots
    → AreUsed (set slots place s)
used_again slots place s h u a = λ p l.
    elim (ways p place) as (λ _. 0 < (slot_at (set slots place s) p).user) [
      | inl q ↦ subst (λ x. 0 < (slot_at (set slots place s) x).user) (sym q)
          (subst (λ (z : Slot). 0 < z.user) (sym (get_or-set_same slots place s no_slot h)) u)
      | inr q ↦ subst (λ (z : Slot). 0 < z.user) (sym (get_or-set_other slots place p s no_slot q))
          (a p (subst (λ n. p < n) (length-set slots place s) l))
    ]

at_front : (slots : List Slot) (s : Slot) (p : ℕ) → p < length slots → slot_at (slots ++ s ∷ []) p ≡ slot_at slots p
at_front slots s p l = grind (arith, common_steps)

at_last : (slots : List Slot) (s : Slot) (p : ℕ) → p ≡ length slots → slot_at (slots ++ s ∷ []) p ≡ s
at_last slots s p e = grind (arith, common_steps)

pub used_more : (slots : List Slot) (s : Slot) → 0 < s.user → AreUsed slots → AreUsed (slots ++ s ∷ [])
used_more slots s u a = λ p l.
    elim (below_or_last p (length slots) (subst (λ n. p < n) (length-append slots (s ∷ [])) l))
    as (λ _. 0 < (slot_at (slots ++ s ∷ []) p).user) [
      | inl k ↦ subst (λ (z : Slot). 0 < z.user) (sym (at_front slots s p k)) (a p k)
      | inr k ↦ subst (λ (z : Slot). 0 < z.user) (sym (at_last slots s p k)) u
    ]
