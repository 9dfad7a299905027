-- The first row has none above it.
use Rattle.std.proofs.Common.{◌≡◌, ℕ, ◌<◌, List, [], ◌∷◌, ◌++◌, length, refl, ap, sym, ◌∙◌, subst, arith, inl, inr}
use Rattle.client_rows.specs.declared.operation_rows.row.Row.{Row}
use Rattle.client_rows.specs.operation_rows.Rows.{no_row}
use Rattle.client_steps.specs.taking.Taken.{KeepsOrBegins}
use Rattle.client_steps.proofs.taking.First.{empty_of}
use Rattle.client_steps.specs.unsent.Ascending.{Ascends}

none_above : (g : ℕ) → 0 < g → g < 1 → ⊥
none_above g p l = omega arith

none_between : (g h : ℕ) → 0 < g → g < h → h < 1 → ⊥
none_between g h p l m = omega arith

ascends_begun : Ascends (no_row ∷ []) (0 ∷ [])
ascends_begun =
    record {
      counted = refl;
      within = λ g p l. absurd (none_above g p l);
      higher = λ g p l. absurd (none_above g p l);
      own = λ g p l. absurd (none_above g p l);
      next = λ g h p l m. absurd (none_between g h p l m);
    }

nothing_less : (n : ℕ) → 0 < n → n ≡ 0 → ⊥
nothing_less n l e = omega arith

pub ascends_same : (rows new : List Row) (later made : List ℕ) → new ≡ rows → made ≡ later → Ascends rows later → Ascends new made
ascends_same rows new later made e f a =
    subst (λ (xs : List Row). Ascends xs made) (sym e) (subst (λ (ys : List ℕ). Ascends rows ys) (sym f) a)

pub ascends_first : (rows new : List Row) (later made : List ℕ) → rows ≡ [] → KeepsOrBegins rows new → 0 < length new → Ascends rows later
    → made ≡ later ++ 0 ∷ [] → Ascends new made
ascends_first rows new later made none begins some a e =
    elim begins as (λ _. Ascends new made) [
      | inl q ↦ absurd (nothing_less (length new) some (ap (λ (xs : List Row). length xs) (q ∙ none)))
      | inr w ↦ subst (λ (xs : List Row). Ascends xs made) (sym w.1)
          (subst (λ (ys : List ℕ). Ascends (no_row ∷ []) ys)
          (sym (e ∙ ap (λ (ys : List ℕ). ys ++ 0 ∷ [])
          (empty_of later 0 (a.counted ∙ ap (λ (xs : List Row). length xs) none) refl))) ascends_begun)
    ]
