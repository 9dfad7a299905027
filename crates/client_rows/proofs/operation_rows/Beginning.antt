-- The first row, which is of no operation, reads as no row does.
use Rattle.std.proofs.Common.{◌≡◌, ℕ, ◌-◌, ◌<◌, ◌≤◌, Bool, List, [], ◌∷◌, length, set, get_or, ap, sym, ◌∙◌, arith, subst, ◌⊎◌, inl, inr}
use Rattle.std.proofs.lemmas.Grind.{common_steps}
use Rattle.std.proofs.lemmas.List.{get_or-set_same}
use Rattle.base_lists.specs.declared.watch_lists.Link.{Link as Watch}
use Rattle.base_lists.specs.watch_lists.Listed.{watches}
use Rattle.client_rows.specs.declared.operation_rows.row.Row.{Row}
use Rattle.client_rows.specs.operation_rows.Rows.{row_at, stands, is_out, costs, no_row}
use Rattle.client_rows.specs.operation_rows.Holding.{AreFirst, HoldingHolder, IsSafe}
use Rattle.client_rows.specs.operation_rows.Choosing.{price_of}
use Rattle.client_rows.specs.operation_rows.Moves.{StandsRows}
use Rattle.client_rows.proofs.operation_rows.Adding.{at_new, at_old}
use Rattle.client_rows.proofs.operation_rows.Columns.{moved}

ways : (x y : ℕ) → (x ≡ y) ⊎ (x ≡ y → ⊥)
ways x y = grind arith

nought_below : (n : ℕ) → 0 ≤ n
nought_below n = omega arith

none_below : (i : ℕ) → i < 0 → ⊥
none_below i l = absurd (omega arith)

first_alone : (g : ℕ) → g < 1 → g ≡ 0
first_alone g l = omega arith

reads_nothing : (g : ℕ) → row_at [] g ≡ no_row
reads_nothing g = grind (arith, common_steps)

pub reads_none : (g : ℕ) → row_at (no_row ∷ []) g ≡ no_row
reads_none g =
    elim (ways g 0) as (λ _. row_at (no_row ∷ []) g ≡ no_row) [
      | inl e ↦ ap (λ i. row_at (no_row ∷ []) i) e ∙ at_new [] no_row
      | inr e ↦ at_old [] no_row g e ∙ reads_nothing g
    ]

same_reading : ◌≡◌ {A = ℕ → Row} (λ (g : ℕ). row_at [] g) (λ (g : ℕ). row_at (no_row ∷ []) g)
same_reading = λ t g. (reads_nothing g ∙ sym (reads_none g)) t

column : {X : Type 0} (f : Row → X) → ◌≡◌ {A = ℕ → X} (λ (g : ℕ). f (row_at [] g)) (λ (g : ℕ). f (row_at (no_row ∷ []) g))
column f = ap (λ (at : ℕ → Row). λ (g : ℕ). f (at g)) same_reading

pub stands_first : (holds : ℕ → ℕ → Bool) (fills : ℕ → Bool) (holders prices : List ℕ) (watchers : List Watch) → 0 < length prices
    → StandsRows holds fills [] holders prices watchers → StandsRows holds fills (no_row ∷ []) holders (set prices 0 255) watchers
stands_first holds fills holders prices watchers p s =
    record {
      fits = moved (column (λ (r : Row). r.create)) (column (λ (r : Row). r.kind)) (column (λ (r : Row). r.unsettled))
          (column (λ (r : Row). r.lower)) (column (λ (r : Row). r.change)) (column (λ (r : Row). r.filled))
          (column (λ (r : Row). r.holders)) (column (λ (r : Row). r.holders_end)) s.fits;
      first = subst (λ (at : ℕ → Row). AreFirst holds (λ g. (at g).create) (λ g. (at g).unsettled)) same_reading s.first;
      watched = subst (λ (at : ℕ → Row). (g : ℕ) → 0 < watches watchers g
          → HoldingHolder holds (λ h. (at h).create) (λ h. (at h).unsettled) (watches watchers g) g) same_reading s.watched;
      priced = λ g l. subst (λ x. get_or (set prices 0 255) x 0
          ≡ price_of (stands (no_row ∷ []) x) (is_out (no_row ∷ []) x) (watches watchers x) (costs (no_row ∷ []) x))
          (sym (first_alone g l)) (get_or-set_same prices 0 255 0 p);
    }

pub safe_first : (holders : List ℕ) → IsSafe (no_row ∷ []) holders
safe_first holders =
    record {
      descend = record {
        all = λ g. subst (λ (r : Row). r.lower ≤ g - 1) (sym (reads_none g)) (nought_below (g - 1));
        changes = λ g. subst (λ (r : Row). r.change ≤ g - 1) (sym (reads_none g)) (nought_below (g - 1));
        filled = λ g. subst (λ (r : Row). r.filled ≤ g - 1) (sym (reads_none g)) (nought_below (g - 1));
      };
      listed = λ g l. record {
        begins = subst (λ (r : Row). r.holders ≤ r.holders_end) (sym (reads_none g)) (nought_below 0);
        ends = subst (λ (r : Row). r.holders_end ≤ length holders) (sym (reads_none g)) (nought_below (length holders));
        each = λ i a b. absurd (none_below i (subst (λ (r : Row). i < r.holders_end) (reads_none g) b));
        some = λ i a b. absurd (none_below i (subst (λ (r : Row). i < r.holders_end) (reads_none g) b));
      };
      nought = ap (λ (r : Row). r.unsettled) (reads_none 0);
      owned = λ g l. subst (λ (r : Row). r.create ≤ g) (sym (reads_none g)) (nought_below g);
    }
