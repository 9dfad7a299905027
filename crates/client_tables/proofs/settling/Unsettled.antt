-- Whether an operation is left that isn't settled.
use Rattle.std.proofs.Common.{◌≡◌, ℕ, zero, suc, ◌+◌, ◌<◌, ◌≤◌, nat_lt, Bool, true, false, List, length, refl, ap, sym, ◌∙◌, arith}
use Rattle.std.proofs.Common.{◌⊎◌, inl, inr}
use Rattle.spec_exchange.specs.Operations.{is_unsettled}
use Rattle.spec_exchange.specs.Client.{Client}
use Rattle.spec_exchange.specs.ClientStep.{some_unsettled}
use Rattle.spec_exchange.specs.Schedules.{cost}
use Rattle.client_rows.specs.declared.operation_rows.row.Row.{Row}
use Rattle.client_rows.specs.operation_rows.Rows.{stands}
use Rattle.client_rows.specs.Shown.{RowShowsPlaces}
use Rattle.client_tables.specs.settling.Shown.{AreSettledBelow}

ways : (x y : ℕ) → (x ≡ y) ⊎ (x ≡ y → ⊥)
ways x y = grind arith

below_or_past : (k n : ℕ) → (k < n) ⊎ (n ≤ k)
below_or_past k n = grind arith

lower_one : (g n : ℕ) → g ≤ suc n → (g ≡ n + 1 → ⊥) → g ≤ n
lower_one g n l e = omega arith

abbrev either : Bool → Bool → Bool
either b rest = elim b as (λ x. Bool) [ true ↦ true | false ↦ rest ]

rest_true : (b rest : Bool) → rest ≡ true → either b rest ≡ true
rest_true true rest e = refl
rest_true false rest e = e

pub none_left : (c : Client) (n : ℕ) → ((g : ℕ) → 0 < g → g ≤ n → is_unsettled (c.outcome g) ≡ false) → some_unsettled c n ≡ false
unfolding some_unsettled
none_left c zero h = refl
none_left c (suc n) h =
    ap (λ b. either b (some_unsettled c n)) (h (n + 1) (omega arith) (omega arith))
    ∙ none_left c n (λ g p l. h g p (omega arith))

pub some_left : (c : Client) (n g : ℕ) → 0 < g → g ≤ n → is_unsettled (c.outcome g) ≡ true → some_unsettled c n ≡ true
unfolding some_unsettled
some_left c zero g p l u = absurd (omega arith)
some_left c (suc n) g p l u =
    elim (ways g (n + 1)) as (λ _. either (is_unsettled (c.outcome (n + 1))) (some_unsettled c n) ≡ true) [
      | inl e ↦ ap (λ b. either b (some_unsettled c n)) (sym (ap (λ x. is_unsettled (c.outcome x)) e) ∙ u)
      | inr e ↦ rest_true (is_unsettled (c.outcome (n + 1))) (some_unsettled c n) (some_left c n g p (lower_one g n l e) u)
    ]

test_yes : (r n : ℕ) → r < n → nat_lt r n ≡ true
test_yes r n l = grind arith

test_no : (r n : ℕ) → n ≤ r → nat_lt r n ≡ false
test_no r n l = grind arith

pub left_is : (rows : List Row) (c : Client) (r : ℕ) → 0 < r → RowShowsPlaces rows c.taken c.op c.outcome (λ g. cost c g)
    → AreSettledBelow rows r → (r < length rows → stands rows r ≡ true) → some_unsettled c c.taken ≡ nat_lt r (length rows)
left_is rows c r p s b u =
    elim (below_or_past r (length rows)) as (λ _. some_unsettled c c.taken ≡ nat_lt r (length rows)) [
      | inl l ↦ (
          let t = s.is_taken r p l in
          some_left c c.taken r p t (s.unsettled r p t ∙ u l) ∙ sym (test_yes r (length rows) l)
          )
      | inr l ↦ none_left c c.taken (λ g q t. s.unsettled g q t ∙ b g (let w = s.has_row g q t in omega arith))
          ∙ sym (test_no r (length rows) l)
    ]

-- one more is settled
pub settled_more : (rows : List Row) (n : ℕ) → AreSettledBelow rows n → stands rows n ≡ false → AreSettledBelow rows (n + 1)
settled_more rows n b e = λ g l.
    elim (ways g n) as (λ _. stands rows g ≡ false) [
      | inl q ↦ ap (λ x. stands rows x) q ∙ e
      | inr q ↦ b g (lower g n l q)
    ]
  where
    lower : (g n : ℕ) → g < n + 1 → (g ≡ n → ⊥) → g < n
    lower g n l q = omega arith
