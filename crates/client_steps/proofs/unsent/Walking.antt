-- A walk upwards over the operations of an open.
use Rattle.std.proofs.Common.{◌≡◌, ℕ, zero, suc, ◌+◌, ◌-◌, ◌<◌, ◌≤◌, ◌==◌, true, false, if◌then◌else◌, List, length, slice_index}
use Rattle.std.proofs.Common.{refl, ap, sym, subst, arith, ◌⊎◌, inl, inr}
use Rattle.client_rows.specs.declared.operation_rows.row.Row.{Row}
use Rattle.client_rows.specs.operation_rows.Rows.{owner}
use Rattle.client_steps.specs.unsent.GivenUp.{reached}
use Rattle.client_steps.specs.unsent.Ascending.{Ascends}

none_or_some : (x : ℕ) → (x ≡ 0) ⊎ (0 < x)
none_or_some zero = inl refl
none_or_some (suc n) = inr (omega arith)

test_same : (x y : ℕ) → x ≡ y → (x == y) ≡ true
test_same x y e = grind arith

test_other : (x y : ℕ) → (x ≡ y → ⊥) → (x == y) ≡ false
test_other x y e = grind arith

apart_from_none : (x : ℕ) → 0 < x → x ≡ 0 → ⊥
apart_from_none x p e = omega arith

pub reached_none : (at n : ℕ) → at ≡ 0 → reached at n ≡ n
reached_none at n e = ap (λ b. if b then n else at) (test_same at 0 e)

pub reached_some : (at n : ℕ) → 0 < at → reached at n ≡ at
reached_some at n p = ap (λ b. if b then n else at) (test_other at 0 (apart_from_none at p))

past : (at next n : ℕ) → at < n → (0 < next → at < next) → at < reached next n
past at next n l h =
    elim (none_or_some next) as (λ _. at < reached next n) [
      | inl e ↦ subst (λ x. at < x) (sym (reached_none next n e)) l
      | inr p ↦ subst (λ x. at < x) (sym (reached_some next n p)) (h p)
    ]

one_more : (x y : ℕ) → x < y → x + 1 ≤ y
one_more x y l = omega arith

less_left : (a r n : ℕ) → a < n → a < r → n - r < n - a
less_left a r n l h = omega arith

module _ (rows : List Row) (later : List ℕ) (a : Ascends rows later) (at : ℕ) (p : 0 < at) (l : at < length rows) where
  ahead : at < reached (slice_index later at) (length rows)
  ahead = past at (slice_index later at) (length rows) l (a.higher at p l)

  pub goes_up : at + 1 ≤ reached (slice_index later at) (length rows)
  goes_up = one_more at (reached (slice_index later at) (length rows)) ahead

  pub fewer_left : length rows - reached (slice_index later at) (length rows) < length rows - reached at (length rows)
  fewer_left =
      subst (λ x. length rows - reached (slice_index later at) (length rows) < length rows - x) (sym (reached_some at (length rows) p))
      (less_left at (reached (slice_index later at) (length rows)) (length rows) l ahead)

  -- none of the open is passed on the way
  pub none_passed : (h : ℕ) → at + 1 ≤ h → h < reached (slice_index later at) (length rows) → h < length rows
      → owner rows h ≡ owner rows at → ⊥
  none_passed h b m n e =
      let w = a.next at h p (below at h b) n e in
      clash (slice_index later at) h w.1 (subst (λ x. h < x) (reached_some (slice_index later at) (length rows) w.0) m)
    where
      below : (x y : ℕ) → x + 1 ≤ y → x < y
      below x y k = omega arith

      clash : (x y : ℕ) → x ≤ y → y < x → ⊥
      clash x y k m = omega arith
