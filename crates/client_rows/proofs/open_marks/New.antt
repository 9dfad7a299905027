-- What a new row has to show of its links and its chains, from the marks of its open.
use Rattle.std.proofs.Common.{◌≡◌, ℕ, ◌-◌, ◌<◌, ◌≤◌, ◌==◌, ◌&&◌, Bool, true, false, refl, ap, sym, ◌∙◌, arith, subst, ◌⊎◌, inl, inr}
use Rattle.client_values.specs.declared.operations.shapes.Kind.{Kind}
use Rattle.client_values.specs.declared.operations.shapes.Kind.TheVariants as kinds
use Rattle.client_values.specs.operations.Waiting.{shape_holds}
use Rattle.client_rows.specs.operation_rows.Holding.{is_holding_changing, on_by, on_chain}
use Rattle.client_rows.specs.operation_rows.Taking.{RowJoins}
use Rattle.client_rows.proofs.operation_rows.Holding.{same_of}
use Rattle.client_rows.specs.open_marks.Marks.{IsHighest, fills_by_shape, holds_by_shape}
use Rattle.client_rows.proofs.open_marks.Waits.{changing_change, changing_end, close_last, filled_look, is_or_not}

below_or_not : (i n : ℕ) → (i < n) ⊎ (n ≤ i)
below_or_not i n = grind arith

clash : (b : Bool) → b ≡ true → b ≡ false → ⊥
clash b h k = absurd (cc)

pub such_of : (x y : ℕ) (b : Bool) → ((x == y) && b) ≡ true → b ≡ true
such_of x y b e = grind arith

pub both : (x y : ℕ) (b : Bool) → x ≡ y → b ≡ true → ((x == y) && b) ≡ true
both x y b e f = grind arith

pub joins : (link o : ℕ → ℕ) (such u : ℕ → Bool) (create n m : ℕ) → o n ≡ create → link n ≡ m → IsHighest o such create n m
    → RowJoins link (on_by o such) u n
joins link o such u create n m own is i =
    let owner : 0 < link n → o (link n) ≡ o n = λ p. ap o is ∙ i.own (subst (λ z. 0 < z) is p) ∙ sym own in
    record {
      lower = elim (below_or_not 0 m) as (λ _. link n ≤ n - 1) [
        | inl p ↦ (let l = i.below p in omega arith)
        | inr p ↦ omega arith
      ];
      gap = λ h a b e. absurd (clash (such h) (such_of (o h) (o n) (such h) e)
          (i.none h (subst (λ z. z < h) is a) b (same_of (o h) (o n) (such h) e ∙ own)));
      same = λ p h. (let e = owner p in λ t. ((o h) == (e t)) && such h);
      is = λ p. both (o (link n)) (o n) (such (link n)) (owner p) (ap such is ∙ i.is (subst (λ z. 0 < z) is p));
    }

-- all of the chain that an operation goes down hold it up, or are its create
pub suits_by_kind : (b : Kind) (o : ℕ → ℕ) (k : ℕ → Kind) (at size : ℕ → ℕ) (h g : ℕ) → (k h ≡ kinds.Create → o h ≡ h)
    → on_chain b o k (λ x. fills_by_shape k size x) h g ≡ true
    → (h ≡ o g) ⊎ (shape_holds (k h) (at h) (size h) b (at g) (size g) ≡ true)
suits_by_kind kinds.Create o k at size h g c e = absurd (cc)
suits_by_kind kinds.Write o k at size h g c e = absurd (cc)
suits_by_kind kinds.Read o k at size h g c e = absurd (cc)
suits_by_kind kinds.End o k at size h g c e = inr (changing_end (k h) (at h) (size h) (at g) (size g)
    (such_of (o h) (o g) (is_holding_changing (k h)) e))
suits_by_kind kinds.Change o k at size h g c e = inr (changing_change (k h) (at h) (size h) (at g) (size g)
    (such_of (o h) (o g) (is_holding_changing (k h)) e))
suits_by_kind kinds.Lock o k at size h g c e = absurd (cc)
suits_by_kind kinds.Look o k at size h g c e = inr (filled_look (k h) (at h) (size h) (at g) (size g)
    (such_of (o h) (o g) (fills_by_shape k size h) e))
suits_by_kind kinds.List o k at size h g c e = absurd (cc)
suits_by_kind kinds.Close o k at size h g c e =
    elim (is_or_not (k h)) as (λ _. (h ≡ o g) ⊎ (shape_holds (k h) (at h) (size h) kinds.Close (at g) (size g) ≡ true)) [
      | inl q ↦ inl (sym (c q) ∙ same_of (o h) (o g) true e)
      | inr q ↦ inr (close_last (k h) kinds.Close (at h) (size h) (at g) (size g) q refl)
    ]

pub suits_new : (o : ℕ → ℕ) (k : ℕ → Kind) (at size : ℕ → ℕ) (n h : ℕ) → (k h ≡ kinds.Create → o h ≡ h)
    → on_chain (k n) o k (λ x. fills_by_shape k size x) h n ≡ true → (h ≡ o n) ⊎ (holds_by_shape k at size h n ≡ true)
suits_new o k at size n h c e = suits_by_kind (k n) o k at size h n c e
