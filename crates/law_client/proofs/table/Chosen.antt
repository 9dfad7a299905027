-- Small facts on tests and on tables, and the two branches of a step.
use Rattle.std.proofs.Common.{◌≡◌, ℕ, ◌<◌, ◌≤◌, ◌==◌, ◌&&◌, ◌||◌, not, nat_le, nat_lt, Bool, true, false}
use Rattle.std.proofs.Common.{if◌then◌else◌, arith, ◌⊎◌, inl, inr, sym, ◌∙◌, ap, refl, Option, Some, None, is_some}
use Rattle.std.proofs.Common.{is_none}
use Rattle.spec_exchange.specs.Table.{put}
use Rattle.spec_exchange.specs.Client.{Client}

-- what holds in both branches
pub in_both : (P : Client → Type 0) (b : Bool) (x y : Client) → (b ≡ true → P x) → (b ≡ false → P y) → P (if b then x else y)
in_both P true x y f g = f refl
in_both P false x y f g = g refl

pub put_here : {X : Type 0} (f : ℕ → X) (k : ℕ) (v : X) (q : ℕ) → q ≡ k → put f k v q ≡ v
put_here f k v q e = grind arith

pub put_there : {X : Type 0} (f : ℕ → X) (k : ℕ) (v : X) (q : ℕ) → (q ≡ k → ⊥) → put f k v q ≡ f q
put_there f k v q e = grind arith

pub and_left : (a b : Bool) → (a && b) ≡ true → a ≡ true
and_left a b h = grind arith

pub and_right : (a b : Bool) → (a && b) ≡ true → b ≡ true
and_right a b h = grind arith

pub or_cases : (a b : Bool) → (a || b) ≡ true → (a ≡ true) ⊎ (b ≡ true)
or_cases a b h = grind arith

pub not_true : (a : Bool) → not a ≡ true → a ≡ false
not_true a h = grind arith

pub is_same : (x y : ℕ) → (x == y) ≡ true → x ≡ y
is_same x y h = grind arith

pub same_or_other : (x y : ℕ) → (x ≡ y) ⊎ (x ≡ y → ⊥)
same_or_other x y = grind arith

pub is_positive : (x : ℕ) → nat_lt 0 x ≡ true → 0 < x
is_positive x h = grind arith

pub is_less : (x y : ℕ) → nat_lt x y ≡ true → x < y
is_less x y h = grind arith

pub is_at_most : (x y : ℕ) → nat_le x y ≡ true → x ≤ y
is_at_most x y h = grind arith

pub none_is_out : (o : Option ℕ) → is_none o ≡ true → is_some o ≡ false
none_is_out None h = refl
none_is_out (Some k) h = absurd (cc)

pub put_is_some : (f : ℕ → Option ℕ) (k : ℕ) (v : Option ℕ) (q : ℕ) → is_some (put f k v q) ≡ true → (is_some (f q) ≡ true) ⊎ (q ≡ k)
put_is_some f k v q h = elim (same_or_other q k) [ inl e ↦ inr e | inr e ↦ inl (ap (λ o. is_some o) (sym (put_there f k v q e)) ∙ h) ]

pub put_none : (f : ℕ → Option ℕ) (k q : ℕ) → is_some (put f k None q) ≡ true → (is_some (f q) ≡ true) × (q ≡ k → ⊥)
put_none f k q h =
    elim (same_or_other q k) as (λ _. (is_some (f q) ≡ true) × (q ≡ k → ⊥)) [
      | inl e ↦ absurd (no_true (is_some (put f k None q)) h (ap (λ o. is_some o) (put_here f k None q e)))
      | inr e ↦ (ap (λ o. is_some o) (sym (put_there f k None q e)) ∙ h, e)
    ]
  where
    no_true : (a : Bool) → a ≡ true → a ≡ false → ⊥
    no_true a h k = absurd (cc)

pub put_is_true : (f : ℕ → Bool) (k q : ℕ) → put f k true q ≡ true → (f q ≡ true) ⊎ (q ≡ k)
put_is_true f k q h = elim (same_or_other q k) [ inl e ↦ inr e | inr e ↦ inl (sym (put_there f k true q e) ∙ h) ]
