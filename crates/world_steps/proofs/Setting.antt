-- Connections of which one is set, and each in turn.
use Rattle.std.proofs.Common.{◌≡◌, ℕ, zero, suc, ◌+◌, ◌≤◌, ◌<◌, ◌==◌, nat_lt, Bool, true, false, refl, sym, ap, subst, ◌∙◌, arith}
use Rattle.std.proofs.Common.{List, [], ◌∷◌, length, take, drop, ◌++◌, set, get_or, slice_get, Some, None}
use Rattle.std.proofs.Math.ListN.{length-set}
use Rattle.std.proofs.lemmas.Bool.Decides.{nat_tests}
use Rattle.std.proofs.lemmas.Option.{get_or_from_slice_get, slice_get_within}
use Rattle.world_ends.specs.declared.sides.Channel.{Channel}
use Rattle.world_steps.specs.Lists.{ChangedAll, ChangedAt, ChangedBelow}

some_none : {X : Type 0} (x : X) → None ≡ Some x → ⊥
some_none x e = absurd (cc)

set_here : (xs : List Channel) (k : ℕ) (v x : Channel) → slice_get xs k ≡ Some x → slice_get (set xs k v) k ≡ Some v
set_here [] k v x e = absurd (some_none x e)
set_here (y ∷ xs) zero v x e = refl
set_here (y ∷ xs) (suc k) v x e = set_here xs k v x e

set_there : (xs : List Channel) (k j : ℕ) (v : Channel) → (j ≡ k → ⊥) → slice_get (set xs k v) j ≡ slice_get xs j
set_there [] k j v other = refl
set_there (y ∷ xs) zero zero v other = absurd (other refl)
set_there (y ∷ xs) zero (suc j) v other = refl
set_there (y ∷ xs) (suc k) zero v other = refl
set_there (y ∷ xs) (suc k) (suc j) v other = set_there xs k j v (λ e. other (ap suc e))

pub one_set : (R : Channel → Channel → Type 0) (k : ℕ) (xs : List Channel) (v d : Channel) → R (get_or xs k d) v
    → ChangedAt R k xs (set xs k v)
one_set R k xs v d r = record {
  counted = length-set xs k v;
  here = λ x e. (v, set_here xs k v x e, subst (λ (u : Channel). R u v) (get_or_from_slice_get xs k x d e) r);
  there = λ j other. set_there xs k j v other;
}

-- what was lent of it
pub one_lent : (R : Channel → Channel → Type 0) (k : ℕ) (xs : List Channel) (v u : Channel) → u ≡ get_or xs k u → R u v
    → ChangedAt R k xs (set xs k v)
one_lent R k xs v u e r = one_set R k xs v u (subst (λ (w : Channel). R w v) e r)

beyond : (xs : List Channel) (k : ℕ) (x : Channel) → (k < length xs → ⊥) → slice_get xs k ≡ Some x → ⊥
beyond xs k x past e = past (slice_get_within xs k x e)

pub none_set : (R : Channel → Channel → Type 0) (k : ℕ) (xs : List Channel) → (k < length xs → ⊥) → ChangedAt R k xs xs
none_set R k xs past = record {
  counted = refl;
  here = λ x e. absurd (beyond xs k x past e);
  there = λ j other. refl;
}

pub not_within : (k n : ℕ) → nat_lt k n ≡ false → k < n → ⊥
not_within k n e l = grind (arith, nat_tests)

-- ---- one after the other

none_below : (k : ℕ) → k < 0 → ⊥
none_below k l = omega (arith, l)

pub none_yet : (R : Channel → Channel → Type 0) (xs : List Channel) → ChangedBelow R 0 xs xs
none_yet R xs = record { counted = refl; below = λ k y l e. absurd (none_below k l); above = λ k l. refl }

is_self : (k i : ℕ) → (k == i) ≡ true → k ≡ i
is_self k i e = grind (arith, nat_tests)

is_other : (k i : ℕ) → (k == i) ≡ false → k ≡ i → ⊥
is_other k i e d = grind (arith, nat_tests)

still_below : (k i : ℕ) → k < i + 1 → (k ≡ i → ⊥) → k < i
still_below k i l other = omega (arith, l, other)

higher : (k i : ℕ) → i + 1 ≤ k → k ≡ i → ⊥
higher k i l e = omega (arith, l, e)

no_lower : (k i : ℕ) → i + 1 ≤ k → i ≤ k
no_lower k i l = omega (arith, l)

same : (i : ℕ) → i ≤ i
same i = omega arith

some_same : {X : Type 0} (x y : X) → Some x ≡ Some y → x ≡ y
some_same x y e = cc

found : (zs : List Channel) (n : ℕ) → n < length zs → (x : Channel) × (slice_get zs n ≡ Some x)
found [] n l = absurd (none_below n l)
found (z ∷ zs) zero l = (z, refl)
found (z ∷ zs) (suc n) l = found zs n (let m : n < length zs = omega (arith, l) in m)

-- by whether it is the one that is set
below_by : (b : Bool) (R : Channel → Channel → Type 0) (i : ℕ) (xs ys : List Channel) (v d : Channel) (k : ℕ) (y : Channel)
    → (b ≡ true → k ≡ i) → (b ≡ false → k ≡ i → ⊥) → ChangedBelow R i xs ys → R (get_or ys i d) v → i < length ys → k < i + 1
    → slice_get (set ys i v) k ≡ Some y → (x : Channel) × (slice_get xs k ≡ Some x) × R x y
below_by true R i xs ys v d k y is other h r l m e =
    let k_is = is refl in
    let at : slice_get (set ys i v) i ≡ Some y = subst (λ (n : ℕ). slice_get (set ys i v) n ≡ Some y) k_is e in
    let old = found ys i l in
    let new : v ≡ y = some_same v y (sym (set_here ys i v old.0 old.1) ∙ at) in (
      old.0,
      subst (λ (n : ℕ). slice_get xs n ≡ Some old.0) (sym k_is) (sym (h.above i (same i)) ∙ old.1),
      subst (λ (u : Channel). R u y) (get_or_from_slice_get ys i old.0 d old.1) (subst (λ (u : Channel). R (get_or ys i d) u) new r),
    )
below_by false R i xs ys v d k y is other h r l m e =
    h.below k y (still_below k i m (other refl)) (sym (set_there ys i k v (other refl)) ∙ e)

pub one_more : (R : Channel → Channel → Type 0) (i : ℕ) (xs ys : List Channel) (v d : Channel) → ChangedBelow R i xs ys → i < length ys
    → R (get_or ys i d) v → ChangedBelow R (i + 1) xs (set ys i v)
one_more R i xs ys v d h l r = record {
  counted = length-set ys i v ∙ h.counted;
  below = λ k y m e. below_by (k == i) R i xs ys v d k y (is_self k i) (is_other k i) h r l m e;
  above = λ k m. set_there ys i k v (higher k i m) ∙ h.above k (no_lower k i m);
}

past_end : (ys xs : List Channel) (k : ℕ) → length ys ≡ length xs → slice_get ys k ≡ None → slice_get xs k ≡ None
past_end [] [] k e n = refl
past_end [] (x ∷ xs) k e n = absurd (cc)
past_end (y ∷ ys) [] k e n = absurd (cc)
past_end (y ∷ ys) (x ∷ xs) zero e n = absurd (some_none y (sym n))
past_end (y ∷ ys) (x ∷ xs) (suc k) e n = past_end ys xs k (let d : length ys ≡ length xs = omega (arith, e) in d) n

higher_still : (k n i : ℕ) → k < n → n ≤ i → k < i
higher_still k n i l m = omega (arith, l, m)

-- behind the last one
pub all_done : (R : Channel → Channel → Type 0) (xs us ys : List Channel) (i : ℕ) → us ≡ xs → ChangedBelow R i us ys → length ys ≤ i
    → ChangedAll R xs ys
all_done R xs us ys i same h over = subst (λ (v : List Channel). ChangedAll R v ys) same (record {
  counted = h.counted;
  each = λ k y e. h.below k y (higher_still k (length ys) i (slice_get_within ys k y e) over) e;
  past = λ k e. past_end ys us k h.counted e;
})

-- a list is written back whole
none_in : (n : ℕ) → suc n ≤ 0 → ⊥
none_in n l = omega (arith, l)

pub written : (len : ℕ) (xs ys : List Channel) → length ys ≡ length xs → length ys ≤ len → take len (ys ++ drop (length ys) xs) ≡ ys
written zero [] [] e l = refl
written (suc n) [] [] e l = refl
written len (x ∷ xs) [] e l = absurd (cc)
written len [] (y ∷ ys) e l = absurd (cc)
written zero (x ∷ xs) (y ∷ ys) e l = absurd (none_in (length ys) l)
written (suc n) (x ∷ xs) (y ∷ ys) e l =
    ap (λ (v : List Channel). y ∷ v)
    (written n xs ys (let d : length ys ≡ length xs = omega (arith, e) in d) (let m : length ys ≤ n = omega (arith, l) in m))
