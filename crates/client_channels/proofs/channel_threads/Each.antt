-- What holds of each element of a list at its place.
use Rattle.std.proofs.Common.{◌≡◌, ◌<◌, ◌==◌, false, ℕ, zero, suc, ◌+◌, ◌-◌, List, [], ◌∷◌, ◌++◌, length, get_or, map, reverse, arith, refl, sym}
use Rattle.std.proofs.Common.{subst}
use Rattle.std.proofs.lemmas.Bool.Decides.{nat_tests}
use Rattle.std.specs.Prelude.{remove, slice_index_or}
use Rattle.std.proofs.lemmas.List.{get_or-reverse, get_or_append_left, get_or_push, length_push, length-reverse}
use Rattle.client_channels.specs.channel_threads.Seating.{EachAt}
use mathlib.Core.Logic.{dite}
use native.Mathlib.Decide.{ℕ_discrete}

module _ {X : Type 0} (P : ℕ → X → Type 0) where
  pub each_none : EachAt P []
  each_none k d lt = absurd (omega arith)

  pub each_same : (xs ys : List X) → xs ≡ ys → EachAt P ys → EachAt P xs
  each_same xs ys e h = subst (λ (l : List X). EachAt P l) (sym e) h

  pub each_push : (xs : List X) (x : X) → EachAt P xs → P (length xs) x → EachAt P (xs ++ x ∷ [])
  each_push xs x h p k d lt =
      let long = length_push xs x in
      dite (ℕ_discrete k (length xs))
      (λ same. subst (λ (y : X). P k y) (sym (get_or_push xs x d k (sym same))) (subst (λ (n : ℕ). P n x) (sym same) p))
      (λ other. subst (λ (y : X). P k y) (sym (get_or_append_left xs (x ∷ []) d k (omega (arith, long, lt, other))))
      (h k d (omega (arith, long, lt, other))))

  -- the last one, and those before it
  pub each_pop : (xs ys : List X) (x : X) → xs ≡ ys ++ x ∷ [] → EachAt P xs → EachAt P ys × P (length ys) x
  each_pop xs ys x e h =
      let whole : EachAt P (ys ++ x ∷ []) = subst (λ (l : List X). EachAt P l) e h in
      let long = length_push ys x in (
        (λ k d lt. subst (λ (y : X). P k y) (get_or_append_left ys (x ∷ []) d k lt) (whole k d (omega (arith, long, lt)))),
        subst (λ (y : X). P (length ys) y) (get_or_push ys x x (length ys) refl) (whole (length ys) x (omega (arith, long))),
      )

  -- the first one, and those behind it
  pub each_first : (x : X) (xs : List X) → EachAt P (x ∷ xs) → P 0 x
  each_first x xs h = h 0 x (omega arith)

  pub each_behind : (x : X) (xs : List X) → EachAt P (x ∷ xs) → EachAt (λ k y. P (k + 1) y) xs
  each_behind x xs h k d lt = subst (λ (n : ℕ). P n (slice_index_or xs k d)) (omega arith) (h (suc k) d (omega (arith, lt)))

  pub each_cons : (x : X) (xs : List X) → P 0 x → EachAt (λ k y. P (k + 1) y) xs → EachAt P (x ∷ xs)
  each_cons x xs p h zero d lt = p
  each_cons x xs p h (suc k) d lt = subst (λ (n : ℕ). P n (slice_index_or xs k d)) (omega arith) (h k d (omega (arith, lt)))

  pub at_each : (xs : List X) → EachAt P xs → (k : ℕ) (x : X) → k < length xs → x ≡ slice_index_or xs k x → P k x
  at_each xs h k x lt is = subst (λ (y : X). P k y) (sym is) (h k x lt)

  pub each_weaker : (Q : ℕ → X → Type 0) → ((k : ℕ) (x : X) → P k x → Q k x) → (xs : List X) → EachAt P xs → EachAt Q xs
  each_weaker Q f xs h k d lt = f k (slice_index_or xs k d) (h k d lt)

-- each element's image
pub each_map : {X Y : Type 0} (f : X → Y) (P : ℕ → Y → Type 0) (xs : List X) → EachAt (λ k x. P k (f x)) xs → EachAt P (map f xs)
each_map f P [] h k d lt = absurd (omega arith)
each_map f P (x ∷ xs) h zero d lt = h zero x (omega arith)
each_map f P (x ∷ xs) h (suc k) d lt = each_map f (λ n y. P (suc n) y) xs (λ n e less. h (suc n) e (omega (arith, less))) k d
    (omega (arith, lt))

-- the other way round
pub each_reverse : {X : Type 0} (P : ℕ → X → Type 0) (xs : List X) → EachAt P xs → EachAt (λ k x. P (length xs - 1 - k) x) (reverse xs)
each_reverse P xs h k d lt =
    let long = length-reverse xs in
    subst (λ (y : _). P (length xs - 1 - k) y) (sym (get_or-reverse xs k d (omega (arith, long, lt))))
    (h (length xs - 1 - k) d (omega (arith, long, lt)))

-- two lists of which each element has the same image
pub same_images : {X Y Z : Type 0} (f : X → Z) (g : Y → Z) (xs : List X) (ys : List Y) → length xs ≡ length ys
    → ((k : ℕ) (d : X) (e : Y) → k < length xs → f (get_or xs k d) ≡ g (get_or ys k e)) → map f xs ≡ map g ys
same_images f g [] [] long h = refl
same_images f g [] (y ∷ ys) long h = absurd (omega (arith, long))
same_images f g (x ∷ xs) [] long h = absurd (omega (arith, long))
same_images f g (x ∷ xs) (y ∷ ys) long h =
    let one : f x ≡ g y = h zero x y (omega arith) in
    let rest : map f xs ≡ map g ys = same_images f g xs ys (omega (arith, long)) (λ k d e lt. h (suc k) d e (omega (arith, lt))) in
    λ i. one i ∷ rest i

-- a list from which the first one is taken
pub first_taken : {X : Type 0} (xs rest : List X) (x : X) → 0 < length xs → x ≡ slice_index_or xs 0 x → rest ≡ remove xs 0 → xs ≡ x ∷ rest
first_taken [] rest x some at is = absurd (omega (arith, some))
first_taken (y ∷ ys) rest x some at is = λ i. sym at i ∷ sym is i

pub some_left : (n m : ℕ) → (n == 0) ≡ false → n ≡ m → 0 < m
some_left n m some is = grind (arith, nat_tests)
