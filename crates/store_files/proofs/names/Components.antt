-- A path read up to a place: the components before it are judged, and the one under way is the front of the next.
use Rattle.std.proofs.Common.{◌≡◌, ℕ, ◌+◌, ◌-◌, ◌<◌, ◌≤◌, ◌==◌, true, false, ◌&&◌, if◌then◌else◌, List, [], ◌∷◌, ◌++◌, length, take}
use Rattle.std.proofs.Common.{drop, get_or, refl, sym, ap, ◌∙◌, arith}
use Rattle.std.proofs.lemmas.List.{places}
use Rattle.std.proofs.lemmas.Grind.{same_number_lists}
use Rattle.std.specs.Str.{bytes_eq}
use Rattle.spec_exchange.specs.Content.{same_bytes}
use Rattle.spec_exchange.specs.Texts.{components_from, is_component, is_plain}

-- the byte at a place and what follows it
split_at : (i : ℕ) (p : List ℕ) → i < length p → drop i p ≡ get_or p i 0 ∷ drop (i + 1) p
split_at i p l = same_number_lists (drop i p) (get_or p i 0 ∷ drop (i + 1) p) (grind (arith, places)) (λ k h. grind (arith, places))

one_longer : (first i : ℕ) (p : List ℕ) → first ≤ i → i < length p
    → take (i + 1 - first) (drop first p) ≡ take (i - first) (drop first p) ++ get_or p i 0 ∷ []
one_longer first i p l m = same_number_lists (take (i + 1 - first) (drop first p)) (take (i - first) (drop first p) ++ get_or p i 0 ∷ [])
    (grind (arith, places)) (λ k h. grind (arith, places))

at_byte : (name : List ℕ) (i : ℕ) (p : List ℕ) → i < length p → components_from name (drop i p)
    ≡ (if get_or p i 0 == 92 then is_component name && components_from [] (drop (i + 1) p) else is_plain (get_or p i 0) && components_from
    (name ++ get_or p i 0 ∷ []) (drop (i + 1) p))
unfolding components_from
at_byte name i p l = rw (split_at i p l) refl

pub behind_slash : (first i : ℕ) (p : List ℕ) → i < length p → (get_or p i 0 == 92) ≡ true
    → is_component (take (i - first) (drop first p)) ≡ true
    → components_from (take (i - first) (drop first p)) (drop i p) ≡ components_from (take (i + 1 - (i + 1)) (drop (i + 1) p))
    (drop (i + 1) p)
behind_slash first i p l e c = at_byte (take (i - first) (drop first p)) i p l ∙ rw (e, c)
    (ap (λ n. components_from n (drop (i + 1) p)) (sym (none i p)))
  where
    none : (i : ℕ) (p : List ℕ) → take (i + 1 - (i + 1)) (drop (i + 1) p) ≡ []
    none i p = same_number_lists (take (i + 1 - (i + 1)) (drop (i + 1) p)) [] (grind (arith, places)) (λ k h. grind (arith, places))

pub behind_plain : (first i : ℕ) (p : List ℕ) → first ≤ i → i < length p → (get_or p i 0 == 92) ≡ false → is_plain (get_or p i 0) ≡ true
    → components_from (take (i - first) (drop first p)) (drop i p) ≡ components_from (take (i + 1 - first) (drop first p)) (drop (i + 1) p)
behind_plain first i p f l e c = at_byte (take (i - first) (drop first p)) i p l ∙ rw (e, c, one_longer first i p f l) refl

pub no_component : (first i : ℕ) (p : List ℕ) → i < length p → (get_or p i 0 == 92) ≡ true
    → is_component (take (i - first) (drop first p)) ≡ false
    → components_from (take (i - first) (drop first p)) (drop i p) ≡ false
no_component first i p l e c = at_byte (take (i - first) (drop first p)) i p l ∙ rw (e, c) refl

pub not_plain : (first i : ℕ) (p : List ℕ) → i < length p → (get_or p i 0 == 92) ≡ false → is_plain (get_or p i 0) ≡ false
    → components_from (take (i - first) (drop first p)) (drop i p) ≡ false
not_plain first i p l e c = at_byte (take (i - first) (drop first p)) i p l ∙ rw (e, c) refl

pub at_end : (first i : ℕ) (p : List ℕ) → first ≤ i → i ≡ length p
    → components_from (take (i - first) (drop first p)) (drop i p) ≡ is_component (take (length p - first) (drop first p))
unfolding components_from
at_end first i p f e =
    let a : drop i p ≡ [] = same_number_lists (drop i p) [] (grind (arith, places)) (λ k h. grind (arith, places)) in
    rw (a, e) refl

pub same_is : (a b : List ℕ) → same_bytes a b ≡ bytes_eq a b
unfolding same_bytes
same_is [] [] = refl
same_is [] (y ∷ ys) = refl
same_is (x ∷ xs) [] = refl
same_is (x ∷ xs) (y ∷ ys) = rw (same_is xs ys) refl
