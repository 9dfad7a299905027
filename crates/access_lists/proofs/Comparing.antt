-- Texts that are compared by ASCII case, byte by byte.
use Rattle.std.proofs.Common.{◌≡◌, ◌==◌, ◌<◌, ◌≤◌, ◌+◌, ◌*◌, ◌%◌, ◌&&◌, ◌||◌, ℕ, Bool, true, false, List, [], ◌∷◌, length, get_or, drop}
use Rattle.std.proofs.Common.{Some, None, refl, ap, ◌∙◌, arith, if◌then◌else◌}
use Rattle.std.proofs.lemmas.List.{drop_more, drop_all}
use Rattle.std.proofs.lemmas.Bool.Decides.{nat_tests}
use Rattle.std.proofs.Math.Dec.{eqb-zero-suc, eqb-suc-zero, eqb-suc-suc}
use Rattle.spec_exchange.specs.Content.{same_bytes}
use Rattle.spec_exchange.specs.Texts.{upper, same_name, after_name, begins_below, is_below}
use Rattle.access_lists.specs.Decide.{is_within}
use Rattle.access_lists.specs.Walk.{begins_so}
use Rattle.access_lists.specs.Index.{place_of, place_from}

swapped : (a b c : Bool) → (a && (b && c)) ≡ (b && (a && c))
swapped false false c = refl
swapped false true c = refl
swapped true b c = refl

chosen : {X : Type 0} (a b : Bool) (x y : X) → (if a then (if b then x else y) else y) ≡ (if a && b then x else y)
chosen false b x y = refl
chosen true b x y = refl

and_false : (a : Bool) → (a && false) ≡ false
and_false false = refl
and_false true = refl

or_false_right : (a : Bool) → ((a && false) || false) ≡ false
or_false_right false = refl
or_false_right true = refl

-- what a step of `begins` does
pub begins_step : (front text : List ℕ) (i : ℕ) → i < length front → i < length text
    → begins_so (drop i front) (drop i text)
    ≡ ((upper (get_or front i 0) == upper (get_or text i 0)) && begins_so (drop (i + 1) front) (drop (i + 1) text))
unfolding begins_so
begins_step front text i f t = rw (drop_more front i 0 f, drop_more text i 0 t) refl

pub begins_alike : (front text : List ℕ) (i : ℕ) → i < length front → i < length text
    → (upper (get_or front i 0) == upper (get_or text i 0)) ≡ true
    → begins_so (drop i front) (drop i text) ≡ begins_so (drop (i + 1) front) (drop (i + 1) text)
begins_alike front text i f t e = begins_step front text i f t ∙ ap (λ b. b && begins_so (drop (i + 1) front) (drop (i + 1) text)) e

pub begins_differs : (front text : List ℕ) (i : ℕ) → i < length front → i < length text
    → (upper (get_or front i 0) == upper (get_or text i 0)) ≡ false → begins_so (drop i front) (drop i text) ≡ false
begins_differs front text i f t e = begins_step front text i f t ∙ ap (λ b. b && begins_so (drop (i + 1) front) (drop (i + 1) text)) e

pub begins_end : (front text : List ℕ) (i : ℕ) → length front ≤ i → begins_so (drop i front) (drop i text) ≡ true
unfolding begins_so
begins_end front text i e = rw (drop_all i front e) refl

pub place_begins : (path : List ℕ) → place_of path ≡ place_from 0 path
unfolding place_of
place_begins path = refl

-- what a step of `place_of` does
pub place_step : (h : ℕ) (path : List ℕ) (i : ℕ) → i < length path → (get_or path i 0 == 92) ≡ false
    → place_from h (drop i path) ≡ place_from ((h * 31 + upper (get_or path i 0)) % 64) (drop (i + 1) path)
unfolding place_from
place_step h path i l e = rw (drop_more path i 0 l, e) refl

pub place_ends : (h : ℕ) (path : List ℕ) (i : ℕ) → i < length path → (get_or path i 0 == 92) ≡ true → place_from h (drop i path) ≡ h
unfolding place_from
place_ends h path i l e = rw (drop_more path i 0 l, e) refl

pub place_behind : (h : ℕ) (path : List ℕ) (i : ℕ) → length path ≤ i → place_from h (drop i path) ≡ h
unfolding place_from
place_behind h path i e = rw (drop_all i path e) refl

-- ---- equal texts, and paths within a directory, by what begins them

-- texts of one length are equal where the first begins the second
pub same_by_begins : (a b : List ℕ) → same_name a b ≡ ((length a == length b) && begins_so a b)
unfolding same_name begins_so
same_by_begins [] [] = refl
same_by_begins [] (y ∷ ys) = rw (eqb-zero-suc (length ys)) refl
same_by_begins (x ∷ xs) [] = rw (eqb-suc-zero (length xs)) refl
same_by_begins (x ∷ xs) (y ∷ ys) =
    rw (eqb-suc-suc (length xs) (length ys), same_by_begins xs ys) (swapped (upper x == upper y) (length xs == length ys) (begins_so xs ys))

-- what follows a front, where there is one
pub behind_front : (d path : List ℕ) → after_name d path ≡ (if begins_so d path then Some (drop (length d) path) else None)
unfolding after_name begins_so
behind_front [] path = refl
behind_front (x ∷ xs) [] = refl
behind_front (x ∷ xs) (y ∷ ys) =
    rw (behind_front xs ys) (chosen (upper x == upper y) (begins_so xs ys) (Some (drop (length xs) ys)) None)

pub short_begins : (d path : List ℕ) → length path < length d → begins_so d path ≡ false
unfolding begins_so
short_begins [] path l = absurd (omega (arith, l))
short_begins (x ∷ xs) [] l = refl
short_begins (x ∷ xs) (y ∷ ys) l = rw (short_begins xs ys (omega (arith, l))) (and_false (upper x == upper y))

pub not_within : (d path : List ℕ) → 0 < length d → begins_so d path ≡ false → is_within d path ≡ false
unfolding is_within is_below begins_below
not_within [] path l e = absurd (omega (arith, l))
not_within (x ∷ xs) path l e =
    rw (same_by_begins (x ∷ xs) path, behind_front (x ∷ xs) path, e) (or_false_right (length (x ∷ xs) == length path))

pub longer_within : (d path : List ℕ) → 0 < length d → begins_so d path ≡ true → length d < length path
    → is_within d path ≡ (get_or path (length d) 0 == 92)
unfolding is_within is_below begins_below
longer_within [] path l e n = absurd (omega (arith, l))
longer_within (x ∷ xs) path l e n =
    let differ : (length (x ∷ xs) == length path) ≡ false = grind (arith, nat_tests) in
    rw (same_by_begins (x ∷ xs) path, behind_front (x ∷ xs) path, e, drop_more path (length (x ∷ xs)) 0 n, differ) refl

-- ---- paths below a directory

if_begun : (b : Bool) (text : List ℕ) → begins_below (if b then Some text else None) ≡ (b && begins_below (Some text))
unfolding begins_below
if_begun true text = refl
if_begun false text = refl

pub root_above : (d path : List ℕ) → length d ≡ 0 → 0 < length path → is_below d path ≡ true
unfolding is_below same_bytes
root_above [] [] e l = absurd (omega (arith, l))
root_above [] (y ∷ ys) e l = refl
root_above (x ∷ xs) path e l = absurd (omega (arith, e))

pub short_below : (d path : List ℕ) → length path ≤ length d → is_below d path ≡ false
unfolding is_below begins_below same_bytes
short_below [] [] l = refl
short_below [] (y ∷ ys) l = absurd (omega (arith, l))
short_below (x ∷ xs) path l = rw (behind_front (x ∷ xs) path, drop_all (length (x ∷ xs)) path l, if_begun (begins_so (x ∷ xs) path) [])
    (and_false (begins_so (x ∷ xs) path))

pub not_below : (d path : List ℕ) → 0 < length d → begins_so d path ≡ false → is_below d path ≡ false
unfolding is_below begins_below
not_below [] path l e = absurd (omega (arith, l))
not_below (x ∷ xs) path l e = rw (behind_front (x ∷ xs) path, e) refl

pub longer_below : (d path : List ℕ) → 0 < length d → begins_so d path ≡ true → length d < length path
    → is_below d path ≡ (get_or path (length d) 0 == 92)
unfolding is_below begins_below
longer_below [] path l e n = absurd (omega (arith, l))
longer_below (x ∷ xs) path l e n = rw (behind_front (x ∷ xs) path, e, drop_more path (length (x ∷ xs)) 0 n) refl
