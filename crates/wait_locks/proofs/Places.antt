-- What holds of each of a list holds of it without one, with one more, and with another in its place.
use Rattle.std.proofs.Common.{◌≡◌, ℕ, zero, suc, ◌<◌, ◌≤◌, List, [], ◌∷◌, ◌++◌, length, take, drop, slice_index_or, slice_set, refl, arith}

abbrev pub Each : {A : Type 0} → (A → Type 0) → List A → Type 0
Each {A} P xs = (i : ℕ) → i < length xs → (d : A) → P (slice_index_or xs i d)

behind_first : {A : Type 0} (P : A → Type 0) (x : A) (xs : List A) → Each P (x ∷ xs) → Each P xs
behind_first P x xs h = λ i l d. h (suc i) (omega arith) d

pub in_front : {A : Type 0} (P : A → Type 0) (x : A) (xs : List A) → P x → Each P xs → Each P (x ∷ xs)
in_front P x xs p h zero l d = p
in_front P x xs p h (suc i) l d = h i (omega arith) d

pub without_one : {A : Type 0} (P : A → Type 0) (xs : List A) (i : ℕ) → Each P xs → Each P (take i xs ++ drop (suc i) xs)
without_one P [] zero h = h
without_one P [] (suc i) h = h
without_one P (x ∷ xs) zero h = behind_first P x xs h
without_one P (x ∷ xs) (suc i) h =
    in_front P x (take i xs ++ drop (suc i) xs) (h 0 (omega arith) x) (without_one P xs i (behind_first P x xs h))

pub one_behind : {A : Type 0} (P : A → Type 0) (xs : List A) (y : A) → Each P xs → P y → Each P (xs ++ y ∷ [])
one_behind P [] y h p = in_front P y [] p h
one_behind P (x ∷ xs) y h p = in_front P x (xs ++ y ∷ []) (h 0 (omega arith) x) (one_behind P xs y (behind_first P x xs h) p)

pub one_instead : {A : Type 0} (P : A → Type 0) (xs : List A) (i : ℕ) (y : A) → Each P xs → P y → Each P (slice_set xs i y)
one_instead P [] i y h p = h
one_instead P (x ∷ xs) zero y h p = in_front P y xs p (behind_first P x xs h)
one_instead P (x ∷ xs) (suc i) y h p = in_front P x (slice_set xs i y) (h 0 (omega arith) x) (one_instead P xs i y (behind_first P x xs h) p)
