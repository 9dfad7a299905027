-- The first known number of a list, from a place on.
use Rattle.std.proofs.Common.{◌≡◌, ℕ, zero, suc, ◌+◌, ◌<◌, true, false, List, [], ◌∷◌, length, drop, get_or, refl, arith, Some, None}
use Rattle.spec_crypto.specs.sessions.Choice.{is_cipher, is_signing, cipher_of, signing_of}

drop-here : (xs : List ℕ) (k : ℕ) → k < length xs → drop k xs ≡ get_or xs k 0 ∷ drop (k + 1) xs
drop-here [] k lt = absurd (omega arith)
drop-here (x ∷ xs) zero lt = refl
drop-here (x ∷ xs) (suc k) lt =
    let e : suc k + 1 ≡ suc (k + 1) = omega arith in
    let h : drop k xs ≡ get_or xs k 0 ∷ drop (k + 1) xs = drop-here xs k (omega arith) in
    rw e h

drop-all : (xs : List ℕ) → drop (length xs) xs ≡ []
drop-all [] = refl
drop-all (x ∷ xs) = drop-all xs

pub cipher_passed : (xs : List ℕ) (k : ℕ) → k < length xs → is_cipher (get_or xs k 0) ≡ false → cipher_of (drop k xs) ≡
    cipher_of (drop (k + 1) xs)
unfolding cipher_of
cipher_passed xs k lt none = rw (drop-here xs k lt, none) refl

pub cipher_here : (xs : List ℕ) (k : ℕ) → k < length xs → is_cipher (get_or xs k 0) ≡ true → cipher_of (drop k xs) ≡ get_or xs k 0
unfolding cipher_of
cipher_here xs k lt some = rw (drop-here xs k lt, some) refl

pub cipher_none : (xs : List ℕ) → cipher_of (drop (length xs) xs) ≡ 0
unfolding cipher_of
cipher_none xs = rw (drop-all xs) refl

pub signing_passed : (xs : List ℕ) (k : ℕ) → k < length xs → is_signing (get_or xs k 0) ≡ false → signing_of (drop k xs)
    ≡ signing_of (drop (k + 1) xs)
unfolding signing_of
signing_passed xs k lt none = rw (drop-here xs k lt, none) refl

pub signing_here : (xs : List ℕ) (k : ℕ) → k < length xs → is_signing (get_or xs k 0) ≡ true → signing_of (drop k xs) ≡ Some (get_or xs k 0)
unfolding signing_of
signing_here xs k lt some = rw (drop-here xs k lt, some) refl

pub signing_none : (xs : List ℕ) → signing_of (drop (length xs) xs) ≡ None
unfolding signing_of
signing_none xs = rw (drop-all xs) refl
