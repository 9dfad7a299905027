-- Bytes that are changed from a place on, one after the other.
use Rattle.std.proofs.Common.{◌≡◌, ℕ, zero, suc, ◌+◌, ◌<◌, ◌≤◌, List, [], ◌∷◌, length, drop, set, get_or, refl, sym, ap, subst, ◌∙◌, arith}
use Rattle.std.specs.Prelude.{bit_xor}
use Rattle.spec_world.specs.Events.{flipped, masked}

-- a mask that has ended changes nothing
pub mask_over : (at : ℕ) (bs : List ℕ) → flipped at [] bs ≡ bs
unfolding masked
mask_over zero [] = refl
mask_over zero (b ∷ bs) = refl
mask_over (suc n) [] = refl
mask_over (suc n) (b ∷ bs) = ap (λ (v : List ℕ). b ∷ v) (mask_over n bs)

-- behind the end of the bytes nothing changes
none_left : (n : ℕ) → suc n ≤ 0 → ⊥
none_left n l = omega (arith, l)

pub bytes_over : (at : ℕ) (mask bs : List ℕ) → length bs ≤ at → flipped at mask bs ≡ bs
unfolding masked
bytes_over zero mask [] l = refl
bytes_over zero mask (b ∷ bs) l = absurd (none_left (length bs) l)
bytes_over (suc n) mask [] l = refl
bytes_over (suc n) mask (b ∷ bs) l =
    ap (λ (v : List ℕ). b ∷ v) (bytes_over n mask bs (let m : length bs ≤ n = omega (arith, l) in m))

none_below : (n : ℕ) → n < 0 → ⊥
none_below n l = omega (arith, l)

-- one byte, and then the others
one_flipped : (at m : ℕ) (ms bs : List ℕ) (d : ℕ) → at < length bs
    → flipped (suc at) ms (set bs at (bit_xor (get_or bs at d) m)) ≡ flipped at (m ∷ ms) bs
unfolding masked
one_flipped at m ms [] d l = absurd (none_below at l)
one_flipped zero m ms (b ∷ bs) d l = refl
one_flipped (suc n) m ms (b ∷ bs) d l =
    ap (λ (v : List ℕ). b ∷ v) (one_flipped n m ms bs d (let k : n < length bs = omega (arith, l) in k))

pub next_flipped : (at m : ℕ) (ms bs : List ℕ) (d : ℕ) → at < length bs
    → flipped (at + 1) ms (set bs at (bit_xor (get_or bs at d) m)) ≡ flipped at (m ∷ ms) bs
next_flipped at m ms bs d l =
    subst (λ (n : ℕ). flipped n ms (set bs at (bit_xor (get_or bs at d) m)) ≡ flipped at (m ∷ ms) bs)
    (let e : suc at ≡ at + 1 = omega arith in e) (one_flipped at m ms bs d l)

pub past_flipped : (at m : ℕ) (ms bs : List ℕ) → length bs ≤ at → flipped at ms bs ≡ flipped at (m ∷ ms) bs
past_flipped at m ms bs l = bytes_over at ms bs l ∙ sym (bytes_over at (m ∷ ms) bs l)

none_past : (i : ℕ) (ms : List ℕ) → length ms ≤ i → drop i ms ≡ []
none_past zero [] l = refl
none_past zero (m ∷ ms) l = absurd (none_left (length ms) l)
none_past (suc i) [] l = refl
none_past (suc i) (m ∷ ms) l = none_past i ms (let k : length ms ≤ i = omega (arith, l) in k)

-- behind the last byte of the mask
pub all_flipped : (at i : ℕ) (mask bs whole : List ℕ) → length mask ≤ i → flipped at (drop i mask) bs ≡ whole → bs ≡ whole
all_flipped at i mask bs whole l e = sym (mask_over at bs) ∙ (ap (λ (ms : List ℕ). flipped at ms bs) (sym (none_past i mask l)) ∙ e)
