-- Written by tools/aes-planes.py.
-- A round over planes is the round of each vector.
use Rattle.std.proofs.Common.{◌≡◌, ℕ, ◌<◌, List, [], ◌∷◌, length, map, get_or, refl, sym, ap, subst, ◌∙◌, arith}
use Rattle.std.specs.Int.{bit_at}
use Rattle.std.specs.Int.Bits.{bit_xor}
use Rattle.std.specs.List.{range_with_len}
use Rattle.std.proofs.lemmas.List.{get_or-map, length-map}
use Rattle.std.proofs.lemmas.Simd.{pick_l_whole}
use lib.Lanes.{zip2, pick_l}
use Rattle.spec_crypto.specs.ciphers.Field.{doubled, sbox}
use Rattle.spec_crypto.specs.ciphers.Aes.{replaced, mixed_columns, block_sum}
use Rattle.crypto_ciphers.specs.aes_block.Rounds.{block_round, block_last}
use Rattle.crypto_ciphers.specs.aes_block.Planes.{IsVector, AreVectors, ArePlanes, row_places, next_places, after_next_places, rows, next}
use Rattle.crypto_ciphers.specs.aes_block.Planes.{after_next, mixed_by_pairs}
use Rattle.crypto_ciphers.proofs.aes_block.PlaneSteps.{sum_vector, mapped_vector, picked_vector, small_sbox, small_doubled, plane_row}

abbrev lanes : List ℕ → List ℕ
lanes v = pick_l 0 v (range_with_len 0 16)

from_lanes : (P : List ℕ → List ℕ → Type 0) → (v key : List ℕ) → length v ≡ 16 → length key ≡ 16 → P (lanes v) (lanes key) → P v key
from_lanes P v key len also h =
    subst (λ (x : List ℕ). P x key) (pick_l_whole 0 v 16 len) (subst (λ (x : List ℕ). P (lanes v) x) (pick_l_whole 0 key 16 also) h)

row_of : (v key : List ℕ) → ((i : ℕ) → get_or v i 0 < 256) → (i a b c d : ℕ)
    → bit_xor (bit_xor (bit_xor (doubled (bit_xor (sbox (get_or v a 0)) (sbox (get_or v b 0)))) (sbox (get_or v b 0)))
    (bit_xor (sbox (get_or v c 0)) (sbox (get_or v d 0)))) (get_or key i 0)
    ≡ bit_xor (bit_xor (bit_xor (bit_xor (bit_xor (doubled (sbox (get_or v a 0))) (doubled (sbox (get_or v b 0)))) (sbox (get_or v b 0)))
    (sbox (get_or v c 0))) (sbox (get_or v d 0))) (get_or key i 0)
row_of v key small i a b c d =
    plane_row (sbox (get_or v a 0)) (sbox (get_or v b 0)) (sbox (get_or v c 0)) (sbox (get_or v d 0)) (get_or key i 0)
    (small_sbox (get_or v a 0) (small a)) (small_sbox (get_or v b 0) (small b))

round_told : (v key : List ℕ) → ((i : ℕ) → get_or v i 0 < 256)
    → zip2 bit_xor (mixed_by_pairs (rows (map sbox (lanes v)))) (lanes key) ≡ block_round (lanes v) (lanes key)
unfolding block_sum mixed_columns replaced
round_told v key small =
    let r = row_of v key small in
    λ t. r 0 0 5 10 15 t ∷ r 1 5 10 15 0 t ∷ r 2 10 15 0 5 t ∷ r 3 15 0 5 10 t ∷ r 4 4 9 14 3 t ∷ r 5 9 14 3 4 t ∷ r 6 14 3 4 9 t ∷ r
    7 3 4 9 14 t ∷ r 8 8 13 2 7 t ∷ r 9 13 2 7 8 t ∷ r 10 2 7 8 13 t ∷ r 11 7 8 13 2 t ∷ r 12 12 1 6 11 t ∷ r 13 1 6 11 12 t ∷ r
    14 6 11 12 1 t ∷ r 15 11 12 1 6 t ∷ []

pub plane_round : (v key : List ℕ) → IsVector v → IsVector key → zip2 bit_xor (mixed_by_pairs (rows (map sbox v))) key ≡ block_round v key
plane_round v key p q =
    from_lanes (λ x y. zip2 bit_xor (mixed_by_pairs (rows (map sbox x))) y ≡ block_round x y) v key p.len q.len (round_told v key p.bytes)

pub plane_last : (v key : List ℕ) → IsVector v → IsVector key → zip2 bit_xor (rows (map sbox v)) key ≡ block_last v key
unfolding block_sum replaced
plane_last v key p q =
    from_lanes (λ x y. zip2 bit_xor (rows (map sbox x)) y ≡ block_last x y) v key p.len q.len refl

pub plane_sum : (v key : List ℕ) → IsVector v → IsVector key → zip2 bit_xor v key ≡ block_sum v key
unfolding block_sum
plane_sum v key p q = from_lanes (λ x y. zip2 bit_xor x y ≡ block_sum x y) v key p.len q.len refl

-- ---- vectors of each step

pub vectors_of : (g : List ℕ → List ℕ) (s : List (List ℕ)) → AreVectors s → ((v : List ℕ) → IsVector v → IsVector (g v)) → AreVectors
    (map g s)
vectors_of g s v h = record {
  count = length-map s g ∙ v.count;
  each = λ j lj. subst IsVector (sym (get_or-map g s j [] [] (omega (arith, v.count)))) (h (get_or s j []) (v.each j lj));
}

pub substituted_vector : (v : List ℕ) → IsVector v → IsVector (map sbox v)
substituted_vector v p = mapped_vector sbox v small_sbox p

pub rows_vector : (v : List ℕ) → IsVector v → IsVector (rows v)
rows_vector v p = picked_vector row_places v refl p

pub next_vector : (v : List ℕ) → IsVector v → IsVector (next v)
next_vector v p = picked_vector next_places v refl p

pub after_next_vector : (v : List ℕ) → IsVector v → IsVector (after_next v)
after_next_vector v p = picked_vector after_next_places v refl p

pub pairs_vector : (v : List ℕ) → IsVector v → IsVector (zip2 bit_xor v (next v))
pairs_vector v p = sum_vector v (next v) p (next_vector v p)

pub twice_vector : (v : List ℕ) → IsVector v → IsVector (zip2 bit_xor (map doubled (zip2 bit_xor v (next v))) (next v))
twice_vector v p =
    sum_vector (map doubled (zip2 bit_xor v (next v))) (next v) (mapped_vector doubled _ small_doubled (pairs_vector v p)) (next_vector v p)

pub mixed_vector : (v : List ℕ) → IsVector v → IsVector (mixed_by_pairs v)
mixed_vector v p =
    sum_vector (zip2 bit_xor (map doubled (zip2 bit_xor v (next v))) (next v)) (after_next (zip2 bit_xor v (next v))) (twice_vector v p)
    (after_next_vector (zip2 bit_xor v (next v)) (pairs_vector v p))

-- the same planes, of vectors that are the same
pub planes_same : (r s : List (List ℕ)) (f g : List ℕ → List ℕ) → AreVectors s → ((v : List ℕ) → IsVector v → f v ≡ g v)
    → ArePlanes r (map f s) → ArePlanes r (map g s)
planes_same r s f g v same h =
    λ k j i lk lj li.
    let e : get_or (map f s) j [] ≡ get_or (map g s) j [] = get_or-map f s j [] [] (omega (arith, v.count)) ∙ same (get_or s j [])
    (v.each j lj)
    ∙ sym (get_or-map g s j [] [] (omega (arith, v.count))) in
    h k j i lk lj li ∙ ap (λ (l : List ℕ). bit_at (get_or l i 0) k) e

-- ---- rounds one behind the other

pub round_vector : (v key : List ℕ) → IsVector v → IsVector key → IsVector (block_round v key)
round_vector v key p q =
    subst IsVector (plane_round v key p q)
    (sum_vector (mixed_by_pairs (rows (map sbox v))) key (mixed_vector (rows (map sbox v))
    (rows_vector (map sbox v) (substituted_vector v p))) q)

pub sum_is_vector : (v key : List ℕ) → IsVector v → IsVector key → IsVector (block_sum v key)
sum_is_vector v key p q = subst IsVector (plane_sum v key p q) (sum_vector v key p q)

pub last_vector : (v key : List ℕ) → IsVector v → IsVector key → IsVector (block_last v key)
last_vector v key p q =
    subst IsVector (plane_last v key p q) (sum_vector (rows (map sbox v)) key (rows_vector (map sbox v) (substituted_vector v p)) q)
