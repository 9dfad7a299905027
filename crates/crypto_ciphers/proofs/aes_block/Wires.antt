-- What vectors of bits tell of bytes, by tables of 256 bits.
use Rattle.std.proofs.Common.{◌≡◌, ℕ, zero, suc, ◌+◌, ◌-◌, ◌%◌, ◌^◌, ◌<◌, true, List, [], ◌∷◌, length, map}
use Rattle.std.proofs.Common.{get_or, replicate, min, eqb, bit_and, refl, sym, ap, ◌∙◌, arith}
use Rattle.std.specs.Int.{bit_at}
use Rattle.std.specs.Int.Bits.{bit_xor}
use Rattle.std.proofs.lemmas.Bool.{eqb-true}
use Rattle.std.proofs.lemmas.List.{get_or-map}
use Rattle.std.proofs.lemmas.Nat.Bits.{bit_at_and, bit_at_xor, bit_at_ones}
use Rattle.std.proofs.lemmas.Simd.{get_or-zip2, get_or-replicate, length-zip2}
use lib.Lanes.{zip2}
use Rattle.spec_crypto.specs.ciphers.Field.{sbox}
use Rattle.crypto_ciphers.specs.aes_block.Planes.{lane_at, AreVectors, ArePlanes, Tells, WiresTell}
use Rattle.crypto_ciphers.specs.aes_block.Circuit.{plane_tables, out_tables}
use Rattle.crypto_ciphers.proofs.aes_block.Counted.{all_below, at_below}
use Rattle.crypto_ciphers.proofs.aes_block.Table.{table_is}
use Rattle.crypto_ciphers.specs.declared.aes_block.sbox.TheConstants.{SBOX}

-- ---- gates

pub odd_told : (s : List (List ℕ)) (a b : List ℕ) (p q : ℕ) → length a ≡ 16 → length b ≡ 16 → Tells s a p → Tells s b q
    → Tells s (zip2 bit_xor a b) (bit_xor p q)
odd_told s a b p q la lb ha hb =
    λ j i lj li.
    let here : get_or (zip2 bit_xor a b) i 0 ≡ bit_xor (get_or a i 0) (get_or b i 0) =
    get_or-zip2 bit_xor a b i 0 0 0 (omega (arith, la)) (omega (arith, lb)) in
    let left : bit_at (get_or a i 0) j ≡ bit_at p (lane_at s j i) = ha j i lj li in
    let right : bit_at (get_or b i 0) j ≡ bit_at q (lane_at s j i) = hb j i lj li in
    ap (λ (x : ℕ). bit_at x j) here ∙ bit_at_xor (get_or a i 0) (get_or b i 0) j ∙ (λ t. (left t + right t) % 2)
    ∙ sym (bit_at_xor p q (lane_at s j i))

pub both_told : (s : List (List ℕ)) (a b : List ℕ) (p q : ℕ) → length a ≡ 16 → length b ≡ 16 → Tells s a p → Tells s b q
    → Tells s (zip2 bit_and a b) (bit_and p q)
both_told s a b p q la lb ha hb =
    λ j i lj li.
    let here : get_or (zip2 bit_and a b) i 0 ≡ bit_and (get_or a i 0) (get_or b i 0) =
    get_or-zip2 bit_and a b i 0 0 0 (omega (arith, la)) (omega (arith, lb)) in
    let left : bit_at (get_or a i 0) j ≡ bit_at p (lane_at s j i) = ha j i lj li in
    let right : bit_at (get_or b i 0) j ≡ bit_at q (lane_at s j i) = hb j i lj li in
    ap (λ (x : ℕ). bit_at x j) here ∙ bit_at_and (get_or a i 0) (get_or b i 0) j ∙ (λ t. min (left t) (right t))
    ∙ sym (bit_at_and p q (lane_at s j i))

ones_told : (s : List (List ℕ)) → ((j i : ℕ) → j < 8 → lane_at s j i < 256) → Tells s (replicate 16 255) (2 ^ 256 - 1)
ones_told s small =
    λ j i lj li.
    ap (λ (x : ℕ). bit_at x j) (get_or-replicate 16 i 255 0 li) ∙ bit_at_ones 8 j lj ∙ sym (bit_at_ones 256 (lane_at s j i) (small j i lj))

pub even_told : (s : List (List ℕ)) (a b : List ℕ) → length a ≡ 16 → length b ≡ 16 → ((j i : ℕ) → j < 8 → lane_at s j i < 256)
    → (p q : ℕ) → Tells s a p → Tells s b q
    → Tells s (zip2 bit_xor (zip2 bit_xor a b) (replicate 16 255)) (bit_xor (bit_xor p q) (2 ^ 256 - 1))
even_told s a b la lb small p q ha hb =
    odd_told s (zip2 bit_xor a b) (replicate 16 255) (bit_xor p q) (2 ^ 256 - 1) (length-zip2 bit_xor a b (la ∙ sym lb) ∙ la) refl
    (odd_told s a b p q la lb ha hb) (ones_told s small)

-- ---- lists of wires

abbrev pub AllTell : List (List ℕ) → List (List ℕ) → List ℕ → Type 0
AllTell s [] [] = Unit {0}
AllTell s [] (t ∷ ts) = ⊥
AllTell s (v ∷ vs) [] = Unit {0}
AllTell s (v ∷ vs) (t ∷ ts) = Tells s v t × AllTell s vs ts

pub by_index : (s vs : List (List ℕ)) (ts : List ℕ) → AllTell s vs ts → WiresTell s vs ts
by_index s [] [] h n lt = absurd (omega arith)
by_index s [] (t ∷ ts) h n lt = absurd h
by_index s (v ∷ vs) [] h n lt = absurd (omega arith)
by_index s (v ∷ vs) (t ∷ ts) h zero lt = h.0
by_index s (v ∷ vs) (t ∷ ts) h (suc n) lt = by_index s vs ts h.1 n (omega arith)

-- ---- the planes of bytes, and of the S-box's

test_in : all_below (λ k. all_below (λ x. eqb (bit_at (get_or plane_tables k 0) x) (bit_at x k)) 256) 8 ≡ true
unfolding all_below plane_tables
test_in = refl

pub plane_told : (s q : List (List ℕ)) (k : ℕ) → AreVectors s → ArePlanes q s → k < 8 → Tells s (get_or q k []) (get_or plane_tables k 0)
plane_told s q k v planes lt =
    λ j i lj li.
    let row = at_below (λ n. all_below (λ x. eqb (bit_at (get_or plane_tables n 0) x) (bit_at x n)) 256) 8 k test_in lt in
    let x : ℕ = lane_at s j i in
    let told = eqb-true (bit_at (get_or plane_tables k 0) x) (bit_at x k)
    (at_below (λ y. eqb (bit_at (get_or plane_tables k 0) y) (bit_at y k)) 256 x row ((v.each j lj).bytes i)) in
    planes k j i lt lj li ∙ sym told

test_out : all_below (λ k. all_below (λ x. eqb (bit_at (get_or out_tables k 0) x) (bit_at (get_or SBOX x 0) k)) 256) 8 ≡ true
unfolding all_below out_tables
test_out = refl

-- a function of each byte of the vectors
pub lane_map : (f : ℕ → ℕ) (s : List (List ℕ)) (j i : ℕ) → AreVectors s → j < 8 → i < 16 → lane_at (map (map f) s) j i ≡ f (lane_at s j i)
lane_map f s j i v lj li =
    let vector : get_or (map (map f) s) j [] ≡ map f (get_or s j []) = get_or-map (map f) s j [] [] (omega (arith, v.count)) in
    ap (λ (l : List ℕ). get_or l i 0) vector ∙ get_or-map f (get_or s j []) i 0 0 (omega (arith, (v.each j lj).len))

pub sbox_told : (s r : List (List ℕ)) → AreVectors s → WiresTell s r out_tables → ArePlanes r (map (map sbox) s)
unfolding out_tables
sbox_told s r v told =
    λ k j i lk lj li.
    let x : ℕ = lane_at s j i in
    let row = at_below (λ n. all_below (λ y. eqb (bit_at (get_or out_tables n 0) y) (bit_at (get_or SBOX y 0) n)) 256) 8 k test_out lk in
    let is = eqb-true (bit_at (get_or out_tables k 0) x) (bit_at (get_or SBOX x 0) k)
    (at_below (λ y. eqb (bit_at (get_or out_tables k 0) y) (bit_at (get_or SBOX y 0) k)) 256 x row ((v.each j lj).bytes i)) in
    told k lk j i lj li ∙ is ∙ ap (λ (y : ℕ). bit_at y k) (table_is x ((v.each j lj).bytes i)) ∙ sym
    (ap (λ (y : ℕ). bit_at y k) (lane_map sbox s j i v lj li))
