-- Steps over planes are those of each vector.
use Rattle.std.proofs.Common.{◌≡◌, ℕ, zero, suc, ◌+◌, ◌%◌, ◌^◌, ◌<◌, true, List, [], ◌++◌, length, map}
use Rattle.std.proofs.Common.{get_or, eqb, ltb, T, refl, sym, ap, subst, ◌∙◌, inl, inr, arith}
use Rattle.std.specs.Int.{bit_at}
use Rattle.std.specs.Int.Bits.{bit_xor, xor_assoc}
use Rattle.std.proofs.lemmas.Bool.{cases_lt, eqb-true, ltb-true}
use Rattle.std.proofs.lemmas.List.{get_or-map, length-map, get_or_past, ext_get_or}
use Rattle.std.proofs.lemmas.Nat.{xor_lt}
use Rattle.std.proofs.lemmas.Nat.Bits.{bit_at_xor, same_from_bits_below}
use Rattle.std.proofs.lemmas.Simd.{get_or-zip2, length-zip2, pick_l_left}
use lib.Lanes.{zip2, pick_l}
use Rattle.spec_crypto.specs.ciphers.Field.{doubled, sbox}
use Rattle.crypto_ciphers.specs.aes_block.Planes.{lane_at, IsVector, AreVectors, ArePlanes, IsVectorSum, IsPicked, picked}
use Rattle.crypto_ciphers.proofs.aes_block.Counted.{all_below, at_below}
use Rattle.crypto_ciphers.proofs.aes_block.Table.{table_is}
use Rattle.crypto_ciphers.specs.declared.aes_block.sbox.TheConstants.{SBOX}

-- ---- vectors

pub eight : (P : ℕ → Type 0) → P 0 → P 1 → P 2 → P 3 → P 4 → P 5 → P 6 → P 7 → (k : ℕ) → k < 8 → P k
eight P a b c d e f g h zero lt = a
eight P a b c d e f g h (suc zero) lt = b
eight P a b c d e f g h (suc (suc zero)) lt = c
eight P a b c d e f g h (suc (suc (suc zero))) lt = d
eight P a b c d e f g h (suc (suc (suc (suc zero)))) lt = e
eight P a b c d e f g h (suc (suc (suc (suc (suc zero))))) lt = f
eight P a b c d e f g h (suc (suc (suc (suc (suc (suc zero)))))) lt = g
eight P a b c d e f g h (suc (suc (suc (suc (suc (suc (suc zero))))))) lt = h
eight P a b c d e f g h (suc (suc (suc (suc (suc (suc (suc (suc k)))))))) lt = absurd (omega arith)

-- what a function makes of vector j
pub vector_at : (f : List ℕ → List ℕ) (s : List (List ℕ)) (j : ℕ) → AreVectors (map f s) → j < 8
    → get_or (map f s) j [] ≡ f (get_or s j [])
vector_at f s j v lj = get_or-map f s j [] [] (omega (arith, length-map s f, v.count))

pub is_vector : (f : List ℕ → List ℕ) (s : List (List ℕ)) (j : ℕ) → AreVectors (map f s) → j < 8 → IsVector (f (get_or s j []))
is_vector f s j v lj = subst IsVector (vector_at f s j v lj) (v.each j lj)

-- vectors again
pub are_vectors : (f g : List ℕ → List ℕ) (s : List (List ℕ)) → AreVectors (map f s)
    → ((j : ℕ) → j < 8 → IsVector (f (get_or s j [])) → IsVector (g (get_or s j []))) → AreVectors (map g s)
are_vectors f g s v h = record {
  count = length-map s g ∙ sym (length-map s f) ∙ v.count;
  each = λ j lj. subst IsVector (sym (get_or-map g s j [] [] (omega (arith, length-map s f, v.count)))) (h j lj (is_vector f s j v lj));
}

pub sum_vector : (a b : List ℕ) → IsVector a → IsVector b → IsVector (zip2 bit_xor a b)
sum_vector a b p q = record {
  len = length-zip2 bit_xor a b (p.len ∙ sym q.len) ∙ p.len;
  bytes = λ i. elim (cases_lt i 16) [
    | inl lt ↦
        let e : get_or (zip2 bit_xor a b) i 0 ≡ bit_xor (get_or a i 0) (get_or b i 0) =
        get_or-zip2 bit_xor a b i 0 0 0 (omega (arith, p.len)) (omega (arith, q.len)) in
        let small : bit_xor (get_or a i 0) (get_or b i 0) < 2 ^ 8 = xor_lt 8 (get_or a i 0) (get_or b i 0) (p.bytes i) (q.bytes i) in
        omega (arith, e, small)
    | inr ge ↦
        let e : get_or (zip2 bit_xor a b) i 0 ≡ 0 =
        get_or_past (zip2 bit_xor a b) i 0 (omega (arith, length-zip2 bit_xor a b (p.len ∙ sym q.len), p.len)) in
        omega (arith, e)
  ];
}

pub mapped_vector : (f : ℕ → ℕ) (v : List ℕ) → ((x : ℕ) → x < 256 → f x < 256) → IsVector v → IsVector (map f v)
mapped_vector f v small p = record {
  len = length-map v f ∙ p.len;
  bytes = λ i. elim (cases_lt i 16) [
    | inl lt ↦
        let e : get_or (map f v) i 0 ≡ f (get_or v i 0) = get_or-map f v i 0 0 (omega (arith, p.len)) in
        let s : f (get_or v i 0) < 256 = small (get_or v i 0) (p.bytes i) in
        omega (arith, e, s)
    | inr ge ↦
        let e : get_or (map f v) i 0 ≡ 0 = get_or_past (map f v) i 0 (omega (arith, length-map v f, p.len)) in
        omega (arith, e)
  ];
}

pub picked_vector : (places : List ℕ) (v : List ℕ) → length places ≡ 16 → IsVector v → IsVector (picked places v)
picked_vector places v len p = record {
  len = length-map places (λ k. get_or v k 0) ∙ len;
  bytes = λ i. elim (cases_lt i 16) [
    | inl lt ↦
        let e : get_or (picked places v) i 0 ≡ get_or v (get_or places i 0) 0 =
        get_or-map (λ k. get_or v k 0) places i 0 0 (omega (arith, len)) in
        let s : get_or v (get_or places i 0) 0 < 256 = p.bytes (get_or places i 0) in
        omega (arith, e, s)
    | inr ge ↦
        let e : get_or (picked places v) i 0 ≡ 0 =
        get_or_past (picked places v) i 0 (omega (arith, length-map places (λ k. get_or v k 0), len)) in
        omega (arith, e)
  ];
}

-- ---- sums

pub sums_told : (q p r : List (List ℕ)) (s : List (List ℕ)) (f g : List ℕ → List ℕ)
    → ((k : ℕ) → k < 8 → IsVectorSum (get_or q k []) (get_or p k []) (get_or r k []))
    → AreVectors (map f s) → AreVectors (map g s) → ArePlanes q (map f s) → ArePlanes p (map g s)
    → ArePlanes r (map (λ v. zip2 bit_xor (f v) (g v)) s)
sums_told q p r s f g made vf vg hq hp =
    λ k j i lk lj li.
    let here : lane_at r k i ≡ bit_xor (lane_at q k i) (lane_at p k i) = made k lk i li in
    let a : List ℕ = f (get_or s j []) in
    let b : List ℕ = g (get_or s j []) in
    let pa : IsVector a = is_vector f s j vf lj in
    let pb : IsVector b = is_vector g s j vg lj in
    let whole : AreVectors (map (λ v. zip2 bit_xor (f v) (g v)) s) =
    are_vectors f (λ v. zip2 bit_xor (f v) (g v)) s vf (λ n ln pf. sum_vector (f (get_or s n [])) (g (get_or s n [])) pf
    (is_vector g s n vg ln)) in
    let there : lane_at (map (λ v. zip2 bit_xor (f v) (g v)) s) j i ≡ bit_xor (get_or a i 0) (get_or b i 0) =
    ap (λ (l : List ℕ). get_or l i 0) (vector_at (λ v. zip2 bit_xor (f v) (g v)) s j whole lj)
    ∙ get_or-zip2 bit_xor a b i 0 0 0 (omega (arith, pa.len)) (omega (arith, pb.len)) in
    let left : bit_at (lane_at q k i) j ≡ bit_at (get_or a i 0) k =
    hq k j i lk lj li ∙ ap (λ (l : List ℕ). bit_at (get_or l i 0) k) (vector_at f s j vf lj) in
    let right : bit_at (lane_at p k i) j ≡ bit_at (get_or b i 0) k =
    hp k j i lk lj li ∙ ap (λ (l : List ℕ). bit_at (get_or l i 0) k) (vector_at g s j vg lj) in
    ap (λ (x : ℕ). bit_at x j) here ∙ bit_at_xor (lane_at q k i) (lane_at p k i) j ∙ (λ t. (left t + right t) % 2)
    ∙ sym (bit_at_xor (get_or a i 0) (get_or b i 0) k) ∙ sym (ap (λ (x : ℕ). bit_at x k) there)

-- ---- other places

places_below : (places : List ℕ) → all_below (λ i. ltb (get_or places i 0) 16) 16 ≡ true → (i : ℕ) → i < 16 → get_or places i 0 < 16
places_below places test i li = ltb-true _ _ (at_below (λ n. ltb (get_or places n 0) 16) 16 i test li)

pub picked_told : (places : List ℕ) (q r : List (List ℕ)) (s : List (List ℕ)) (f : List ℕ → List ℕ) → length places ≡ 16
    → all_below (λ i. ltb (get_or places i 0) 16) 16 ≡ true
    → ((k : ℕ) → k < 8 → IsPicked places (get_or q k []) (get_or r k []))
    → AreVectors (map f s) → ArePlanes q (map f s) → ArePlanes r (map (λ v. picked places (f v)) s)
picked_told places q r s f len test made vf hq =
    λ k j i lk lj li.
    let place : ℕ = get_or places i 0 in
    let lp : place < 16 = places_below places test i li in
    let here : lane_at r k i ≡ lane_at q k place = made k lk i li in
    let whole : AreVectors (map (λ v. picked places (f v)) s) =
    are_vectors f (λ v. picked places (f v)) s vf (λ n ln pf. picked_vector places (f (get_or s n [])) len pf) in
    let there : lane_at (map (λ v. picked places (f v)) s) j i ≡ get_or (f (get_or s j [])) place 0 =
    ap (λ (l : List ℕ). get_or l i 0) (vector_at (λ v. picked places (f v)) s j whole lj)
    ∙ get_or-map (λ n. get_or (f (get_or s j [])) n 0) places i 0 0 (omega (arith, len)) in
    ap (λ (x : ℕ). bit_at x j) here ∙ hq k j place lk lj lp
    ∙ ap (λ (l : List ℕ). bit_at (get_or l place 0) k) (vector_at f s j vf lj) ∙ sym (ap (λ (x : ℕ). bit_at x k) there)

-- the swizzle of a vector with itself
pub swizzled : (v places : List ℕ) → length v ≡ 16 → T (lib.Lanes.all_below 16 places) → pick_l 0 (v ++ v) places ≡ picked places v
swizzled v places len low = pick_l_left 0 v v 16 places len low

pub swizzled_at : (v places : List ℕ) → length v ≡ 16 → length places ≡ 16 → T (lib.Lanes.all_below 16 places)
    → IsPicked places v (pick_l 0 (v ++ v) places)
swizzled_at v places len lp low =
    λ i li. ap (λ (l : List ℕ). get_or l i 0) (swizzled v places len low) ∙ get_or-map (λ k. get_or v k 0) places i 0 0
    (omega (arith, li, lp))

pub summed_at : (a b : List ℕ) → length a ≡ 16 → length b ≡ 16 → IsVectorSum a b (zip2 bit_xor a b)
summed_at a b la lb = λ i li. get_or-zip2 bit_xor a b i 0 0 0 (omega (arith, la)) (omega (arith, lb))

-- ---- x times each byte

doubled_bit : (k : ℕ) (told : ℕ → ℕ) → all_below (λ x. eqb (bit_at (doubled x) k) (told x)) 256 ≡ true → (x : ℕ) → x < 256
    → bit_at (doubled x) k ≡ told x
doubled_bit k told test x lx = eqb-true _ _ (at_below (λ y. eqb (bit_at (doubled y) k) (told y)) 256 x test lx)

pub small_doubled : (x : ℕ) → x < 256 → doubled x < 256
unfolding all_below
small_doubled x lx = ltb-true _ _ (at_below (λ y. ltb (doubled y) 256) 256 x refl lx)

pub small_sbox : (x : ℕ) → x < 256 → sbox x < 256
unfolding all_below
small_sbox x lx =
    let e : get_or SBOX x 0 ≡ sbox x = table_is x lx in
    let s : get_or SBOX x 0 < 256 = ltb-true _ _ (at_below (λ y. ltb (get_or SBOX y 0) 256) 256 x refl lx) in
    omega (arith, e, s)

-- the planes of x times each byte: those of the byte one further, and the highest added to three of them
pub doubled_told : (q r : List (List ℕ)) (s : List (List ℕ)) (f : List ℕ → List ℕ)
    → get_or r 0 [] ≡ get_or q 7 [] → IsVectorSum (get_or q 0 []) (get_or q 7 []) (get_or r 1 []) → get_or r 2 [] ≡ get_or q 1 []
    → IsVectorSum (get_or q 2 []) (get_or q 7 []) (get_or r 3 []) → IsVectorSum (get_or q 3 []) (get_or q 7 []) (get_or r 4 [])
    → get_or r 5 [] ≡ get_or q 4 [] → get_or r 6 [] ≡ get_or q 5 [] → get_or r 7 [] ≡ get_or q 6 []
    → AreVectors (map f s) → ArePlanes q (map f s) → ArePlanes r (map (λ v. map doubled (f v)) s)
unfolding all_below
doubled_told q r s f r0 r1 r2 r3 r4 r5 r6 r7 vf hq =
    let whole : AreVectors (map (λ v. map doubled (f v)) s) =
    are_vectors f (λ v. map doubled (f v)) s vf (λ n ln pf. mapped_vector doubled (f (get_or s n [])) small_doubled pf) in
    let bit : (k j i : ℕ) → k < 8 → j < 8 → i < 16 → bit_at (lane_at q k i) j ≡ bit_at (get_or (f (get_or s j [])) i 0) k =
    λ k j i lk lj li. hq k j i lk lj li ∙ ap (λ (l : List ℕ). bit_at (get_or l i 0) k) (vector_at f s j vf lj) in
    let there : (k j i : ℕ) → j < 8 → i < 16 → bit_at (doubled (get_or (f (get_or s j [])) i 0)) k
    ≡ bit_at (lane_at (map (λ v. map doubled (f v)) s) j i) k =
    λ k j i lj li. sym (ap (λ (x : ℕ). bit_at x k) (ap (λ (l : List ℕ). get_or l i 0) (vector_at (λ v. map doubled (f v)) s j whole lj)
    ∙ get_or-map doubled (f (get_or s j [])) i 0 0 (omega (arith, (is_vector f s j vf lj).len)))) in
    let byte : (j i : ℕ) → j < 8 → get_or (f (get_or s j [])) i 0 < 256 = λ j i lj. (is_vector f s j vf lj).bytes i in
    -- a plane that moved by one
    let moved : (k n : ℕ) → n < 8 → get_or r k [] ≡ get_or q n []
    → all_below (λ x. eqb (bit_at (doubled x) k) (bit_at x n)) 256 ≡ true → (j i : ℕ) → j < 8 → i < 16
    → bit_at (lane_at r k i) j ≡ bit_at (lane_at (map (λ v. map doubled (f v)) s) j i) k =
    λ k n ln is test j i lj li. ap (λ (l : List ℕ). bit_at (get_or l i 0) j) is ∙ bit n j i ln lj li
    ∙ sym (doubled_bit k (λ x. bit_at x n) test (get_or (f (get_or s j [])) i 0) (byte j i lj)) ∙ there k j i lj li in
    -- and one that has the highest besides
    let added : (k n : ℕ) → n < 8 → IsVectorSum (get_or q n []) (get_or q 7 []) (get_or r k [])
    → all_below (λ x. eqb (bit_at (doubled x) k) ((bit_at x n + bit_at x 7) % 2)) 256 ≡ true → (j i : ℕ) → j < 8 → i < 16
    → bit_at (lane_at r k i) j ≡ bit_at (lane_at (map (λ v. map doubled (f v)) s) j i) k =
    λ k n ln is test j i lj li.
    let e : lane_at r k i ≡ bit_xor (lane_at q n i) (lane_at q 7 i) = is i li in
    let left = bit n j i ln lj li in
    let right = bit 7 j i (omega arith) lj li in
    ap (λ (x : ℕ). bit_at x j) e ∙ bit_at_xor (lane_at q n i) (lane_at q 7 i) j ∙ (λ t. (left t + right t) % 2)
    ∙ sym (doubled_bit k (λ x. (bit_at x n + bit_at x 7) % 2) test (get_or (f (get_or s j [])) i 0) (byte j i lj)) ∙ there k j i lj li in
    λ k j i lk lj li.
    eight (λ n. bit_at (lane_at r n i) j ≡ bit_at (lane_at (map (λ v. map doubled (f v)) s) j i) n)
    (moved 0 7 (omega arith) r0 refl j i lj li) (added 1 0 (omega arith) r1 refl j i lj li) (moved 2 1 (omega arith) r2 refl j i lj li)
    (added 3 2 (omega arith) r3 refl j i lj li) (added 4 3 (omega arith) r4 refl j i lj li) (moved 5 4 (omega arith) r5 refl j i lj li)
    (moved 6 5 (omega arith) r6 refl j i lj li) (moved 7 6 (omega arith) r7 refl j i lj li) k lk

-- ---- x times a sum

-- bit by bit, since each bit of x times a byte is a bit of it, or the sum of two
pub doubled-sum : (a b : ℕ) → a < 256 → b < 256 → doubled (bit_xor a b) ≡ bit_xor (doubled a) (doubled b)
unfolding all_below
doubled-sum a b la lb =
    let x : ℕ = bit_xor a b in
    let lx : x < 256 = xor_lt 8 a b la lb in
    let moved : (k n : ℕ) → all_below (λ y. eqb (bit_at (doubled y) k) (bit_at y n)) 256 ≡ true
    → bit_at (doubled x) k ≡ bit_at (bit_xor (doubled a) (doubled b)) k =
    λ k n test.
    let p = doubled_bit k (λ y. bit_at y n) test a la in
    let q = doubled_bit k (λ y. bit_at y n) test b lb in
    doubled_bit k (λ y. bit_at y n) test x lx ∙ bit_at_xor a b n ∙ (λ t. (sym p t + sym q t) % 2) ∙ sym
    (bit_at_xor (doubled a) (doubled b) k) in
    let added : (k n : ℕ) → all_below (λ y. eqb (bit_at (doubled y) k) ((bit_at y n + bit_at y 7) % 2)) 256 ≡ true
    → bit_at (doubled x) k ≡ bit_at (bit_xor (doubled a) (doubled b)) k =
    λ k n test.
    let told : ℕ → ℕ = λ y. (bit_at y n + bit_at y 7) % 2 in
    let p = doubled_bit k told test a la in
    let q = doubled_bit k told test b lb in
    let low = bit_at_xor a b n in
    let high = bit_at_xor a b 7 in
    let both : told x ≡ (told a + told b) % 2 = (λ t. (low t + high t) % 2) ∙ omega arith in
    doubled_bit k told test x lx ∙ both ∙ (λ t. (sym p t + sym q t) % 2) ∙ sym (bit_at_xor (doubled a) (doubled b) k) in
    same_from_bits_below 8 (doubled x) (bit_xor (doubled a) (doubled b)) (small_doubled x lx)
    (xor_lt 8 (doubled a) (doubled b) (small_doubled a la) (small_doubled b lb))
    (λ k lk. eight (λ n. bit_at (doubled x) n ≡ bit_at (bit_xor (doubled a) (doubled b)) n) (moved 0 7 refl) (added 1 0 refl)
    (moved 2 1 refl)
    (added 3 2 refl) (added 4 3 refl) (moved 5 4 refl) (moved 6 5 refl) (moved 7 6 refl) k lk)

-- a row of a mixed column, with its key's byte, in the order of the planes
pub plane_row : (a b c d key : ℕ) → a < 256 → b < 256
    → bit_xor (bit_xor (bit_xor (doubled (bit_xor a b)) b) (bit_xor c d)) key
    ≡ bit_xor (bit_xor (bit_xor (bit_xor (bit_xor (doubled a) (doubled b)) b) c) d) key
plane_row a b c d key la lb =
    ap (λ (x : ℕ). bit_xor (bit_xor (bit_xor x b) (bit_xor c d)) key) (doubled-sum a b la lb)
    ∙ ap (λ (x : ℕ). bit_xor x key) (sym (xor_assoc (bit_xor (bit_xor (doubled a) (doubled b)) b) c d))

-- ---- planes turned back are their vectors

pub turned_back : (w q s : List (List ℕ)) (k : ℕ) → ArePlanes w q → ArePlanes q s → k < 8 → IsVector (get_or w k []) → IsVector
    (get_or s k [])
    → get_or w k [] ≡ get_or s k []
turned_back w q s k hw hq lk pw ps =
    ext_get_or 0 (get_or w k []) (get_or s k []) (pw.len ∙ sym ps.len) (λ i lt.
    let li : i < 16 = omega (arith, pw.len) in
    same_from_bits_below 8 (lane_at w k i) (lane_at s k i) (pw.bytes i) (ps.bytes i)
    (λ j lj. hw k j i lk lj li ∙ hq j k i lj lk li))
