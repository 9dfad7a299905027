-- Written by tools/aes-planes.py.
-- Vectors turned in steps of one, two and four bits are planes.
use Rattle.std.proofs.Common.{◌≡◌, ℕ, zero, suc, ◌+◌, ◌-◌, ◌*◌, ◌/◌, ◌%◌, ◌^◌, ◌<◌, Bool, true, false, cond, eqb, List, [], ◌∷◌}
use Rattle.std.proofs.Common.{length, map, get_or, replicate, bit_and, refl, ap, ◌∙◌, arith}
use Rattle.std.specs.Int.{bit_at}
use Rattle.std.specs.Int.Bits.{bit_xor}
use Rattle.std.proofs.lemmas.Bool.{eqb-true}
use Rattle.std.proofs.lemmas.List.{get_or-map, length-map}
use Rattle.std.proofs.lemmas.Nat.Bits.{bit_at_xor, bit_at-lt}
use Rattle.std.proofs.lemmas.Simd.{get_or-zip2, zip2_splat, zip2_of_maps, splat_is_map}
use lib.Lanes.{zip2, Each1}
use mir.Val.{Fits}
use mir.Syntax.{w8}
use Rattle.crypto_ciphers.specs.aes_block.Planes.{ArePlanes, IsTurnedLow, IsTurnedHigh}
use Rattle.crypto_ciphers.proofs.aes_block.Counted.{all_below, at_below}

abbrev pub up : ℕ → ℕ → ℕ
up a b = a * 2 ^ b % 2 ^ 8

abbrev pub down : ℕ → ℕ → ℕ
down a b = a / 2 ^ b

pub lane_small : (v : List ℕ) (i : ℕ) → Each1 (Fits w8) v → get_or v i 0 < 256
lane_small [] i h = omega arith
lane_small (x ∷ xs) zero h = h.0.fits
lane_small (x ∷ xs) (suc i) h = lane_small xs i h.1

two_maps : (f g : ℕ → ℕ) (a b : List ℕ) (i : ℕ) → length a ≡ 16 → length b ≡ 16 → i < 16
    → get_or (zip2 bit_xor (map f a) (map g b)) i 0 ≡ bit_xor (f (get_or a i 0)) (g (get_or b i 0))
two_maps f g a b i la lb li =
    get_or-zip2 bit_xor (map f a) (map g b) i 0 0 0 (omega (arith, la, length-map a f)) (omega (arith, lb, length-map b g))
    ∙ (λ t. bit_xor (get_or-map f a i 0 0 (omega (arith, la)) t) (get_or-map g b i 0 0 (omega (arith, lb)) t))

one_of : (c : Bool) (x y : ℕ) → x < 2 → y < 2 → (cond c x 0 + cond c 0 y) % 2 ≡ cond c x y
one_of true x y p q = omega arith
one_of false x y p q = omega arith

abbrev tells : (ℕ → ℕ) → (ℕ → ℕ → ℕ) → Bool
tells f told = all_below (λ j. all_below (λ x. eqb (bit_at (f x) j) (told x j)) 256) 8

told_of : (f : ℕ → ℕ) (told : ℕ → ℕ → ℕ) (x j : ℕ) → tells f told ≡ true → x < 256 → j < 8 → bit_at (f x) j ≡ told x j
told_of f told x j test lx lj =
    let row = at_below (λ n. all_below (λ y. eqb (bit_at (f y) n) (told y n)) 256) 8 j test lj in
    eqb-true (bit_at (f x) j) (told x j) (at_below (λ y. eqb (bit_at (f y) j) (told y j)) 256 x row lx)

-- the bits of each of two bytes that stand in their sum
parts : (f g : ℕ → ℕ) (w : ℕ) (p q : ℕ → ℕ → ℕ) (a b : List ℕ) → (length a ≡ 16) × Each1 (Fits w8) a → (length b ≡ 16) × Each1 (Fits w8) b
    → tells f (λ x j. cond (eqb (j / w % 2) 0) (p x j) 0) ≡ true → tells g (λ x j. cond (eqb (j / w % 2) 0) 0 (q x j)) ≡ true
    → ((x j : ℕ) → p x j < 2) → ((x j : ℕ) → q x j < 2) → (j i : ℕ) → j < 8 → i < 16
    → bit_at (get_or (zip2 bit_xor (map f a) (map g b)) i 0) j
    ≡ cond (eqb (j / w % 2) 0) (p (get_or a i 0) j) (q (get_or b i 0) j)
parts f g w p q a b fa fb tf tg sp sq j i lj li =
    let x : ℕ = get_or a i 0 in
    let y : ℕ = get_or b i 0 in
    let left : bit_at (f x) j ≡ cond (eqb (j / w % 2) 0) (p x j) 0 =
    told_of f (λ z n. cond (eqb (n / w % 2) 0) (p z n) 0) x j tf (lane_small a i fa.1) lj in
    let right : bit_at (g y) j ≡ cond (eqb (j / w % 2) 0) 0 (q y j) =
    told_of g (λ z n. cond (eqb (n / w % 2) 0) 0 (q z n)) y j tg (lane_small b i fb.1) lj in
    ap (λ (z : ℕ). bit_at z j) (two_maps f g a b i fa.0 fb.0 li) ∙ bit_at_xor (f x) (g y) j
    ∙ (λ t. (left t + right t) % 2) ∙ one_of (eqb (j / w % 2) 0) (p x j) (q y j) (sp x j) (sq y j)

low_one_first : tells (λ x. bit_and x 85) (λ x j. cond (eqb (j / 1 % 2) 0) (bit_at x j) 0) ≡ true
unfolding all_below
low_one_first = refl

low_one_second : tells (λ x. up (bit_and x 85) 1) (λ x j. cond (eqb (j / 1 % 2) 0) 0 (bit_at x (j - 1))) ≡ true
unfolding all_below
low_one_second = refl

pub low_one : (a b : List ℕ) → (length a ≡ 16) × Each1 (Fits w8) a → (length b ≡ 16) × Each1 (Fits w8) b
    → IsTurnedLow 1 a b (zip2 bit_xor (zip2 bit_and a (replicate 16 85)) (zip2 up (zip2 bit_and b (replicate 16 85)) (replicate 16 1)))
low_one a b fa fb =
    let first : zip2 bit_and a (replicate 16 85) ≡ map (λ x. bit_and x 85) a = zip2_splat bit_and a 16 85 fa.0 in
    let inner : zip2 bit_and b (replicate 16 85) ≡ map (λ x. bit_and x 85) b = zip2_splat bit_and b 16 85 fb.0 in
    let second : zip2 up (zip2 bit_and b (replicate 16 85)) (replicate 16 1) ≡ map (λ x. up (bit_and x 85) 1) b =
    zip2_of_maps up (λ x. bit_and x 85) (λ x. 1) b inner (splat_is_map b 16 1 fb.0) in
    λ j i lj li. (λ t. bit_at (get_or (zip2 bit_xor (first t) (second t)) i 0) j)
    ∙ parts (λ x. bit_and x 85) (λ x. up (bit_and x 85) 1) 1 (λ x j. bit_at x j) (λ x j. bit_at x (j - 1)) a b fa fb
    low_one_first low_one_second (λ x j. bit_at-lt x j) (λ x j. bit_at-lt x (j - 1)) j i lj li

high_one_first : tells (λ x. bit_and (down x 1) 85) (λ x j. cond (eqb (j / 1 % 2) 0) (bit_at x (j + 1)) 0) ≡ true
unfolding all_below
high_one_first = refl

high_one_second : tells (λ x. bit_and x 170) (λ x j. cond (eqb (j / 1 % 2) 0) 0 (bit_at x j)) ≡ true
unfolding all_below
high_one_second = refl

pub high_one : (a b : List ℕ) → (length a ≡ 16) × Each1 (Fits w8) a → (length b ≡ 16) × Each1 (Fits w8) b
    → IsTurnedHigh 1 a b (zip2 bit_xor (zip2 bit_and (zip2 down a (replicate 16 1)) (replicate 16 85)) (zip2 bit_and b (replicate 16 170)))
high_one a b fa fb =
    let inner : zip2 down a (replicate 16 1) ≡ map (λ x. down x 1) a = zip2_splat down a 16 1 fa.0 in
    let first : zip2 bit_and (zip2 down a (replicate 16 1)) (replicate 16 85) ≡ map (λ x. bit_and (down x 1) 85) a =
    zip2_of_maps bit_and (λ x. down x 1) (λ x. 85) a inner (splat_is_map a 16 85 fa.0) in
    let second : zip2 bit_and b (replicate 16 170) ≡ map (λ x. bit_and x 170) b = zip2_splat bit_and b 16 170 fb.0 in
    λ j i lj li. (λ t. bit_at (get_or (zip2 bit_xor (first t) (second t)) i 0) j)
    ∙ parts (λ x. bit_and (down x 1) 85) (λ x. bit_and x 170) 1 (λ x j. bit_at x (j + 1)) (λ x j. bit_at x j) a b fa fb
    high_one_first high_one_second (λ x j. bit_at-lt x (j + 1)) (λ x j. bit_at-lt x j) j i lj li

low_two_first : tells (λ x. bit_and x 51) (λ x j. cond (eqb (j / 2 % 2) 0) (bit_at x j) 0) ≡ true
unfolding all_below
low_two_first = refl

low_two_second : tells (λ x. up (bit_and x 51) 2) (λ x j. cond (eqb (j / 2 % 2) 0) 0 (bit_at x (j - 2))) ≡ true
unfolding all_below
low_two_second = refl

pub low_two : (a b : List ℕ) → (length a ≡ 16) × Each1 (Fits w8) a → (length b ≡ 16) × Each1 (Fits w8) b
    → IsTurnedLow 2 a b (zip2 bit_xor (zip2 bit_and a (replicate 16 51)) (zip2 up (zip2 bit_and b (replicate 16 51)) (replicate 16 2)))
low_two a b fa fb =
    let first : zip2 bit_and a (replicate 16 51) ≡ map (λ x. bit_and x 51) a = zip2_splat bit_and a 16 51 fa.0 in
    let inner : zip2 bit_and b (replicate 16 51) ≡ map (λ x. bit_and x 51) b = zip2_splat bit_and b 16 51 fb.0 in
    let second : zip2 up (zip2 bit_and b (replicate 16 51)) (replicate 16 2) ≡ map (λ x. up (bit_and x 51) 2) b =
    zip2_of_maps up (λ x. bit_and x 51) (λ x. 2) b inner (splat_is_map b 16 2 fb.0) in
    λ j i lj li. (λ t. bit_at (get_or (zip2 bit_xor (first t) (second t)) i 0) j)
    ∙ parts (λ x. bit_and x 51) (λ x. up (bit_and x 51) 2) 2 (λ x j. bit_at x j) (λ x j. bit_at x (j - 2)) a b fa fb
    low_two_first low_two_second (λ x j. bit_at-lt x j) (λ x j. bit_at-lt x (j - 2)) j i lj li

high_two_first : tells (λ x. bit_and (down x 2) 51) (λ x j. cond (eqb (j / 2 % 2) 0) (bit_at x (j + 2)) 0) ≡ true
unfolding all_below
high_two_first = refl

high_two_second : tells (λ x. bit_and x 204) (λ x j. cond (eqb (j / 2 % 2) 0) 0 (bit_at x j)) ≡ true
unfolding all_below
high_two_second = refl

pub high_two : (a b : List ℕ) → (length a ≡ 16) × Each1 (Fits w8) a → (length b ≡ 16) × Each1 (Fits w8) b
    → IsTurnedHigh 2 a b (zip2 bit_xor (zip2 bit_and (zip2 down a (replicate 16 2)) (replicate 16 51)) (zip2 bit_and b (replicate 16 204)))
high_two a b fa fb =
    let inner : zip2 down a (replicate 16 2) ≡ map (λ x. down x 2) a = zip2_splat down a 16 2 fa.0 in
    let first : zip2 bit_and (zip2 down a (replicate 16 2)) (replicate 16 51) ≡ map (λ x. bit_and (down x 2) 51) a =
    zip2_of_maps bit_and (λ x. down x 2) (λ x. 51) a inner (splat_is_map a 16 51 fa.0) in
    let second : zip2 bit_and b (replicate 16 204) ≡ map (λ x. bit_and x 204) b = zip2_splat bit_and b 16 204 fb.0 in
    λ j i lj li. (λ t. bit_at (get_or (zip2 bit_xor (first t) (second t)) i 0) j)
    ∙ parts (λ x. bit_and (down x 2) 51) (λ x. bit_and x 204) 2 (λ x j. bit_at x (j + 2)) (λ x j. bit_at x j) a b fa fb
    high_two_first high_two_second (λ x j. bit_at-lt x (j + 2)) (λ x j. bit_at-lt x j) j i lj li

low_four_first : tells (λ x. bit_and x 15) (λ x j. cond (eqb (j / 4 % 2) 0) (bit_at x j) 0) ≡ true
unfolding all_below
low_four_first = refl

low_four_second : tells (λ x. up (bit_and x 15) 4) (λ x j. cond (eqb (j / 4 % 2) 0) 0 (bit_at x (j - 4))) ≡ true
unfolding all_below
low_four_second = refl

pub low_four : (a b : List ℕ) → (length a ≡ 16) × Each1 (Fits w8) a → (length b ≡ 16) × Each1 (Fits w8) b
    → IsTurnedLow 4 a b (zip2 bit_xor (zip2 bit_and a (replicate 16 15)) (zip2 up (zip2 bit_and b (replicate 16 15)) (replicate 16 4)))
low_four a b fa fb =
    let first : zip2 bit_and a (replicate 16 15) ≡ map (λ x. bit_and x 15) a = zip2_splat bit_and a 16 15 fa.0 in
    let inner : zip2 bit_and b (replicate 16 15) ≡ map (λ x. bit_and x 15) b = zip2_splat bit_and b 16 15 fb.0 in
    let second : zip2 up (zip2 bit_and b (replicate 16 15)) (replicate 16 4) ≡ map (λ x. up (bit_and x 15) 4) b =
    zip2_of_maps up (λ x. bit_and x 15) (λ x. 4) b inner (splat_is_map b 16 4 fb.0) in
    λ j i lj li. (λ t. bit_at (get_or (zip2 bit_xor (first t) (second t)) i 0) j)
    ∙ parts (λ x. bit_and x 15) (λ x. up (bit_and x 15) 4) 4 (λ x j. bit_at x j) (λ x j. bit_at x (j - 4)) a b fa fb
    low_four_first low_four_second (λ x j. bit_at-lt x j) (λ x j. bit_at-lt x (j - 4)) j i lj li

high_four_first : tells (λ x. bit_and (down x 4) 15) (λ x j. cond (eqb (j / 4 % 2) 0) (bit_at x (j + 4)) 0) ≡ true
unfolding all_below
high_four_first = refl

high_four_second : tells (λ x. bit_and x 240) (λ x j. cond (eqb (j / 4 % 2) 0) 0 (bit_at x j)) ≡ true
unfolding all_below
high_four_second = refl

pub high_four : (a b : List ℕ) → (length a ≡ 16) × Each1 (Fits w8) a → (length b ≡ 16) × Each1 (Fits w8) b
    → IsTurnedHigh 4 a b (zip2 bit_xor (zip2 bit_and (zip2 down a (replicate 16 4)) (replicate 16 15)) (zip2 bit_and b (replicate 16 240)))
high_four a b fa fb =
    let inner : zip2 down a (replicate 16 4) ≡ map (λ x. down x 4) a = zip2_splat down a 16 4 fa.0 in
    let first : zip2 bit_and (zip2 down a (replicate 16 4)) (replicate 16 15) ≡ map (λ x. bit_and (down x 4) 15) a =
    zip2_of_maps bit_and (λ x. down x 4) (λ x. 15) a inner (splat_is_map a 16 15 fa.0) in
    let second : zip2 bit_and b (replicate 16 240) ≡ map (λ x. bit_and x 240) b = zip2_splat bit_and b 16 240 fb.0 in
    λ j i lj li. (λ t. bit_at (get_or (zip2 bit_xor (first t) (second t)) i 0) j)
    ∙ parts (λ x. bit_and (down x 4) 15) (λ x. bit_and x 240) 4 (λ x j. bit_at x (j + 4)) (λ x j. bit_at x j) a b fa fb
    high_four_first high_four_second (λ x j. bit_at-lt x (j + 4)) (λ x j. bit_at-lt x j) j i lj li

below0 : 0 < 8
below0 = omega arith

below1 : 1 < 8
below1 = omega arith

below2 : 2 < 8
below2 = omega arith

below3 : 3 < 8
below3 = omega arith

below4 : 4 < 8
below4 = omega arith

below5 : 5 < 8
below5 = omega arith

below6 : 6 < 8
below6 = omega arith

below7 : 7 < 8
below7 = omega arith

pub planes_of_turned : (q : List (List ℕ)) (a0 a1 a2 a3 a4 a5 a6 a7 b0 b1 b2 b3 b4 b5 b6 b7 o0 o1 o2 o3 o4 o5 o6 o7 : List ℕ)
    → IsTurnedLow 1 (get_or q 0 []) (get_or q 1 []) a0 → IsTurnedHigh 1 (get_or q 0 []) (get_or q 1 []) a1 → IsTurnedLow 1
    (get_or q 2 []) (get_or q 3 []) a2
    → IsTurnedHigh 1 (get_or q 2 []) (get_or q 3 []) a3 → IsTurnedLow 1 (get_or q 4 []) (get_or q 5 []) a4 → IsTurnedHigh 1
    (get_or q 4 []) (get_or q 5 []) a5
    → IsTurnedLow 1 (get_or q 6 []) (get_or q 7 []) a6 → IsTurnedHigh 1 (get_or q 6 []) (get_or q 7 []) a7 → IsTurnedLow 2 a0 a2 b0
    → IsTurnedHigh 2 a0 a2 b2 → IsTurnedLow 2 a1 a3 b1 → IsTurnedHigh 2 a1 a3 b3
    → IsTurnedLow 2 a4 a6 b4 → IsTurnedHigh 2 a4 a6 b6 → IsTurnedLow 2 a5 a7 b5
    → IsTurnedHigh 2 a5 a7 b7 → IsTurnedLow 4 b0 b4 o0 → IsTurnedHigh 4 b0 b4 o4
    → IsTurnedLow 4 b1 b5 o1 → IsTurnedHigh 4 b1 b5 o5 → IsTurnedLow 4 b2 b6 o2
    → IsTurnedHigh 4 b2 b6 o6 → IsTurnedLow 4 b3 b7 o3 → IsTurnedHigh 4 b3 b7 o7
    → ArePlanes (o0 ∷ o1 ∷ o2 ∷ o3 ∷ o4 ∷ o5 ∷ o6 ∷ o7 ∷ []) q
planes_of_turned q a0 a1 a2 a3 a4 a5 a6 a7 b0 b1 b2 b3 b4 b5 b6 b7 o0 o1 o2 o3 o4 o5 o6 o7
    ha0 ha1 ha2 ha3 ha4 ha5 ha6 ha7 hb0 hb2 hb1 hb3 hb4 hb6 hb5 hb7 ho0 ho4 ho1 ho5 ho2 ho6 ho3 ho7 =
    λ k j i lk lj li. go k j lk lj i li
  where
    go : (k j : ℕ) → k < 8 → j < 8 → (i : ℕ) → i < 16 → bit_at
        (get_or (get_or (o0 ∷ o1 ∷ o2 ∷ o3 ∷ o4 ∷ o5 ∷ o6 ∷ o7 ∷ []) k []) i 0) j ≡ bit_at (get_or (get_or q j []) i 0) k
    go zero zero lk lj i li = ho0 0 i below0 li ∙ hb0 0 i below0 li ∙ ha0 0 i below0 li
    go zero (suc zero) lk lj i li = ho0 1 i below1 li ∙ hb0 1 i below1 li ∙ ha0 1 i below1 li
    go zero (suc (suc zero)) lk lj i li = ho0 2 i below2 li ∙ hb0 2 i below2 li ∙ ha2 0 i below0 li
    go zero (suc (suc (suc zero))) lk lj i li = ho0 3 i below3 li ∙ hb0 3 i below3 li ∙ ha2 1 i below1 li
    go zero (suc (suc (suc (suc zero)))) lk lj i li = ho0 4 i below4 li ∙ hb4 0 i below0 li ∙ ha4 0 i below0 li
    go zero (suc (suc (suc (suc (suc zero))))) lk lj i li = ho0 5 i below5 li ∙ hb4 1 i below1 li ∙ ha4 1 i below1 li
    go zero (suc (suc (suc (suc (suc (suc zero)))))) lk lj i li = ho0 6 i below6 li ∙ hb4 2 i below2 li ∙ ha6 0 i below0 li
    go zero (suc (suc (suc (suc (suc (suc (suc zero))))))) lk lj i li = ho0 7 i below7 li ∙ hb4 3 i below3 li ∙ ha6 1 i below1 li
    go zero (suc (suc (suc (suc (suc (suc (suc (suc j)))))))) lk lj i li = absurd (omega arith)
    go (suc zero) zero lk lj i li = ho1 0 i below0 li ∙ hb1 0 i below0 li ∙ ha1 0 i below0 li
    go (suc zero) (suc zero) lk lj i li = ho1 1 i below1 li ∙ hb1 1 i below1 li ∙ ha1 1 i below1 li
    go (suc zero) (suc (suc zero)) lk lj i li = ho1 2 i below2 li ∙ hb1 2 i below2 li ∙ ha3 0 i below0 li
    go (suc zero) (suc (suc (suc zero))) lk lj i li = ho1 3 i below3 li ∙ hb1 3 i below3 li ∙ ha3 1 i below1 li
    go (suc zero) (suc (suc (suc (suc zero)))) lk lj i li = ho1 4 i below4 li ∙ hb5 0 i below0 li ∙ ha5 0 i below0 li
    go (suc zero) (suc (suc (suc (suc (suc zero))))) lk lj i li = ho1 5 i below5 li ∙ hb5 1 i below1 li ∙ ha5 1 i below1 li
    go (suc zero) (suc (suc (suc (suc (suc (suc zero)))))) lk lj i li = ho1 6 i below6 li ∙ hb5 2 i below2 li ∙ ha7 0 i below0 li
    go (suc zero) (suc (suc (suc (suc (suc (suc (suc zero))))))) lk lj i li = ho1 7 i below7 li ∙ hb5 3 i below3 li ∙ ha7 1 i below1 li
    go (suc zero) (suc (suc (suc (suc (suc (suc (suc (suc j)))))))) lk lj i li = absurd (omega arith)
    go (suc (suc zero)) zero lk lj i li = ho2 0 i below0 li ∙ hb2 0 i below0 li ∙ ha0 2 i below2 li
    go (suc (suc zero)) (suc zero) lk lj i li = ho2 1 i below1 li ∙ hb2 1 i below1 li ∙ ha0 3 i below3 li
    go (suc (suc zero)) (suc (suc zero)) lk lj i li = ho2 2 i below2 li ∙ hb2 2 i below2 li ∙ ha2 2 i below2 li
    go (suc (suc zero)) (suc (suc (suc zero))) lk lj i li = ho2 3 i below3 li ∙ hb2 3 i below3 li ∙ ha2 3 i below3 li
    go (suc (suc zero)) (suc (suc (suc (suc zero)))) lk lj i li = ho2 4 i below4 li ∙ hb6 0 i below0 li ∙ ha4 2 i below2 li
    go (suc (suc zero)) (suc (suc (suc (suc (suc zero))))) lk lj i li = ho2 5 i below5 li ∙ hb6 1 i below1 li ∙ ha4 3 i below3 li
    go (suc (suc zero)) (suc (suc (suc (suc (suc (suc zero)))))) lk lj i li = ho2 6 i below6 li ∙ hb6 2 i below2 li ∙ ha6 2 i below2 li
    go (suc (suc zero)) (suc (suc (suc (suc (suc (suc (suc zero))))))) lk lj i li = ho2 7 i below7 li ∙ hb6 3 i below3 li
        ∙ ha6 3 i below3 li
    go (suc (suc zero)) (suc (suc (suc (suc (suc (suc (suc (suc j)))))))) lk lj i li = absurd (omega arith)
    go (suc (suc (suc zero))) zero lk lj i li = ho3 0 i below0 li ∙ hb3 0 i below0 li ∙ ha1 2 i below2 li
    go (suc (suc (suc zero))) (suc zero) lk lj i li = ho3 1 i below1 li ∙ hb3 1 i below1 li ∙ ha1 3 i below3 li
    go (suc (suc (suc zero))) (suc (suc zero)) lk lj i li = ho3 2 i below2 li ∙ hb3 2 i below2 li ∙ ha3 2 i below2 li
    go (suc (suc (suc zero))) (suc (suc (suc zero))) lk lj i li = ho3 3 i below3 li ∙ hb3 3 i below3 li ∙ ha3 3 i below3 li
    go (suc (suc (suc zero))) (suc (suc (suc (suc zero)))) lk lj i li = ho3 4 i below4 li ∙ hb7 0 i below0 li ∙ ha5 2 i below2 li
    go (suc (suc (suc zero))) (suc (suc (suc (suc (suc zero))))) lk lj i li = ho3 5 i below5 li ∙ hb7 1 i below1 li ∙ ha5 3 i below3 li
    go (suc (suc (suc zero))) (suc (suc (suc (suc (suc (suc zero)))))) lk lj i li = ho3 6 i below6 li ∙ hb7 2 i below2 li
        ∙ ha7 2 i below2 li
    go (suc (suc (suc zero))) (suc (suc (suc (suc (suc (suc (suc zero))))))) lk lj i li = ho3 7 i below7 li ∙ hb7 3 i below3 li
        ∙ ha7 3 i below3 li
    go (suc (suc (suc zero))) (suc (suc (suc (suc (suc (suc (suc (suc j)))))))) lk lj i li = absurd (omega arith)
    go (suc (suc (suc (suc zero)))) zero lk lj i li = ho4 0 i below0 li ∙ hb0 4 i below4 li ∙ ha0 4 i below4 li
    go (suc (suc (suc (suc zero)))) (suc zero) lk lj i li = ho4 1 i below1 li ∙ hb0 5 i below5 li ∙ ha0 5 i below5 li
    go (suc (suc (suc (suc zero)))) (suc (suc zero)) lk lj i li = ho4 2 i below2 li ∙ hb0 6 i below6 li ∙ ha2 4 i below4 li
    go (suc (suc (suc (suc zero)))) (suc (suc (suc zero))) lk lj i li = ho4 3 i below3 li ∙ hb0 7 i below7 li ∙ ha2 5 i below5 li
    go (suc (suc (suc (suc zero)))) (suc (suc (suc (suc zero)))) lk lj i li = ho4 4 i below4 li ∙ hb4 4 i below4 li ∙ ha4 4 i below4 li
    go (suc (suc (suc (suc zero)))) (suc (suc (suc (suc (suc zero))))) lk lj i li = ho4 5 i below5 li ∙ hb4 5 i below5 li
        ∙ ha4 5 i below5 li
    go (suc (suc (suc (suc zero)))) (suc (suc (suc (suc (suc (suc zero)))))) lk lj i li = ho4 6 i below6 li ∙ hb4 6 i below6 li
        ∙ ha6 4 i below4 li
    go (suc (suc (suc (suc zero)))) (suc (suc (suc (suc (suc (suc (suc zero))))))) lk lj i li = ho4 7 i below7 li ∙ hb4 7 i below7 li
        ∙ ha6 5 i below5 li
    go (suc (suc (suc (suc zero)))) (suc (suc (suc (suc (suc (suc (suc (suc j)))))))) lk lj i li = absurd (omega arith)
    go (suc (suc (suc (suc (suc zero))))) zero lk lj i li = ho5 0 i below0 li ∙ hb1 4 i below4 li ∙ ha1 4 i below4 li
    go (suc (suc (suc (suc (suc zero))))) (suc zero) lk lj i li = ho5 1 i below1 li ∙ hb1 5 i below5 li ∙ ha1 5 i below5 li
    go (suc (suc (suc (suc (suc zero))))) (suc (suc zero)) lk lj i li = ho5 2 i below2 li ∙ hb1 6 i below6 li ∙ ha3 4 i below4 li
    go (suc (suc (suc (suc (suc zero))))) (suc (suc (suc zero))) lk lj i li = ho5 3 i below3 li ∙ hb1 7 i below7 li ∙ ha3 5 i below5 li
    go (suc (suc (suc (suc (suc zero))))) (suc (suc (suc (suc zero)))) lk lj i li = ho5 4 i below4 li ∙ hb5 4 i below4 li
        ∙ ha5 4 i below4 li
    go (suc (suc (suc (suc (suc zero))))) (suc (suc (suc (suc (suc zero))))) lk lj i li = ho5 5 i below5 li ∙ hb5 5 i below5 li
        ∙ ha5 5 i below5 li
    go (suc (suc (suc (suc (suc zero))))) (suc (suc (suc (suc (suc (suc zero)))))) lk lj i li = ho5 6 i below6 li ∙ hb5 6 i below6 li
        ∙ ha7 4 i below4 li
    go (suc (suc (suc (suc (suc zero))))) (suc (suc (suc (suc (suc (suc (suc zero))))))) lk lj i li = ho5 7 i below7 li
        ∙ hb5 7 i below7 li ∙ ha7 5 i below5 li
    go (suc (suc (suc (suc (suc zero))))) (suc (suc (suc (suc (suc (suc (suc (suc j)))))))) lk lj i li = absurd (omega arith)
    go (suc (suc (suc (suc (suc (suc zero)))))) zero lk lj i li = ho6 0 i below0 li ∙ hb2 4 i below4 li ∙ ha0 6 i below6 li
    go (suc (suc (suc (suc (suc (suc zero)))))) (suc zero) lk lj i li = ho6 1 i below1 li ∙ hb2 5 i below5 li ∙ ha0 7 i below7 li
    go (suc (suc (suc (suc (suc (suc zero)))))) (suc (suc zero)) lk lj i li = ho6 2 i below2 li ∙ hb2 6 i below6 li ∙ ha2 6 i below6 li
    go (suc (suc (suc (suc (suc (suc zero)))))) (suc (suc (suc zero))) lk lj i li = ho6 3 i below3 li ∙ hb2 7 i below7 li
        ∙ ha2 7 i below7 li
    go (suc (suc (suc (suc (suc (suc zero)))))) (suc (suc (suc (suc zero)))) lk lj i li = ho6 4 i below4 li ∙ hb6 4 i below4 li
        ∙ ha4 6 i below6 li
    go (suc (suc (suc (suc (suc (suc zero)))))) (suc (suc (suc (suc (suc zero))))) lk lj i li = ho6 5 i below5 li ∙ hb6 5 i below5 li
        ∙ ha4 7 i below7 li
    go (suc (suc (suc (suc (suc (suc zero)))))) (suc (suc (suc (suc (suc (suc zero)))))) lk lj i li = ho6 6 i below6 li
        ∙ hb6 6 i below6 li ∙ ha6 6 i below6 li
    go (suc (suc (suc (suc (suc (suc zero)))))) (suc (suc (suc (suc (suc (suc (suc zero))))))) lk lj i li = ho6 7 i below7 li
        ∙ hb6 7 i below7 li ∙ ha6 7 i below7 li
    go (suc (suc (suc (suc (suc (suc zero)))))) (suc (suc (suc (suc (suc (suc (suc (suc j)))))))) lk lj i li = absurd (omega arith)
    go (suc (suc (suc (suc (suc (suc (suc zero))))))) zero lk lj i li = ho7 0 i below0 li ∙ hb3 4 i below4 li ∙ ha1 6 i below6 li
    go (suc (suc (suc (suc (suc (suc (suc zero))))))) (suc zero) lk lj i li = ho7 1 i below1 li ∙ hb3 5 i below5 li ∙ ha1 7 i below7 li
    go (suc (suc (suc (suc (suc (suc (suc zero))))))) (suc (suc zero)) lk lj i li = ho7 2 i below2 li ∙ hb3 6 i below6 li
        ∙ ha3 6 i below6 li
    go (suc (suc (suc (suc (suc (suc (suc zero))))))) (suc (suc (suc zero))) lk lj i li = ho7 3 i below3 li ∙ hb3 7 i below7 li
        ∙ ha3 7 i below7 li
    go (suc (suc (suc (suc (suc (suc (suc zero))))))) (suc (suc (suc (suc zero)))) lk lj i li = ho7 4 i below4 li ∙ hb7 4 i below4 li
        ∙ ha5 6 i below6 li
    go (suc (suc (suc (suc (suc (suc (suc zero))))))) (suc (suc (suc (suc (suc zero))))) lk lj i li = ho7 5 i below5 li
        ∙ hb7 5 i below5 li ∙ ha5 7 i below7 li
    go (suc (suc (suc (suc (suc (suc (suc zero))))))) (suc (suc (suc (suc (suc (suc zero)))))) lk lj i li = ho7 6 i below6 li
        ∙ hb7 6 i below6 li ∙ ha7 6 i below6 li
    go (suc (suc (suc (suc (suc (suc (suc zero))))))) (suc (suc (suc (suc (suc (suc (suc zero))))))) lk lj i li = ho7 7 i below7 li
        ∙ hb7 7 i below7 li ∙ ha7 7 i below7 li
    go (suc (suc (suc (suc (suc (suc (suc zero))))))) (suc (suc (suc (suc (suc (suc (suc (suc j)))))))) lk lj i li = absurd (omega arith)
    go (suc (suc (suc (suc (suc (suc (suc (suc k)))))))) j lk lj i li = absurd (omega arith)
