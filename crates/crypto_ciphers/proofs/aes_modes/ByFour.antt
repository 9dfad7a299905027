-- Four bits at a time.
use Rattle.std.proofs.Common.{◌≡◌, ℕ, zero, suc, ◌+◌, ◌-◌, ◌*◌, ◌/◌, ◌%◌, ◌^◌, ◌<◌, ◌≤◌, Bool, cond, ◌==◌, List, []}
use Rattle.std.proofs.Common.{◌∷◌, ◌++◌, length, get_or, refl, sym, ap, ◌∙◌, arith, inl, inr, ◌≢◌}
use Rattle.std.proofs.Math.ListN.{set}
use Rattle.std.proofs.lemmas.List.{get_or-set_other, get_or-set_same}
use Rattle.std.proofs.lemmas.Bool.{cases_lt}
use Rattle.std.specs.Int.Bits.{bit_xor, xor_assoc, xor_zero_l, xor_zero_r, xor_block}
use Rattle.std.proofs.lemmas.Nat.{shr-shr, xor_comm, mod-pow-add, shr_high, mod_below, pow_pos}
use Rattle.spec_crypto.specs.ciphers.Ghash.{shifted, bits_of, sum_at, product}
use Rattle.crypto_ciphers.specs.aes_modes.Sums.{raised, IsProductRow, AreProductRows}
use Rattle.crypto_ciphers.proofs.aes_modes.Linear.{shifted-xor, sum_at-shifted}
use Rattle.crypto_ciphers.specs.declared.aes_modes.hash.TheConstants.{LOW}

abbrev shifted4 : ℕ → ℕ
shifted4 z = shifted (shifted (shifted (shifted z)))

shifted4-xor : (a b : ℕ) → shifted4 (bit_xor a b) ≡ bit_xor (shifted4 a) (shifted4 b)
shifted4-xor a b = rw (
  shifted-xor a b,
  shifted-xor (shifted a) (shifted b),
  shifted-xor (shifted (shifted a)) (shifted
      (shifted b)),
  shifted-xor (shifted (shifted (shifted a))) (shifted (shifted (shifted b))),
) refl

shifted_even : (a : ℕ) → shifted (2 * a) ≡ a
unfolding shifted
shifted_even a =
    let e : 2 * a % 2 ≡ 0 = omega arith in
    let h : 2 * a / 2 ≡ a = omega arith in
    rw (e, h) (xor_zero_r a)

shifted4_high : (q : ℕ) → shifted4 (q * 16) ≡ q
shifted4_high q =
    let e : q * 16 ≡ 2 * (2 * (2 * (2 * q))) = omega arith in
    rw (e, shifted_even, shifted_even, shifted_even, shifted_even) refl

parts : (z : ℕ) → bit_xor (z / 16 * 16) (z % 16) ≡ z
parts z =
    let e : bit_xor (z / 16 * 2 ^ 4 + 0) (0 * 2 ^ 4 + z % 16) ≡ bit_xor (z / 16) 0 * 2 ^ 4 + bit_xor 0 (z % 16) =
    xor_block 4 (z / 16) 0 0 (z % 16) (omega arith) (omega arith) in
    let a : z / 16 * 2 ^ 4 + 0 ≡ z / 16 * 16 = omega arith in
    let b : 0 * 2 ^ 4 + z % 16 ≡ z % 16 = omega arith in
    let e' = rw (a, b, xor_zero_r (z / 16), xor_zero_l (z % 16)) at e in
    e' ∙ omega arith

abbrev low_is : ℕ → Type 0
low_is n = shifted4 n ≡ get_or LOW n 0

low_at : (n : ℕ) → n < 16 → low_is n
unfolding shifted
low_at zero lt = refl
low_at (suc zero) lt = refl
low_at (suc (suc zero)) lt = refl
low_at (suc (suc (suc zero))) lt = refl
low_at (suc (suc (suc (suc zero)))) lt = refl
low_at (suc (suc (suc (suc (suc zero))))) lt = refl
low_at (suc (suc (suc (suc (suc (suc zero)))))) lt = refl
low_at (suc (suc (suc (suc (suc (suc (suc zero))))))) lt = refl
low_at (suc (suc (suc (suc (suc (suc (suc (suc zero)))))))) lt = refl
low_at (suc (suc (suc (suc (suc (suc (suc (suc (suc zero))))))))) lt = refl
low_at (suc (suc (suc (suc (suc (suc (suc (suc (suc (suc zero)))))))))) lt = refl
low_at (suc (suc (suc (suc (suc (suc (suc (suc (suc (suc (suc zero))))))))))) lt = refl
low_at (suc (suc (suc (suc (suc (suc (suc (suc (suc (suc (suc (suc zero)))))))))))) lt = refl
low_at (suc (suc (suc (suc (suc (suc (suc (suc (suc (suc (suc (suc (suc zero))))))))))))) lt = refl
low_at (suc (suc (suc (suc (suc (suc (suc (suc (suc (suc (suc (suc (suc (suc zero)))))))))))))) lt = refl
low_at (suc (suc (suc (suc (suc (suc (suc (suc (suc (suc (suc (suc (suc (suc (suc zero))))))))))))))) lt = refl
low_at (suc (suc (suc (suc (suc (suc (suc (suc (suc (suc (suc (suc (suc (suc (suc (suc n)))))))))))))))) lt = absurd (omega arith)

-- shifted by four, by the table
pub shifted4_is : (z : ℕ) → bit_xor (z / 16) (get_or LOW (z % 16) 0) ≡ shifted4 z
shifted4_is z =
    sym (ap (λ (x : ℕ). shifted4 x) (sym (parts z)) ∙ shifted4-xor (z / 16 * 16) (z % 16) ∙ rw (
      shifted4_high (z / 16),
      low_at (z % 16) (omega arith),
    ) refl)

-- the sum over a front and a rest, for a front of four bits
sum_at_front : (b3 b2 b1 b0 : Bool) (bs : List Bool) (h : ℕ) → sum_at (b3 ∷ b2 ∷ b1 ∷ b0 ∷ bs) h ≡ bit_xor (sum_at (b3 ∷
    b2 ∷ b1 ∷ b0 ∷ []) h) (shifted4 (sum_at bs h))
unfolding sum_at
sum_at_front b3 b2 b1 b0 bs h =
    rw (
      ← sum_at-shifted bs h,
      ← sum_at-shifted bs (shifted h),
      ← sum_at-shifted bs (shifted (shifted h)),
      ←
          sum_at-shifted bs (shifted (shifted (shifted h))),
      xor_zero_r,
    ) (simp xor_assoc)

bit_again : (y d : ℕ) → y % 16 / 8 % 2 ≡ y / 8 % 2
bit_again y d = omega arith

bits_four : (x i n : ℕ) → n ≡ x / 2 ^ i % 16 → bits_of (i + 4) x ≡ (n / 8 % 2 == 1) ∷ (n / 4 % 2 == 1) ∷ (n / 2 % 2 ==
    1) ∷ (n % 2 == 1) ∷ bits_of i x
unfolding bits_of
bits_four x i n e =
    let k : i + 4 ≡ suc (suc (suc (suc i))) = omega arith in
    let d3 : x / 2 ^ suc (suc (suc i)) ≡ x / 2 ^ i / 8 = ap (λ (j : ℕ). x / 2 ^ j) (omega arith) ∙ sym (shr-shr x i 3) in
    let d2 : x / 2 ^ suc (suc i) ≡ x / 2 ^ i / 4 = ap (λ (j : ℕ). x / 2 ^ j) (omega arith) ∙ sym (shr-shr x i 2) in
    let d1 : x / 2 ^ suc i ≡ x / 2 ^ i / 2 = ap (λ (j : ℕ). x / 2 ^ j) (omega arith) ∙ sym (shr-shr x i 1) in
    let y : ℕ = x / 2 ^ i in
    let b3 : y / 8 % 2 ≡ n / 8 % 2 = omega arith in
    let b2 : y / 4 % 2 ≡ n / 4 % 2 = omega arith in
    let b1 : y / 2 % 2 ≡ n / 2 % 2 = omega arith in
    let b0 : y % 2 ≡ n % 2 = omega arith in
    rw (k, d3, d2, d1, b3, b2, b1, b0) refl

pub step_four : (x h i n z entry : ℕ) → n ≡ x / 2 ^ i % 16 → entry ≡ sum_at (bits_of 4 n) h → z ≡ sum_at (bits_of i x) h
    → bit_xor entry (shifted4 z) ≡ sum_at (bits_of (i + 4) x) h
unfolding bits_of
step_four x h i n z entry e is so_far =
    let d0 : n / 1 ≡ n = omega arith in
    rw (
      is,
      so_far,
      bits_four x i n e,
      sum_at_front (n / 8 % 2 == 1) (n / 4 % 2 == 1) (n / 2 % 2 == 1) (n % 2 == 1)
          (bits_of i x) h,
      d0,
    ) refl

-- ---- the rows of sums

-- the row as the code has it
abbrev pub sums_in_row : ℕ → ℕ → ℕ → ℕ → List ℕ
sums_in_row v four two one =
    0 ∷ one ∷ two ∷ bit_xor two one ∷ four ∷ bit_xor four one ∷ bit_xor four two ∷ bit_xor four (bit_xor two one) ∷ v ∷ bit_xor v one
    ∷ bit_xor v two ∷ bit_xor v (bit_xor two one) ∷ bit_xor v four ∷ bit_xor v (bit_xor four one) ∷ bit_xor v (bit_xor four two)
    ∷ bit_xor v (bit_xor four (bit_xor two one)) ∷ []

abbrev row : ℕ → List ℕ
row v = sums_in_row v (shifted v) (shifted (shifted v)) (shifted (shifted (shifted v)))

shifted4-sum : (bs : List Bool) (v : ℕ) → shifted4 (sum_at bs v) ≡ sum_at bs (shifted4 v)
shifted4-sum bs v = rw (
  sum_at-shifted bs (shifted (shifted (shifted v))),
  sum_at-shifted bs (shifted (shifted v)),
  sum_at-shifted bs (shifted v),
  sum_at-shifted bs v,
) refl

pub raised_four : (n v : ℕ) → raised (4 * (n + 1)) v ≡ shifted4 (raised (4 * n) v)
unfolding raised
raised_four n v = let e : 4 * (n + 1) ≡ suc (suc (suc (suc (4 * n)))) = omega arith in rw e refl

pub raised_none : (v : ℕ) → v ≡ raised 0 v
unfolding raised
raised_none v = refl

row_at : (v n : ℕ) → n < 16 → get_or (row v) n 0 ≡ sum_at (bits_of 4 n) v
unfolding bits_of sum_at
row_at v zero lt = simp (xor_zero_l, xor_zero_r)
row_at v (suc zero) lt = simp (xor_zero_l, xor_zero_r)
row_at v (suc (suc zero)) lt = simp (xor_zero_l, xor_zero_r)
row_at v (suc (suc (suc zero))) lt = simp (xor_zero_l, xor_zero_r)
row_at v (suc (suc (suc (suc zero)))) lt = simp (xor_zero_l, xor_zero_r)
row_at v (suc (suc (suc (suc (suc zero))))) lt = simp (xor_zero_l, xor_zero_r)
row_at v (suc (suc (suc (suc (suc (suc zero)))))) lt = simp (xor_zero_l, xor_zero_r)
row_at v (suc (suc (suc (suc (suc (suc (suc zero))))))) lt = simp (xor_zero_l, xor_zero_r)
row_at v (suc (suc (suc (suc (suc (suc (suc (suc zero)))))))) lt = simp (xor_zero_l, xor_zero_r)
row_at v (suc (suc (suc (suc (suc (suc (suc (suc (suc zero))))))))) lt = simp (xor_zero_l, xor_zero_r)
row_at v (suc (suc (suc (suc (suc (suc (suc (suc (suc (suc zero)))))))))) lt = simp (xor_zero_l, xor_zero_r)
row_at v (suc (suc (suc (suc (suc (suc (suc (suc (suc (suc (suc zero))))))))))) lt = simp (xor_zero_l, xor_zero_r)
row_at v (suc (suc (suc (suc (suc (suc (suc (suc (suc (suc (suc (suc zero)))))))))))) lt = simp (xor_zero_l, xor_zero_r)
row_at v (suc (suc (suc (suc (suc (suc (suc (suc (suc (suc (suc (suc (suc zero))))))))))))) lt = simp (xor_zero_l, xor_zero_r)
row_at v (suc (suc (suc (suc (suc (suc (suc (suc (suc (suc (suc (suc (suc (suc zero)))))))))))))) lt = simp (xor_zero_l, xor_zero_r)
row_at v (suc (suc (suc (suc (suc (suc (suc (suc (suc (suc (suc (suc (suc (suc (suc zero))))))))))))))) lt = simp (xor_zero_l, xor_zero_r)
row_at v (suc (suc (suc (suc (suc (suc (suc (suc (suc (suc (suc (suc (suc (suc (suc (suc n)))))))))))))))) lt = absurd (omega arith)

pub row_told : (v four two one : ℕ) → four ≡ shifted v → two ≡ shifted four → one ≡ shifted two
    → IsProductRow (sums_in_row v four two one) v
row_told v four two one p q r =
    let made : sums_in_row v four two one ≡ row v = rw (r, q, p) refl in
    λ n lt. ap (λ (l : List ℕ). get_or l n 0) made ∙ row_at v n lt

pub rows_more : (rows : List (List ℕ)) (h j : ℕ) (made : List ℕ) → length rows ≡ 32 → j < 32 → ((k : ℕ) → k < j → IsProductRow
    (get_or rows k []) (raised (4 * k) h)) → IsProductRow made (raised (4 * j) h)
    → (k : ℕ) → k < j + 1 → IsProductRow (get_or (set rows j made) k []) (raised (4 * k) h)
rows_more rows h j made len lt known is k below =
    elim (cases_lt k j) [
      | inl less ↦ let other : k ≢ j = omega arith in rw (get_or-set_other rows j k made [] other) (known k less)
      | inr more ↦ let same : k ≡ j = omega arith in rw (same, get_or-set_same rows j made [] (omega arith)) is
    ]

-- the sum at four bits more, whose own sums are those of v
step_place : (x v i n z entry : ℕ) → n ≡ x / 2 ^ i % 16 → entry ≡ sum_at (bits_of 4 n) v → z ≡ sum_at (bits_of i x)
    (shifted4 v) → bit_xor z entry ≡ sum_at (bits_of (i + 4) x) v
step_place x v i n z entry e is so_far =
    let turned : z ≡ shifted4 (sum_at (bits_of i x) v) = so_far ∙ sym (shifted4-sum (bits_of i x) v) in
    xor_comm z entry ∙ ap (λ (y : ℕ). bit_xor entry y) turned ∙ step_four x v i n (sum_at (bits_of i x) v) entry e is refl

pub half_none : (x v : ℕ) → 0 ≡ sum_at (bits_of (4 * 0) x) v
unfolding bits_of sum_at
half_none x v = refl

pub half_more : (rows : List (List ℕ)) (x h i last z : ℕ) → AreProductRows rows h → i < 16 → 15 ≤ last → last ≤ 31
    → z ≡ sum_at (bits_of (4 * i) x) (raised (4 * (last + 1 - i)) h)
    → bit_xor z (get_or (get_or rows (last - i) []) (x / 2 ^ (4 * i) % 16) 0) ≡ sum_at (bits_of (4 * (i + 1)) x) (raised
    (4 * (last + 1 - (i + 1))) h)
half_more rows x h i last z are lt low high so_far =
    let n : ℕ = x / 2 ^ (4 * i) % 16 in
    let next : last + 1 - (i + 1) ≡ last - i = omega arith in
    let before : last + 1 - i ≡ last - i + 1 = omega arith in
    let count : 4 * (i + 1) ≡ 4 * i + 4 = omega arith in
    let so : z ≡ sum_at (bits_of (4 * i) x) (shifted4 (raised (4 * (last - i)) h)) = so_far ∙ rw (
      before,
      raised_four
          (last - i) h,
    ) refl in
    rw (count, next) (step_place x (raised (4 * (last - i)) h) (4 * i) n z (get_or (get_or rows (last - i) []) n 0) refl
    (are (last - i) (omega arith) n (omega arith)) so)

pub half_whole : (x h last z i : ℕ) → 16 ≤ i → i ≤ 16 → z ≡ sum_at (bits_of (4 * i) x) (raised (4 * (last + 1 - i)) h)
    → z ≡ sum_at (bits_of 64 x) (raised (4 * (last - 15)) h)
half_whole x h last z i le ge so_far =
    let a : 4 * i ≡ 64 = omega arith in
    let b : last + 1 - i ≡ last - 15 = omega arith in
    so_far ∙ rw (a, b) refl

-- ---- a factor in two halves

raised-shifted : (n v : ℕ) → raised n (shifted v) ≡ shifted (raised n v)
unfolding raised
raised-shifted zero v = refl
raised-shifted (suc n) v = ap shifted (raised-shifted n v)

sum_at-append : (xs ys : List Bool) (v : ℕ) → sum_at (xs ++ ys) v ≡ bit_xor (sum_at xs v) (sum_at ys (raised (length xs) v))
unfolding sum_at raised
sum_at-append [] ys v = sym (xor_zero_l (sum_at ys v))
sum_at-append (x ∷ xs) ys v =
    let rest : sum_at (xs ++ ys) (shifted v) ≡ bit_xor (sum_at xs (shifted v))
    (sum_at ys (raised (length xs) (shifted v))) = sum_at-append xs ys (shifted v) in
    rw (rest, raised-shifted (length xs) v)
    (sym (xor_assoc (cond x v 0) (sum_at xs (shifted v)) (sum_at ys (shifted (raised (length xs) v)))))

bits_of-add : (m n x : ℕ) → bits_of (m + n) x ≡ bits_of m (x / 2 ^ n) ++ bits_of n x
unfolding bits_of
bits_of-add zero n x = let e : 0 + n ≡ n = omega arith in ap (λ (j : ℕ). bits_of j x) e
bits_of-add (suc m) n x =
    let k : suc m + n ≡ suc (m + n) = omega arith in
    let e : x / 2 ^ (m + n) ≡ x / 2 ^ n / 2 ^ m = ap (λ (j : ℕ). x / 2 ^ j) (omega arith) ∙ sym (shr-shr x n m) in
    ap (λ (j : ℕ). bits_of j x) k ∙ rw (e, bits_of-add m n x) refl

bits_of-length : (n x : ℕ) → length (bits_of n x) ≡ n
unfolding bits_of
bits_of-length zero x = refl
bits_of-length (suc n) x = ap suc (bits_of-length n x)

bit_below : (d n x : ℕ) → x % 2 ^ (suc d + n) / 2 ^ n % 2 ≡ x / 2 ^ n % 2
bit_below d n x =
    let whole : x % 2 ^ (suc d + n) ≡ (x / 2 ^ n % 2 ^ suc d) * 2 ^ n + x % 2 ^ n = mod-pow-add x (suc d) n in
    let high : ((x / 2 ^ n % 2 ^ suc d) * 2 ^ n + x % 2 ^ n) / 2 ^ n ≡ x / 2 ^ n % 2 ^ suc d =
    shr_high (x / 2 ^ n % 2 ^ suc d) n (x % 2 ^ n) (mod_below x (2 ^ n) (pow_pos n)) in
    let low : x / 2 ^ n % 2 ^ (d + 1) ≡ (x / 2 ^ n / 2 ^ 1 % 2 ^ d) * 2 ^ 1 + x / 2 ^ n % 2 ^ 1 = mod-pow-add (x / 2 ^ n) d 1 in
    let same : suc d ≡ d + 1 = omega arith in
    let low' : x / 2 ^ n % 2 ^ suc d ≡ (x / 2 ^ n / 2 ^ 1 % 2 ^ d) * 2 ^ 1 + x / 2 ^ n % 2 ^ 1 = rw same low in
    rw (whole, high, low') (omega arith)

bits_of-low : (d n x : ℕ) → bits_of n (x % 2 ^ (d + n)) ≡ bits_of n x
unfolding bits_of
bits_of-low d zero x = refl
bits_of-low d (suc n) x =
    let e : d + suc n ≡ suc d + n = omega arith in
    rw (e, bit_below d n x, bits_of-low (suc d) n x) refl

pub halves : (x h high low : ℕ) → high ≡ sum_at (bits_of 64 (x / 2 ^ 64)) (raised 0 h) → low
    ≡ sum_at (bits_of 64 (x % 2 ^ 64)) (raised 64 h) → bit_xor high low ≡ product x h
halves x h high low is also =
    let lows : bits_of 64 (x % 2 ^ 64) ≡ bits_of 64 x = bits_of-low 0 64 x in
    let both : bits_of 128 x ≡ bits_of 64 (x / 2 ^ 64) ++ bits_of 64 x = bits_of-add 64 64 x in
    let sum = sum_at-append (bits_of 64 (x / 2 ^ 64)) (bits_of 64 x) h in
    rw (is, also, lows, ← raised_none h) (sym (ap (λ (bs : List Bool). sum_at bs h) both ∙ sum ∙ ap (λ (n : ℕ). bit_xor
    (sum_at (bits_of 64 (x / 2 ^ 64)) h) (sum_at (bits_of 64 x) (raised n h))) (bits_of-length 64 (x / 2 ^ 64))))
