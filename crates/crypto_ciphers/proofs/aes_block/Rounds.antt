-- A state's columns through a sum and a round.
use Rattle.std.proofs.Common.{◌≡◌, ℕ, zero, suc, ◌+◌, ◌-◌, ◌*◌, ◌/◌, ◌%◌, ◌<◌, List, ◌∷◌, [], ◌++◌, ◌⊎◌, inl, inr}
use Rattle.std.proofs.Common.{get_or, length, refl, sym, ap, ◌∙◌, arith}
use Rattle.std.proofs.lemmas.Nat.{le_bytes_4, le_bytes_8, shr-shr}
use Rattle.std.specs.Int.{w32, w64, from_le_bytes, to_le_bytes}
use Rattle.std.specs.Int.Bits.{bit_xor}
use Rattle.spec_crypto.specs.ciphers.Aes.{four, sixteen, word, replaced, mixed_columns, block_sum, round_key, after, cipher, rounds}
use Rattle.crypto_ciphers.specs.aes_block.Columns.{column_rows, state, IsMixedColumn, IsLastColumn}
use Rattle.crypto_ciphers.proofs.aes_block.Sums.{row0-xor, row1-xor, row2-xor, row3-xor}

pub sum_is : (a b c d e f g h : ℕ) → state (bit_xor a e) (bit_xor b f) (bit_xor c g) (bit_xor d h)
    ≡ block_sum (state a b c d) (state e f g h)
unfolding state block_sum
sum_is a b c d e f g h =
    let p0 = row0-xor a e in let p1 = row1-xor a e in let p2 = row2-xor a e in let p3 = row3-xor a e in
    let q0 = row0-xor b f in let q1 = row1-xor b f in let q2 = row2-xor b f in let q3 = row3-xor b f in
    let r0 = row0-xor c g in let r1 = row1-xor c g in let r2 = row2-xor c g in let r3 = row3-xor c g in
    let s0 = row0-xor d h in let s1 = row1-xor d h in let s2 = row2-xor d h in let s3 = row3-xor d h in
    λ t. p0 t ∷ p1 t ∷ p2 t ∷ p3 t ∷ q0 t ∷ q1 t ∷ q2 t ∷ q3 t ∷ r0 t ∷ r1 t ∷ r2 t ∷ r3 t ∷ s0 t ∷ s1 t ∷ s2 t ∷ s3 t ∷ []

-- the columns of a round's key
pub key_is : (ws : List (List ℕ)) (r a b c d : ℕ) → column_rows a ≡ four (λ k. get_or (word ws (4 * r)) k 0) → column_rows b
    ≡ four (λ k. get_or (word ws (4 * r + 1)) k 0)
    → column_rows c ≡ four (λ k. get_or (word ws (4 * r + 2)) k 0) → column_rows d ≡ four (λ k. get_or (word ws (4 * r + 3)) k 0)
    → state a b c d ≡ round_key ws r
unfolding state round_key
key_is ws r a b c d p q s t =
    let z : 4 * r ≡ 4 * r + 0 = omega arith in
    let first : column_rows a ≡ four (λ k. get_or (word ws (4 * r + 0)) k 0) = p ∙ ap (λ (n : ℕ). four (λ k. get_or (word ws n) k 0)) z in
    λ i. first i ++ (q i ++ (s i ++ t i))

four_small : (p q r s : ℕ) → p < 256 → q < 256 → r < 256 → s < 256 → (i : ℕ) → get_or (p ∷ q ∷ r ∷ s ∷ []) i 0 < 256
four_small p q r s a b c d zero = a
four_small p q r s a b c d (suc zero) = b
four_small p q r s a b c d (suc (suc zero)) = c
four_small p q r s a b c d (suc (suc (suc zero))) = d
four_small p q r s a b c d (suc (suc (suc (suc i)))) = omega arith

-- the rows of a word that was read from four bytes
pub rows_read : (p q r s n : ℕ) → p < 256 → q < 256 → r < 256 → s < 256 → n ≡ from_le_bytes w32 (p ∷ q ∷ r ∷ s ∷ [])
    → column_rows n ≡ p ∷ q ∷ r ∷ s ∷ []
rows_read p q r s n a b c d is = le_bytes_4 (p ∷ q ∷ r ∷ s ∷ []) n refl (four_small p q r s a b c d) is

-- eight bytes are the rows of two columns
rows_split : (n : ℕ) → column_rows (n % 4294967296) ++ column_rows (n / 4294967296) ≡ to_le_bytes w64 n
rows_split n =
    let p0 : n % 4294967296 % 256 ≡ n % 256 = omega arith in
    let p1 : n % 4294967296 / 256 % 256 ≡ n / 256 % 256 = omega arith in
    let p2 : n % 4294967296 / 65536 % 256 ≡ n / 65536 % 256 = omega arith in
    let p3 : n % 4294967296 / 16777216 % 256 ≡ n / 16777216 % 256 = omega arith in
    let q1 : n / 4294967296 / 256 % 256 ≡ n / 1099511627776 % 256 = ap (λ (x : ℕ). x % 256) (shr-shr n 32 8) in
    let q2 : n / 4294967296 / 65536 % 256 ≡ n / 281474976710656 % 256 = ap (λ (x : ℕ). x % 256) (shr-shr n 32 16) in
    let q3 : n / 4294967296 / 16777216 % 256 ≡ n / 72057594037927936 % 256 = ap (λ (x : ℕ). x % 256) (shr-shr n 32 24) in
    λ t. p0 t ∷ p1 t ∷ p2 t ∷ p3 t ∷ (n / 4294967296 % 256) ∷ q1 t ∷ q2 t ∷ q3 t ∷ []

rows_joined : (a b : ℕ) → a < 4294967296 → to_le_bytes w64 (a + b * 4294967296) ≡ column_rows a ++ column_rows b
rows_joined a b lt =
    let n : ℕ = a + b * 4294967296 in
    let low : n % 4294967296 ≡ a = omega arith in
    let high : n / 4294967296 ≡ b = omega arith in
    sym (rows_split n) ∙ ap (λ (x : ℕ). column_rows x ++ column_rows (n / 4294967296)) low
    ∙ ap (λ (x : ℕ). column_rows a ++ column_rows x) high

pub block_is : (a b c d : ℕ) → a < 4294967296 → c < 4294967296 → to_le_bytes w64 (a + b * 4294967296) ++ to_le_bytes w64 (c
    + d * 4294967296) ≡ state a b c d
unfolding state
block_is a b c d p q =
    let left = rows_joined a b p in
    let right = rows_joined c d q in
    λ t. left t ++ right t

bytes_small : (p q r s t u v w : ℕ) → p < 256 → q < 256 → r < 256 → s < 256 → t < 256 → u < 256 → v < 256 → w < 256 → (i
    : ℕ) → get_or (p ∷ q ∷ r ∷ s ∷ t ∷ u ∷ v ∷ w ∷ []) i 0 < 256
bytes_small p q r s t u v w a b c d e f g h zero = a
bytes_small p q r s t u v w a b c d e f g h (suc zero) = b
bytes_small p q r s t u v w a b c d e f g h (suc (suc zero)) = c
bytes_small p q r s t u v w a b c d e f g h (suc (suc (suc zero))) = d
bytes_small p q r s t u v w a b c d e f g h (suc (suc (suc (suc zero)))) = e
bytes_small p q r s t u v w a b c d e f g h (suc (suc (suc (suc (suc zero))))) = f
bytes_small p q r s t u v w a b c d e f g h (suc (suc (suc (suc (suc (suc zero)))))) = g
bytes_small p q r s t u v w a b c d e f g h (suc (suc (suc (suc (suc (suc (suc zero))))))) = h
bytes_small p q r s t u v w a b c d e f g h (suc (suc (suc (suc (suc (suc (suc (suc i)))))))) = omega arith

half_read : (p q r s t u v w n : ℕ) → p < 256 → q < 256 → r < 256 → s < 256 → t < 256 → u < 256 → v < 256 → w < 256
    → n ≡ from_le_bytes w64 (p ∷ q ∷ r ∷ s ∷ t ∷ u ∷ v ∷ w ∷ []) → column_rows (n % 4294967296) ++ column_rows (n / 4294967296)
    ≡ p ∷ q ∷ r ∷ s ∷ t ∷ u ∷ v ∷ w ∷ []
half_read p q r s t u v w n a b c d e f g h is = rows_split n ∙ le_bytes_8 (p ∷ q ∷ r ∷ s ∷ t ∷ u ∷ v ∷ w ∷ []) n refl
    (bytes_small p q r s t u v w a b c d e f g h) is

pub columns_are : (s : List ℕ) (left right : ℕ) → ((i : ℕ) → get_or s i 0 < 256)
    → left ≡ from_le_bytes w64 (get_or s 0 0 ∷ get_or s 1 0 ∷ get_or s 2 0 ∷ get_or s 3 0 ∷ get_or s 4 0 ∷ get_or s 5 0
    ∷ get_or s 6 0 ∷ get_or s 7 0 ∷ [])
    → right ≡ from_le_bytes w64 (get_or s 8 0 ∷ get_or s 9 0 ∷ get_or s 10 0 ∷ get_or s 11 0 ∷ get_or s 12 0 ∷ get_or s
    13 0 ∷ get_or s 14 0 ∷ get_or s 15 0 ∷ [])
    → state (left % 4294967296) (left / 4294967296) (right % 4294967296) (right / 4294967296) ≡ sixteen (λ k. get_or s k 0)
unfolding state
columns_are s left right small p q =
    let first = half_read _ _ _ _ _ _ _ _ left (small 0) (small 1) (small 2) (small 3) (small 4) (small 5) (small 6) (small 7) p in
    let second = half_read _ _ _ _ _ _ _ _ right (small 8) (small 9) (small 10) (small 11) (small 12) (small 13) (small 14) (small 15) q in
    λ i. first i ++ second i

pub round_is : (a b c d ka kb kc kd w x y z : ℕ) → IsMixedColumn a b c d ka w → IsMixedColumn b c d a kb x
    → IsMixedColumn c d a b kc y → IsMixedColumn d a b c kd z
    → state w x y z ≡ block_sum (mixed_columns (replaced (state a b c d))) (state ka kb kc kd)
unfolding state replaced mixed_columns block_sum
round_is a b c d ka kb kc kd w x y z p q r s =
    λ t. p.at0 t ∷ p.at1 t ∷ p.at2 t ∷ p.at3 t ∷ q.at0 t ∷ q.at1 t ∷ q.at2 t ∷ q.at3 t ∷ r.at0 t ∷ r.at1 t ∷ r.at2 t ∷
    r.at3 t ∷ s.at0 t ∷ s.at1 t ∷ s.at2 t ∷ s.at3 t ∷ []

pub last_is : (a b c d ka kb kc kd w x y z : ℕ) → IsLastColumn a b c d ka w → IsLastColumn b c d a kb x
    → IsLastColumn c d a b kc y → IsLastColumn d a b c kd z
    → state w x y z ≡ block_sum (replaced (state a b c d)) (state ka kb kc kd)
unfolding state replaced block_sum
last_is a b c d ka kb kc kd w x y z p q r s =
    λ t. p.at0 t ∷ p.at1 t ∷ p.at2 t ∷ p.at3 t ∷ q.at0 t ∷ q.at1 t ∷ q.at2 t ∷ q.at3 t ∷ r.at0 t ∷ r.at1 t ∷ r.at2 t ∷
    r.at3 t ∷ s.at0 t ∷ s.at1 t ∷ s.at2 t ∷ s.at3 t ∷ []

-- the first sixteen bytes of a block are all that a sum takes
pub same_sum : (s t : List ℕ) → block_sum (sixteen (λ k. get_or s k 0)) t ≡ block_sum s t
unfolding block_sum
same_sum s t = refl

pub same_sums : (s t : List ℕ) → block_sum (sixteen (λ k. get_or s k 0)) (sixteen (λ k. get_or t k 0)) ≡ block_sum s t
unfolding block_sum
same_sums s t = refl

abbrev pub one_more : List (List ℕ) → List ℕ → ℕ → List ℕ
one_more ws s r = block_sum (mixed_columns (replaced s)) (round_key ws r)

pub none_more : (ws : List (List ℕ)) (block : List ℕ) → block_sum block (round_key ws 0) ≡ after ws block (2 * 0)
unfolding after
none_more ws block = refl

pub two_more : (ws : List (List ℕ)) (block : List ℕ) (i : ℕ) → one_more ws (one_more ws (after ws block (2 * i)) (2 * i
    + 1)) (2 * i + 2) ≡ after ws block (2 * (i + 1))
unfolding after
two_more ws block i =
    let k : 2 * (i + 1) ≡ suc (suc (2 * i)) = omega arith in
    let l : 2 * i + 1 ≡ suc (2 * i) = omega arith in
    let m : 2 * i + 2 ≡ suc (suc (2 * i)) = omega arith in
    rw (k, l, m) refl

-- the last two of n rounds, behind the whole ones in pairs
pub all_rounds : (ws : List (List ℕ)) (block : List ℕ) (n : ℕ) → (n ≡ 10) ⊎ (n ≡ 14) → length ws / 4 - 1 ≡ n
    → block_sum (replaced (one_more ws (after ws block (2 * (n / 2 - 1))) (rounds ws - 1))) (round_key ws (rounds ws)) ≡ cipher ws block
unfolding after cipher rounds
all_rounds ws block n (inl e) r = rw (r, e) refl
all_rounds ws block n (inr e) r = rw (r, e) refl
