-- Bytes of numbers and of two lists one behind the other.
use Rattle.std.proofs.Common.{◌≡◌, ℕ, zero, suc, ◌-◌, ◌*◌, ◌/◌, ◌%◌, ◌^◌, ◌≤◌, ◌<◌, true, cond, eqb, leb, ltb, List, []}
use Rattle.std.proofs.Common.{◌∷◌, length, get_or, refl, arith, inl, inr}
use Rattle.std.specs.Int.{w64, to_be_bytes}
use Rattle.std.specs.Int.Bits.{bit_xor, xor_zero_l, xor_zero_r}
use Rattle.std.proofs.Math.Nat.{pow-le-pow_right, div-eq_of_lt, zero-div}
use Rattle.std.proofs.lemmas.Bool.{ne_eqb, lt-leb, le-leb, ltb-true, lt-ltb, le-ltb, cases_lt}
use Rattle.spec_crypto.specs.ciphers.Aes.{block_sum}
use Rattle.spec_crypto.specs.ciphers.Blocks.{big_byte}
use Rattle.spec_crypto.specs.ciphers.Ccm.{nonce_block, counter_block}
use Rattle.crypto_ciphers.specs.aes_modes.Counters.{number_block}
use Rattle.crypto_ciphers.proofs.aes_modes.Joined.{same_sixteen}

pow_byte : (e : ℕ) → e < 9 → 2 ^ (8 * e) ≡ 256 ^ e
pow_byte zero lt = refl
pow_byte (suc zero) lt = refl
pow_byte (suc (suc zero)) lt = refl
pow_byte (suc (suc (suc zero))) lt = refl
pow_byte (suc (suc (suc (suc zero)))) lt = refl
pow_byte (suc (suc (suc (suc (suc zero))))) lt = refl
pow_byte (suc (suc (suc (suc (suc (suc zero)))))) lt = refl
pow_byte (suc (suc (suc (suc (suc (suc (suc zero))))))) lt = refl
pow_byte (suc (suc (suc (suc (suc (suc (suc (suc zero)))))))) lt = refl
pow_byte (suc (suc (suc (suc (suc (suc (suc (suc (suc e))))))))) lt = absurd (omega arith)

-- a byte of a number in the w - 1 .. w bytes behind a nonce of `long` bytes
pub number_byte : (n k long : ℕ) → 7 ≤ long → long < k → k ≤ 15 → n / 2 ^ (8 * (15 - k)) % 256 ≡ n / 256 ^ (15 - long -
    1 - (k - 1 - long)) % 256
number_byte n k long low above within =
    let e : 15 - long - 1 - (k - 1 - long) ≡ 15 - k = omega arith in
    let p : 2 ^ (8 * (15 - k)) ≡ 256 ^ (15 - k) = pow_byte (15 - k) (omega arith) in
    rw (e, p) refl

pub nonce_number : (n k first : ℕ) (nonce : List ℕ) → 7 ≤ length nonce → length nonce < k → k ≤ 15
    → n / 2 ^ (8 * (15 - k)) % 256 ≡ cond (eqb k 0) first (cond (leb k (length nonce)) (get_or nonce (k - 1) 0)
    (big_byte (15 - length nonce) n (k - 1 - length nonce)))
nonce_number n k first nonce low above within =
    let some : k ≡ 0 → ⊥ = λ e. omega arith in
    rw (ne_eqb k 0 some, lt-leb k (length nonce) above) (number_byte n k (length nonce) low above within)

-- a number in fewer than 256 ^ e, by a shift
below_power : (e : ℕ) → e < 9 → 1 * 2 ^ (8 * e) % 2 ^ 128 ≡ 256 ^ e
below_power zero lt = refl
below_power (suc zero) lt = refl
below_power (suc (suc zero)) lt = refl
below_power (suc (suc (suc zero))) lt = refl
below_power (suc (suc (suc (suc zero)))) lt = refl
below_power (suc (suc (suc (suc (suc zero))))) lt = refl
below_power (suc (suc (suc (suc (suc (suc zero)))))) lt = refl
below_power (suc (suc (suc (suc (suc (suc (suc zero))))))) lt = refl
below_power (suc (suc (suc (suc (suc (suc (suc (suc zero)))))))) lt = refl
below_power (suc (suc (suc (suc (suc (suc (suc (suc (suc e))))))))) lt = absurd (omega arith)

pub below_by_shift : (n e : ℕ) → e < 9 → ltb n (1 * 2 ^ (8 * e) % 2 ^ 128) ≡ true → n < 256 ^ e
below_by_shift n e lt t =
    let below : n < 1 * 2 ^ (8 * e) % 2 ^ 128 = ltb-true n (1 * 2 ^ (8 * e) % 2 ^ 128) t in
    rw (below_power e lt) at below

pub shift_by_below : (n e : ℕ) → e < 9 → n < 256 ^ e → ltb n (1 * 2 ^ (8 * e) % 2 ^ 128) ≡ true
shift_by_below n e lt below = rw (below_power e lt) (lt-ltb n (256 ^ e) below)

-- ---- a counter block by that of number 0

abbrev pub nonce_place : ℕ → List ℕ → ℕ → ℕ → ℕ
nonce_place first nonce n k =
    cond (eqb k 0) first (cond (leb k (length nonce)) (get_or nonce (k - 1) 0) (big_byte (15 - length nonce) n (k - 1 - length nonce)))

abbrev pub number_place : ℕ → ℕ → ℕ
number_place n k = cond (ltb k 8) 0 (big_byte 8 n (k - 8))

below_none : (n p : ℕ) → n < p → n / p ≡ 0
below_none n p lt = div-eq_of_lt lt

-- the number is too small for a byte that stands among the nonce's
number_above : (n k long : ℕ) → 7 ≤ long → k ≤ long → long ≤ 13 → n < 256 ^ (15 - long) → number_place n k ≡ 0
number_above n k long low within high below =
    let less : 256 ^ (15 - long) ≤ 256 ^ (15 - k) = pow-le-pow_right {n = 256} (omega arith) (omega arith) in
    let none : n / 256 ^ (15 - k) ≡ 0 = below_none n (256 ^ (15 - k)) (omega arith) in
    elim (cases_lt k 8) [
      | inl small ↦ rw (lt-ltb k 8 small) refl
      | inr large ↦ let e : 8 - 1 - (k - 8) ≡ 15 - k = omega arith in rw (le-ltb k 8 large, e, none) refl
    ]

pub zero_bytes : (p : ℕ) → 0 / p % 256 ≡ 0
zero_bytes p = rw (zero-div p) refl

counted_byte : (first n k : ℕ) (nonce : List ℕ) → 7 ≤ length nonce → length nonce ≤ 13 → k < 16 → n < 256 ^ (15 - length nonce)
    → bit_xor (nonce_place first nonce 0 k) (number_place n k) ≡ nonce_place first nonce n k
counted_byte first n k nonce low high lt below =
    elim (cases_lt (length nonce) k) [
      | inl behind ↦
          let some : k ≡ 0 → ⊥ = λ e. omega arith in
          let e : 15 - length nonce - 1 - (k - 1 - length nonce) ≡ 15 - k = omega arith in
          let f : 8 - 1 - (k - 8) ≡ 15 - k = omega arith in
          rw (ne_eqb k 0 some, lt-leb k (length nonce) behind, le-ltb k 8 (omega arith), e, f, zero_bytes (256 ^ (15 - k))) (xor_zero_l _)
      | inr among ↦
          let none : number_place n k ≡ 0 = number_above n k (length nonce) low among high below in
          elim (cases_lt 0 k) [
            | inl some ↦
                let not_first : k ≡ 0 → ⊥ = λ e. omega arith in
                rw (none, ne_eqb k 0 not_first, le-leb k (length nonce) among) (xor_zero_r _)
            | inr first_of ↦ let z : k ≡ 0 = omega arith in rw (none, z) (xor_zero_r _)
          ]
    ]

pub counted_is : (n : ℕ) (nonce : List ℕ) → 7 ≤ length nonce → length nonce ≤ 13 → n < 256 ^ (15 - length nonce)
    → block_sum (counter_block nonce 0) (number_block n) ≡ counter_block nonce n
unfolding block_sum nonce_block number_block
counted_is n nonce low high below =
    let first : ℕ = 14 - length nonce in
    same_sixteen (λ k. bit_xor (nonce_place first nonce 0 k) (number_place n k)) (λ k. nonce_place first nonce n k)
    (λ k lt. counted_byte first n k nonce low high lt below)

-- the number's bytes as the code writes them
pub number_bytes : (bytes : List ℕ) (n : ℕ) → bytes ≡ to_be_bytes w64 n → 0 ∷ 0 ∷ 0 ∷ 0 ∷ 0 ∷ 0 ∷ 0 ∷ 0 ∷ get_or bytes 0 0
    ∷ get_or bytes 1 0 ∷ get_or bytes 2 0 ∷ get_or bytes 3 0 ∷ get_or bytes 4 0 ∷ get_or bytes 5 0 ∷ get_or bytes 6 0
    ∷ get_or bytes 7 0 ∷ [] ≡ number_block n
unfolding number_block
number_bytes bytes n is =
    let last : n % 256 ≡ n / 1 % 256 = omega arith in
    rw is (λ t. 0 ∷ 0 ∷ 0 ∷ 0 ∷ 0 ∷ 0 ∷ 0 ∷ 0 ∷ (n / 256 ^ 7 % 256) ∷ (n / 256 ^ 6 % 256) ∷ (n / 256 ^ 5 % 256) ∷ (n / 256 ^ 4 % 256)
    ∷ (n / 256 ^ 3 % 256) ∷ (n / 256 ^ 2 % 256) ∷ (n / 256 % 256) ∷ last t ∷ [])
