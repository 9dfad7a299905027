-- A front serves for each counter block whose number has the same bytes before the last.
use Rattle.std.proofs.Common.{◌≡◌, ℕ, ◌+◌, ◌-◌, ◌/◌, ◌%◌, ◌^◌, ◌≤◌, List, ◌∷◌, [], length, get_or, refl, sym, ap, ◌∙◌, arith}
use Rattle.std.specs.Int.Bits.{bit_xor, xor_zero_l}
use Rattle.std.proofs.lemmas.Bool.{lt-leb}
use Rattle.spec_crypto.specs.ciphers.Aes.{after, block_sum}
use Rattle.spec_crypto.specs.ciphers.Gcm
use Rattle.spec_crypto.specs.ciphers.Ccm
use Rattle.crypto_ciphers.specs.aes_block.Fronts.{with_last, IsBlockFront}
use Rattle.crypto_ciphers.specs.aes_modes.Counters.{number_block}
use Rattle.crypto_ciphers.proofs.aes_modes.Bytewise.{zero_bytes}

pub front_of_same : (ws : List (List ℕ)) (b c front : List ℕ) → b ≡ c → IsBlockFront ws b front → IsBlockFront ws c front
front_of_same ws b c front e is = λ y wa wb wc wd lt h. is y wa wb wc wd lt h ∙ ap (λ (x : List ℕ). after ws (with_last x y) 2) e

front_of_like : (ws : List (List ℕ)) (b c front : List ℕ) → ((y : ℕ) → with_last b y ≡ with_last c y)
    → IsBlockFront ws b front → IsBlockFront ws c front
front_of_like ws b c front e is = λ y wa wb wc wd lt h. is y wa wb wc wd lt h ∙ ap (λ (x : List ℕ). after ws x 2) (e y)

-- ---- GCM's counter blocks

gcm_like : (nonce : List ℕ) (m n y : ℕ) → m / 256 ≡ n / 256 → with_last (Gcm.counter_block nonce m) y
    ≡ with_last (Gcm.counter_block nonce n) y
unfolding with_last Gcm.counter_block
gcm_like nonce m n y e =
    let a : m / 256 ^ 3 % 256 ≡ n / 256 ^ 3 % 256 = omega (arith, e) in
    let b : m / 256 ^ 2 % 256 ≡ n / 256 ^ 2 % 256 = omega (arith, e) in
    let c : m / 256 ^ 1 % 256 ≡ n / 256 ^ 1 % 256 = omega (arith, e) in
    λ t. get_or nonce 0 0 ∷ get_or nonce 1 0 ∷ get_or nonce 2 0 ∷ get_or nonce 3 0 ∷ get_or nonce 4 0 ∷ get_or nonce 5 0
    ∷ get_or nonce 6 0 ∷ get_or nonce 7 0 ∷ get_or nonce 8 0 ∷ get_or nonce 9 0 ∷ get_or nonce 10 0 ∷ get_or nonce 11 0
    ∷ a t ∷ b t ∷ c t ∷ y ∷ []

gcm_last : (nonce : List ℕ) (n : ℕ) → get_or (Gcm.counter_block nonce n) 15 0 ≡ n / 1 % 256
unfolding Gcm.counter_block
gcm_last nonce n = refl

-- the number grew by one, and its last byte isn't 0
pub gcm_serves : (ws : List (List ℕ)) (nonce block front : List ℕ) (i : ℕ) → block ≡ Gcm.counter_block nonce (i + 2)
    → IsBlockFront ws (Gcm.counter_block nonce (i + 1)) front → (get_or block 15 0 ≡ 0 → ⊥) → IsBlockFront ws block front
gcm_serves ws nonce block front i is have some =
    let last : get_or block 15 0 ≡ (i + 2) / 1 % 256 = ap (λ (x : List ℕ). get_or x 15 0) is ∙ gcm_last nonce (i + 2) in
    let other : (i + 2) % 256 ≡ 0 → ⊥ = λ z. some (last ∙ omega (arith, z)) in
    let e : (i + 1) / 256 ≡ (i + 2) / 256 = omega (arith, other) in
    front_of_same ws _ _ front (sym is) (front_of_like ws _ _ front (λ y. gcm_like nonce (i + 1) (i + 2) y e) have)

pub gcm_next : (ws : List (List ℕ)) (nonce block front : List ℕ) (i : ℕ) → block ≡ Gcm.counter_block nonce (i + 2)
    → IsBlockFront ws block front → IsBlockFront ws (Gcm.counter_block nonce (i + 1 + 1)) front
gcm_next ws nonce block front i is have =
    let e : i + 2 ≡ i + 1 + 1 = omega arith in
    front_of_same ws _ _ front (is ∙ ap (λ (x : ℕ). Gcm.counter_block nonce x) e) have

-- ---- CCM's, from the one of number 0

ccm_like : (zero_block : List ℕ) (m n y : ℕ) → m / 256 ≡ n / 256
    → with_last (block_sum zero_block (number_block m)) y ≡ with_last (block_sum zero_block (number_block n)) y
unfolding with_last block_sum number_block
ccm_like z m n y e =
    let p : m / 256 ^ 7 % 256 ≡ n / 256 ^ 7 % 256 = omega (arith, e) in
    let q : m / 256 ^ 6 % 256 ≡ n / 256 ^ 6 % 256 = omega (arith, e) in
    let r : m / 256 ^ 5 % 256 ≡ n / 256 ^ 5 % 256 = omega (arith, e) in
    let s : m / 256 ^ 4 % 256 ≡ n / 256 ^ 4 % 256 = omega (arith, e) in
    let a : m / 256 ^ 3 % 256 ≡ n / 256 ^ 3 % 256 = omega (arith, e) in
    let b : m / 256 ^ 2 % 256 ≡ n / 256 ^ 2 % 256 = omega (arith, e) in
    let c : m / 256 ^ 1 % 256 ≡ n / 256 ^ 1 % 256 = omega (arith, e) in
    λ t. bit_xor (get_or z 0 0) 0 ∷ bit_xor (get_or z 1 0) 0 ∷ bit_xor (get_or z 2 0) 0 ∷ bit_xor (get_or z 3 0) 0
    ∷ bit_xor (get_or z 4 0) 0 ∷ bit_xor (get_or z 5 0) 0 ∷ bit_xor (get_or z 6 0) 0 ∷ bit_xor (get_or z 7 0) 0
    ∷ bit_xor (get_or z 8 0) (p t) ∷ bit_xor (get_or z 9 0) (q t) ∷ bit_xor (get_or z 10 0) (r t) ∷ bit_xor (get_or z 11 0) (s t)
    ∷ bit_xor (get_or z 12 0) (a t) ∷ bit_xor (get_or z 13 0) (b t) ∷ bit_xor (get_or z 14 0) (c t) ∷ y ∷ []

zero_last : (nonce : List ℕ) → length nonce ≤ 13 → get_or (Ccm.counter_block nonce 0) 15 0 ≡ 0
unfolding Ccm.nonce_block
zero_last nonce short = rw (lt-leb 15 (length nonce) (omega arith)) (zero_bytes (256 ^ (15 - length nonce - 1 - (14 - length nonce))))

counted_last : (z : List ℕ) (n : ℕ) → get_or (block_sum z (number_block n)) 15 0 ≡ bit_xor (get_or z 15 0) (n / 1 % 256)
unfolding block_sum number_block
counted_last z n = refl

-- the number grew by one, and its last byte isn't 0
pub ccm_serves : (ws : List (List ℕ)) (nonce zero_block block front : List ℕ) (i : ℕ) → length nonce ≤ 13 → zero_block
    ≡ Ccm.counter_block nonce 0
    → block ≡ block_sum zero_block (number_block (i + 1))
    → IsBlockFront ws (block_sum zero_block (number_block i)) front → (get_or block 15 0 ≡ 0 → ⊥) → IsBlockFront ws block front
ccm_serves ws nonce z block front i short zero is have some =
    let none : get_or z 15 0 ≡ 0 = ap (λ (x : List ℕ). get_or x 15 0) zero ∙ zero_last nonce short in
    let last : get_or block 15 0 ≡ (i + 1) / 1 % 256 = ap (λ (x : List ℕ). get_or x 15 0) is ∙ counted_last z (i + 1)
    ∙ ap (λ (x : ℕ). bit_xor x ((i + 1) / 1 % 256)) none ∙ xor_zero_l _ in
    let other : (i + 1) % 256 ≡ 0 → ⊥ = λ e. some (last ∙ omega (arith, e)) in
    let e : i / 256 ≡ (i + 1) / 256 = omega (arith, other) in
    front_of_same ws _ _ front (sym is) (front_of_like ws _ _ front (λ y. ccm_like z i (i + 1) y e) have)
