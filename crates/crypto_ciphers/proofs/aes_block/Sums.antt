-- The bytes of a sum of words, and the orders in which a column's four terms are summed.
use Rattle.std.proofs.Common.{◌≡◌, ℕ, ◌/◌, ◌%◌, sym, ap, ◌∙◌}
use Rattle.std.specs.Int.Bits.{bit_xor, xor_assoc}
use Rattle.std.proofs.lemmas.Nat.{xor_comm, xor_shr, xor_mod}
use Rattle.spec_crypto.specs.ciphers.Field.{doubled}
use Rattle.spec_crypto.specs.ciphers.Aes.{mixed}
use Rattle.crypto_ciphers.proofs.aes_block.Table.{tripled}

pub row0-xor : (a b : ℕ) → bit_xor a b % 256 ≡ bit_xor (a % 256) (b % 256)
row0-xor a b = xor_mod a b 8

pub row1-xor : (a b : ℕ) → bit_xor a b / 256 % 256 ≡ bit_xor (a / 256 % 256) (b / 256 % 256)
row1-xor a b = ap (λ (x : ℕ). x % 256) (xor_shr a b 8) ∙ xor_mod (a / 256) (b / 256) 8

pub row2-xor : (a b : ℕ) → bit_xor a b / 65536 % 256 ≡ bit_xor (a / 65536 % 256) (b / 65536 % 256)
row2-xor a b = ap (λ (x : ℕ). x % 256) (xor_shr a b 16) ∙ xor_mod (a / 65536) (b / 65536) 8

pub row3-xor : (a b : ℕ) → bit_xor a b / 16777216 % 256 ≡ bit_xor (a / 16777216 % 256) (b / 16777216 % 256)
row3-xor a b = ap (λ (x : ℕ). x % 256) (xor_shr a b 24) ∙ xor_mod (a / 16777216) (b / 16777216) 8

pub moved : (a b c : ℕ) → bit_xor (bit_xor a b) c ≡ bit_xor (bit_xor a c) b
moved a b c = xor_assoc a b c ∙ ap (λ (x : ℕ). bit_xor a x) (xor_comm b c) ∙ sym (xor_assoc a c b)

-- 2 a, 3 b, c, d
pub order0 : (a b c d : ℕ) → bit_xor (bit_xor (bit_xor (doubled a) (tripled b)) c) d ≡ mixed a b c d
order0 a b c d = ap (λ (x : ℕ). bit_xor (bit_xor x c) d) (sym (xor_assoc (doubled a) (doubled b) b))

-- d, 2 a, 3 b, c
pub order1 : (a b c d : ℕ) → bit_xor (bit_xor (bit_xor d (doubled a)) (tripled b)) c ≡ mixed a b c d
order1 a b c d =
    let e : bit_xor (bit_xor d (doubled a)) (tripled b) ≡ bit_xor (bit_xor (doubled a) (tripled b)) d = ap (λ (x : ℕ).
    bit_xor x (tripled b)) (xor_comm d (doubled a)) ∙ moved (doubled a) d (tripled b) in
    ap (λ (x : ℕ). bit_xor x c) e ∙ moved (bit_xor (doubled a) (tripled b)) d c ∙ order0 a b c d

-- c, d, 2 a, 3 b
pub order2 : (a b c d : ℕ) → bit_xor (bit_xor (bit_xor c d) (doubled a)) (tripled b) ≡ mixed a b c d
order2 a b c d =
    let e : bit_xor (bit_xor (bit_xor c d) (doubled a)) (tripled b) ≡ bit_xor (bit_xor (doubled a) (tripled b)) (bit_xor
    c d) = ap (λ (x : ℕ). bit_xor x (tripled b)) (xor_comm (bit_xor c d) (doubled a)) ∙ moved (doubled a) (bit_xor c d)
    (tripled b) in
    e ∙ sym (xor_assoc (bit_xor (doubled a) (tripled b)) c d) ∙ order0 a b c d

-- 3 b, c, d, 2 a
pub order3 : (a b c d : ℕ) → bit_xor (bit_xor (bit_xor (tripled b) c) d) (doubled a) ≡ mixed a b c d
order3 a b c d =
    let t : ℕ = tripled b in
    let e : bit_xor (bit_xor (bit_xor t c) d) (doubled a) ≡ bit_xor (bit_xor (bit_xor (doubled a) t) c) d = moved
    (bit_xor t c) d (doubled a) ∙ ap (λ (x : ℕ). bit_xor x d) (moved t c (doubled a)) ∙ ap (λ (x : ℕ). bit_xor (bit_xor
    x c) d) (xor_comm t (doubled a)) in
    e ∙ order0 a b c d
