-- The derivation of a key that one output is enough for.
use Rattle.std.proofs.Common.{◌≡◌, ℕ, ◌-◌, List, [], ◌∷◌, ◌++◌, append_assoc, length, take, replicate, ap, sym, ◌∙◌, arith, append-nil}
use Rattle.std.proofs.lemmas.List.{take_all, length-take-le}
use Rattle.std.specs.Int.{w32, to_be_bytes}
use Rattle.sha2.specs.Sha256.{sha256}
use Rattle.spec_crypto.specs.ciphers.Hmac.{zero_padded, key_block, padded_by, hmac_of_sha256}
use Rattle.spec_crypto.specs.ciphers.Kdf.{fixed_input, outputs, derived, derived_padded}

pub derived-256 : (key label context out : List ℕ) (bits : ℕ) → bits ≡ 256 → length out ≡ 32 → out
    ≡ hmac_of_sha256 key (fixed_input 1 label context bits) → out ≡ derived_padded key label context bits
unfolding derived outputs
derived-256 key label context out bits is len e =
    let whole : take 32 out ≡ out = take_all 32 out (omega arith) in
    let at : out ≡ hmac_of_sha256 key (fixed_input 1 label context 256) = e
    ∙ ap (λ b. hmac_of_sha256 key (fixed_input 1 label context b)) is in
    let one : derived key label context 256 ≡ out = ap (take 32) (sym at) ∙ whole in
    let none : 32 - length out ≡ 0 = omega arith in
    let padded : zero_padded 32 out ≡ out = ap (λ n. out ++ replicate n 0) none ∙ append-nil out in
    sym (ap (derived_padded key label context) is ∙ (ap (zero_padded 32) one ∙ padded))

pub derived-128 : (key label context out : List ℕ) (bits : ℕ) → bits ≡ 128 → length out ≡ 32 → out
    ≡ hmac_of_sha256 key (fixed_input 1 label context bits) → take 16 out ++ replicate 16 0 ≡ derived_padded key label
    context bits
unfolding derived outputs
derived-128 key label context out bits is len e =
    let at : out ≡ hmac_of_sha256 key (fixed_input 1 label context 128) = e
    ∙ ap (λ b. hmac_of_sha256 key (fixed_input 1 label context b)) is in
    let one : derived key label context 128 ≡ take 16 out = ap (take 16) (sym at) in
    let half : 32 - length (take 16 out) ≡ 16 = let l = length-take-le 16 out (omega arith) in omega arith in
    let padded : zero_padded 32 (take 16 out) ≡ take 16 out ++ replicate 16 0 = ap (λ n. take 16 out ++ replicate n 0) half in
    sym (ap (derived_padded key label context) is ∙ (ap (zero_padded 32) one ∙ padded))

regroup : (a b c d e f : List ℕ) → ((((a ++ b) ++ c) ++ d) ++ e) ++ f ≡ a ++ (b ++ (c ++ (d ++ (e ++ f))))
regroup a b c d e f = simp append_assoc

-- the hash of the hash of the six pieces
pub output_is : (key label context block pad counter divider count digest out : List ℕ) (bits : ℕ) → block
    ≡ key_block sha256 key → pad ≡ padded_by 0x36 block → counter ≡ to_be_bytes w32 1 → divider ≡ 0 ∷ [] → count
    ≡ to_be_bytes w32 bits
    → digest ≡ sha256 (((((pad ++ counter) ++ label) ++ divider) ++ context) ++ count) → out ≡ sha256 (padded_by 0x5c block ++ digest)
    → out ≡ hmac_of_sha256 key (fixed_input 1 label context bits)
output_is key label context block pad counter divider count digest out bits eb ep ec ed el inner outer =
    let from : pad ≡ padded_by 0x36 (key_block sha256 key) = ep ∙ ap (padded_by 0x36) eb in
    let text : ((((pad ++ counter) ++ label) ++ divider) ++ context) ++ count ≡ padded_by 0x36 (key_block sha256 key)
    ++ fixed_input 1 label context bits =
    regroup pad counter label divider context count ∙ (λ i. from i ++ (ec i ++ (label ++ (ed i ++ (context ++ el i))))) in
    outer ∙ (λ i. sha256 (padded_by 0x5c (eb i) ++ (inner ∙ ap sha256 text) i))
