-- A key of 128 bits as the first half of what is derived, comparisons, and lists put together.
use Rattle.std.proofs.Common.{◌≡◌, ℕ, ◌-◌, Bool, true, false, ◌↔◌, IsTrue, List, ◌++◌, append_assoc, length, take, drop}
use Rattle.std.proofs.Common.{replicate, length-drop, ◌==◌, refl, sym, arith}
use Rattle.std.proofs.lemmas.List.{take_at, take_all, length-take-le}
use Rattle.std.proofs.lemmas.Bool.Decides.{nat_tests}
use Rattle.std.proofs.lemmas.Slice.Eq.{bytes_eq-Decides}
use Rattle.spec_crypto.specs.ciphers.Aes.{schedule}
use Rattle.spec_crypto.specs.ciphers.Cmac.{cmac}
use Rattle.spec_crypto.specs.ciphers.Gcm.{gmac}
use Rattle.spec_crypto.specs.declared.sessions.material.Signer.{Signer}
use Rattle.spec_crypto.specs.sessions.Signing.{unsigned, signing_nonce, signature}
use Rattle.std.specs.Str.{bytes_eq}
use Rattle.sha2.proofs.Facts256.{length-sha256}
use Rattle.spec_crypto.specs.ciphers.Hmac.{hmac_of_sha256, padded_by, key_block}
use Rattle.sha2.specs.Sha256.{sha256}
use Rattle.spec_crypto.specs.ciphers.Kdf.{fixed_input, outputs, derived, derived_padded}

pub half_is : (key label context : List ℕ) → take 16 (derived_padded key label context 128) ≡ derived key label context 128
unfolding derived outputs
half_is key label context =
    let out : List ℕ = hmac_of_sha256 key (fixed_input 1 label context 128) in
    let len : length out ≡ 32 = length-sha256 (padded_by 0x5c (key_block sha256 key) ++ sha256 (padded_by 0x36
    (key_block sha256 key) ++ fixed_input 1 label context 128)) in
    let half : length (take 16 out) ≡ 16 = length-take-le 16 out (omega arith) in
    take_at (take 16 out) (replicate (32 - length (take 16 out)) 0) 16 half

-- the five parts of the additional data
pub five_joined : (a b c d e : List ℕ) → (((a ++ b) ++ c) ++ d) ++ e ≡ a ++ (b ++ (c ++ (d ++ e)))
five_joined a b c d e = simp append_assoc refl

pub three_joined : (a b c : List ℕ) → (a ++ b) ++ c ≡ a ++ (b ++ c)
three_joined a b c = append_assoc a b c

-- the rest of a list from a place on
pub rest_is : (m : List ℕ) (n : ℕ) → take (length m - n) (drop n m) ≡ drop n m
rest_is m n = let l = length-drop n m in take_all (length m - n) (drop n m) (omega arith)

not_true : (b : Bool) → (b ≡ true → ⊥) → b ≡ false
not_true true h = absurd (h refl)
not_true false h = refl

-- a test of two lists is their comparison
pub tested : (r : Bool) (a b : List ℕ) → IsTrue r ↔ (a ≡ b) → r ≡ bytes_eq a b
tested true a b h = sym ((bytes_eq-Decides a b).1 (h.0 refl))
tested false a b h = sym (not_true (bytes_eq a b) (λ e. let never : false ≡ true = h.1 ((bytes_eq-Decides a b).0 e) in cc))

not_two : (n : ℕ) → ¬ (n ≡ 2) → (n == 2) ≡ false
not_two n h = grind (arith, nat_tests)

-- the whole message with zeros for its signature, as header and rest
unsigned_is : (m : List ℕ) → (take 48 m ++ replicate 16 0) ++ take (length m - 64) (drop 64 m) ≡ unsigned m
unsigned_is m = rw (rest_is m 64) (append_assoc (take 48 m) (replicate 16 0) (drop 64 m))

pub by_gmac : (s : Signer) (m : List ℕ) (ws : List (List ℕ)) (nonce header out : List ℕ) → s.algorithm ≡ 2 → ws ≡
    schedule 4 s.key → nonce ≡ signing_nonce m → header ≡ take 48 m ++ replicate 16 0
    → out ≡ gmac ws nonce (header ++ take (length m - 64) (drop 64 m)) → out ≡ signature s m
unfolding signature
by_gmac s m ws nonce header out two keys id front is = rw (is, keys, id, front, unsigned_is m, two) refl

pub by_cmac : (s : Signer) (m : List ℕ) (ws : List (List ℕ)) (header out : List ℕ) → ¬ (s.algorithm ≡ 2) → ws ≡ schedule
    4 s.key → header ≡ take 48 m ++ replicate 16 0
    → out ≡ cmac ws (header ++ take (length m - 64) (drop 64 m)) → out ≡ signature s m
unfolding signature
by_cmac s m ws header out other keys front is = rw (is, keys, front, unsigned_is m, not_two s.algorithm other) refl
