-- A sealed frame, part by part.
use Rattle.std.proofs.Common.{◌≡◌, ℕ, ◌+◌, ◌-◌, ◌≤◌, ◌<◌, ◌^◌, Bool, true, false, if◌then◌else◌, List, length, take}
use Rattle.std.proofs.Common.{drop, refl, sym, subst, arith}
use Rattle.std.proofs.lemmas.List.{length-take-le}
use Rattle.spec_crypto.specs.ciphers.Gcm
use Rattle.spec_crypto.specs.ciphers.Ccm
use Rattle.spec_crypto.specs.ciphers.Ccm.{IsFit}
use Rattle.law_crypto.proofs.ciphers.Masking.{sum_length}
use Rattle.law_crypto.proofs.ciphers.Unmasking.{masked_length, masked_twice}
use Rattle.spec_wire.specs.messages.Places.{bytes_at}
use Rattle.spec_crypto.specs.sessions.Sealing.{words_of, is_gcm, ciphertext, tag_of}

length_by : (gcm : Bool) (a b : List ℕ) (n : ℕ) → length a ≡ n → length b ≡ n → length (if gcm then a else b) ≡ n
length_by true a b n e f = e
length_by false a b n e f = f

pub ciphertext_length : (cipher : ℕ) (key nonce text : List ℕ) → length (ciphertext cipher key nonce text) ≡ length text
unfolding ciphertext
ciphertext_length cipher key nonce text =
    length_by (is_gcm cipher) (Gcm.ciphertext (words_of cipher key) (take 12 nonce) text) (Ccm.ciphertext (words_of
    cipher key) (take 11 nonce) text) (length text)
    (masked_length (words_of cipher key) (λ i. Gcm.counter_block (take 12 nonce) (i + 2)) text (length text))
    (masked_length (words_of cipher key) (λ i. Ccm.counter_block (take 11 nonce) (i + 1)) text (length text))

pub tag_length : (cipher : ℕ) (key nonce added text hidden : List ℕ) → length (tag_of cipher key nonce added text hidden) ≡ 16
unfolding tag_of
tag_length cipher key nonce added text hidden =
    length_by (is_gcm cipher) (Gcm.tag_of (words_of cipher key) (take 12 nonce) added hidden) (Ccm.tag_of (words_of
    cipher key) (take 11 nonce) added text 16) 16
    (sum_length _ _)
    (masked_length (words_of cipher key) (λ i. Ccm.counter_block (take 11 nonce) i) (Ccm.mac (words_of cipher key) (take
    11 nonce) added text 16) 16)

twice_by : (gcm : Bool) (f g : List ℕ → List ℕ) (text : List ℕ) → f (f text) ≡ text → g (g text) ≡ text → (if gcm then f
    (if gcm then f text else g text) else g (if gcm then f text else g text)) ≡ text
twice_by true f g text e h = e
twice_by false f g text e h = h

-- hiding twice shows the text again
pub hides_twice : (cipher : ℕ) (key nonce text : List ℕ) → ciphertext cipher key nonce (ciphertext cipher key nonce text) ≡ text
unfolding ciphertext
hides_twice cipher key nonce text =
    twice_by (is_gcm cipher) (Gcm.ciphertext (words_of cipher key) (take 12 nonce)) (Ccm.ciphertext (words_of cipher
    key) (take 11 nonce)) text
    (masked_twice (words_of cipher key) (λ i. Gcm.counter_block (take 12 nonce) (i + 2)) text (Gcm.ciphertext (words_of
    cipher key) (take 12 nonce) text) refl)
    (masked_twice (words_of cipher key) (λ i. Ccm.counter_block (take 11 nonce) (i + 1)) text (Ccm.ciphertext (words_of
    cipher key) (take 11 nonce) text) refl)

not_true : (b : Bool) → (b ≡ true → ⊥) → b ≡ false
not_true true h = absurd (h refl)
not_true false h = refl

pub nonce_fits : (nonce : List ℕ) (size : ℕ) → length nonce ≡ 16 → size ≤ 1114112 → IsFit (take 11 nonce) size 16
nonce_fits nonce size whole small =
    let e : length (take 11 nonce) ≡ 11 = length-take-le 11 nonce (omega arith) in
    let counted : size < 256 ^ (15 - 11) = omega arith in
    record {
      nonce_long = omega arith;
      nonce_short = omega arith;
      tag_long = omega arith;
      tag_short = omega arith;
      tag_even = refl;
      text_counted = subst (λ (n : ℕ). size < 256 ^ (15 - n)) (sym e) counted;
    }

pub added_in : (frame : List ℕ) → take (52 - 20) (drop 20 frame) ≡ bytes_at 32 frame 20
unfolding bytes_at
added_in frame = refl
