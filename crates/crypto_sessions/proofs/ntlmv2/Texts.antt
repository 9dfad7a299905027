-- Text in UTF-16 as the wire's definition has it, and whether bytes are ASCII in UTF-16.
use Rattle.std.proofs.Common.{◌≡◌, ℕ, zero, suc, ◌+◌, ◌%◌, ◌<◌, ◌==◌, Bool, true, false, ◌&&◌, List, [], ◌∷◌, ◌++◌}
use Rattle.std.proofs.Common.{length, flat_map, refl, arith, sym, ap}
use Rattle.std.specs.Str.{chars}
use Rattle.std.proofs.lemmas.Bool.Decides.{nat_tests}
use Rattle.spec_wire.specs.messages.Utf16
use Rattle.spec_crypto.specs.tokens.Formulas.{utf16, utf16_characters}
use Rattle.spec_crypto.specs.tokens.Acceptor.{ascii_byte, ascii_below, is_ascii_utf16}

same_characters : (cs : List ℕ) → utf16_characters cs ≡ flat_map Utf16.units_of cs
unfolding utf16_characters
same_characters [] = refl
same_characters (c ∷ cs) = ap (λ (rest : List ℕ). Utf16.units_of c ++ rest) (same_characters cs)

-- the two definitions of a text in UTF-16 agree
pub same_utf16 : (text : List ℕ) → Utf16.utf16 text ≡ utf16 text
unfolding Utf16.utf16
same_utf16 text = sym (same_characters (chars text))

and_false : (b : Bool) → (b && false) ≡ false
and_false true = refl
and_false false = refl

spoiled_at : (bytes : List ℕ) (k n : ℕ) (same : Bool) → (k == n) ≡ same → k < suc n → ascii_byte bytes k ≡ false → (k <
    n → ascii_below bytes n ≡ false) → (ascii_below bytes n && ascii_byte bytes n) ≡ false
spoiled_at bytes k n true e lt bad before = let here : k ≡ n = grind (arith, nat_tests) in rw (← here, bad) (and_false
    (ascii_below bytes k))
spoiled_at bytes k n false e lt bad before = let h : ascii_below bytes n ≡ false = before (grind (arith, nat_tests)) in rw h refl

-- one byte of another text spoils all
pub spoiled : (bytes : List ℕ) (k n : ℕ) → k < n → ascii_byte bytes k ≡ false → ascii_below bytes n ≡ false
unfolding ascii_below
spoiled bytes k zero lt bad = absurd (omega arith)
spoiled bytes k (suc n) lt bad = spoiled_at bytes k n (k == n) refl lt bad (λ before. spoiled bytes k n before bad)

pub none_below : (bytes : List ℕ) → ascii_below bytes 0 ≡ true
unfolding ascii_below
none_below bytes = refl

pub one_more : (bytes : List ℕ) (k : ℕ) → ascii_below bytes k ≡ true → ascii_byte bytes k ≡ true → ascii_below bytes (k + 1) ≡ true
unfolding ascii_below
one_more bytes k h e = let next : k + 1 ≡ suc k = omega arith in rw (next, h, e) refl

pub odd_is_not : (bytes : List ℕ) → (length bytes % 2 ≡ 0 → ⊥) → is_ascii_utf16 bytes ≡ false
unfolding is_ascii_utf16
odd_is_not bytes odd = let e : (length bytes % 2 == 0) ≡ false = grind (arith, nat_tests) in rw e refl

pub byte_is_not : (bytes : List ℕ) (k : ℕ) → k < length bytes → ascii_byte bytes k ≡ false → is_ascii_utf16 bytes ≡ false
unfolding is_ascii_utf16
byte_is_not bytes k lt bad = rw (spoiled bytes k (length bytes) lt bad) (and_false (length bytes % 2 == 0))

pub all_are : (bytes : List ℕ) → length bytes % 2 ≡ 0 → ascii_below bytes (length bytes) ≡ true → is_ascii_utf16 bytes ≡ true
unfolding is_ascii_utf16
all_are bytes even h = rw (even, h) refl
