-- Names in ASCII: in UTF-16 each letter has a zero behind it, so that raising them before or after is the same.
use Rattle.std.proofs.Common.{◌≡◌, ℕ, zero, suc, ◌/◌, ◌%◌, ◌<◌, ◌==◌, nat_lt, Bool, true, false, if◌then◌else◌, List}
use Rattle.std.proofs.Common.{[], ◌∷◌, length, refl, sym, ap, ◌∙◌, arith}
use Rattle.std.proofs.lemmas.Bool.Decides.{nat_tests}
use Rattle.std.proofs.lemmas.Str.{chars-IsAscii}
use Rattle.std.specs.Str.{IsAscii}
use Rattle.std.specs.Char.{to_ascii_uppercase}
use Rattle.spec_wire.specs.messages.Places.{le}
use Rattle.spec_crypto.specs.tokens.Formulas.{utf16, utf16_characters, upper}
use Rattle.spec_crypto.specs.tokens.Acceptor.{ascii_byte, ascii_below, is_ascii_utf16}

spread : List ℕ → List ℕ
spread [] = []
spread (b ∷ bs) = b ∷ 0 ∷ spread bs

rest_of : (b : ℕ) (bs : List ℕ) → IsAscii (b ∷ bs) → IsAscii bs
rest_of b bs h = λ i. h (suc i)

small : (b : ℕ) → b < 128 → nat_lt b 65536 ≡ true
small b h = grind (arith, nat_tests)

letter : (b : ℕ) → b < 128 → nat_lt b 128 ≡ true
letter b h = grind (arith, nat_tests)

two_bytes : (b : ℕ) → b < 128 → le 2 b ≡ b ∷ 0 ∷ []
unfolding le
two_bytes b h =
    let low : b % 256 ≡ b = omega arith in
    let high : b / 256 % 256 ≡ 0 = omega arith in
    rw (low, high) refl

characters-spread : (bs : List ℕ) → IsAscii bs → utf16_characters bs ≡ spread bs
unfolding utf16_characters spread
characters-spread [] h = refl
characters-spread (b ∷ bs) h = rw (small b (h 0), two_bytes b (h 0)) (ap (λ (r : List ℕ). b ∷ 0 ∷ r) (characters-spread
    bs (rest_of b bs h)))

utf16-spread : (bs : List ℕ) → IsAscii bs → utf16 bs ≡ spread bs
utf16-spread bs h = ap utf16_characters (chars-IsAscii bs h) ∙ characters-spread bs h

upper-spread : (bs : List ℕ) → upper (spread bs) ≡ spread (upper bs)
unfolding upper spread
upper-spread [] = refl
upper-spread (b ∷ bs) = ap (λ (r : List ℕ). to_ascii_uppercase b ∷ 0 ∷ r) (upper-spread bs)

raised_small : (b : ℕ) → b < 128 → to_ascii_uppercase b < 128
raised_small b h = grind (arith, nat_tests)

upper_ascii : (bs : List ℕ) → IsAscii bs → IsAscii (upper bs)
unfolding upper
upper_ascii [] h i = h i
upper_ascii (b ∷ bs) h zero = raised_small b (h 0)
upper_ascii (b ∷ bs) h (suc i) = upper_ascii bs (rest_of b bs h) i

-- raised before and behind UTF-16
pub utf16-upper : (bs : List ℕ) → IsAscii bs → utf16 (upper bs) ≡ upper (utf16 bs)
utf16-upper bs h = utf16-spread (upper bs) (upper_ascii bs h) ∙ sym (upper-spread bs) ∙ ap upper (sym (utf16-spread bs h))

same_both : (b : Bool) → (if b then true else true) ≡ true
same_both true = refl
same_both false = refl

byte-spread : (bs : List ℕ) (k : ℕ) → IsAscii bs → ascii_byte (spread bs) k ≡ true
unfolding spread
byte-spread [] k h = same_both (k % 2 == 0)
byte-spread (b ∷ bs) zero h = letter b (h 0)
byte-spread (b ∷ bs) (suc zero) h = refl
byte-spread (b ∷ bs) (suc (suc k)) h = let e : suc (suc k) % 2 ≡ k % 2 = omega arith in rw e (byte-spread bs k (rest_of b bs h))

below-spread : (bs : List ℕ) (k : ℕ) → IsAscii bs → ascii_below (spread bs) k ≡ true
unfolding ascii_below
below-spread bs zero h = refl
below-spread bs (suc k) h = rw (below-spread bs k h, byte-spread bs k h) refl

even-spread : (bs : List ℕ) → length (spread bs) % 2 ≡ 0
unfolding spread
even-spread [] = refl
even-spread (b ∷ bs) = let rest = even-spread bs in omega arith

pub ascii_name : (bs : List ℕ) → IsAscii bs → is_ascii_utf16 (utf16 bs) ≡ true
unfolding is_ascii_utf16
ascii_name bs h = rw (utf16-spread bs h) (rw (even-spread bs, below-spread bs (length (spread bs)) h) refl)
