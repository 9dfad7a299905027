-- The bytes of a made line: ASCII, from the space on.
use Rattle.std.proofs.Common.{◌≡◌, ℕ, ◌+◌, ◌/◌, ◌%◌, ◌<◌, ◌≤◌, ◌^◌, ◌==◌, Bool, true, false, ◌&&◌, nat_le, nat_lt, zero}
use Rattle.std.proofs.Common.{suc, List, [], ◌∷◌, ◌++◌}
use Rattle.std.proofs.Common.{length, slice_index, IsAscii, refl, ap, ◌∙◌, arith}
use Rattle.std.specs.Fmt.{decimal}
use Rattle.std.specs.Int.{w32, to_le_bytes, byte_at}
use Rattle.std.specs.List.{list_all, onto_first}
use Rattle.std.specs.Str.{is_utf8}
use Rattle.std.specs.Str.Parse.{AllDigits}
use Rattle.std.proofs.lemmas.Bool.{and_parts}
use Rattle.std.proofs.lemmas.Fmt.{decimal_is_IsNumeral}
use Rattle.std.proofs.lemmas.Grind.{common_steps}
use Rattle.std.proofs.lemmas.List.Splits.{slice_split-cons_no}
use Rattle.std.proofs.lemmas.Str.{IsUtf8-from_ascii, is_utf8-from_IsUtf8}
use Rattle.std.proofs.lemmas.Str.Ascii.{IsAscii-nil, IsAscii-cons}
use Rattle.std.proofs.lemmas.Str.Parse.{digit_from_value}
use Rattle.hex.specs.Hex.{IsBytes, encode_lower, encode_with, lower_digits}
use Rattle.script_words.specs.Pieces.{pieces}

-- each byte is ASCII, and not below this one
abbrev pub Within : ℕ → List ℕ → Type 0
Within low [] = Unit {0}
Within low (b ∷ bs) = (low ≤ b) × (b < 128) × Within low bs

abbrev is_within : ℕ → List ℕ → Bool
is_within low bs = list_all (λ (b : ℕ). nat_le low b && nat_lt b 128) bs

at_least : (low b : ℕ) → nat_le low b ≡ true → low ≤ b
at_least low b e = grind (arith, common_steps)

below : (a n : ℕ) → nat_lt a n ≡ true → a < n
below a n e = grind (arith, common_steps)

pub literal : (low : ℕ) (bs : List ℕ) → is_within low bs ≡ true → Within low bs
literal low [] e = tt
literal low (b ∷ bs) e =
    let p = and_parts (nat_le low b && nat_lt b 128) (is_within low bs) e in
    let q = and_parts (nat_le low b) (nat_lt b 128) p.0 in
    (at_least low b q.0, below b 128 q.1, literal low bs p.1)

pub joins : (low : ℕ) (xs ys : List ℕ) → Within low xs → Within low ys → Within low (xs ++ ys)
joins low [] ys h t = t
joins low (x ∷ xs) ys h t = (h.0, h.1, joins low xs ys h.2 t)

pub lower : (low high : ℕ) (bs : List ℕ) → low ≤ high → Within high bs → Within low bs
lower low high [] le h = tt
lower low high (b ∷ bs) le h = (let first = h.0 in omega (arith, le, first), h.1, lower low high bs le h.2)

digits_within : (ds : List ℕ) → AllDigits 10 ds → Within 33 ds
digits_within [] d = tt
digits_within (c ∷ cs) d = let k = digit_from_value c d.0 in (omega (arith, k), omega (arith, k), digits_within cs d.1)

pub decimal_within : (n : ℕ) → n < 2 ^ 64 → Within 33 (decimal n)
decimal_within n h = digits_within (decimal n) (decimal_is_IsNumeral n h).0.1

-- ---- hex digits

entry_within : (t : List ℕ) (d : ℕ) → Within 33 t → d < length t → (33 ≤ slice_index t d) × (slice_index t d < 128)
entry_within [] d h l = absurd (omega (arith, l))
entry_within (x ∷ xs) zero h l = (h.0, h.1)
entry_within (x ∷ xs) (suc d) h l = entry_within xs d h.2 (omega (arith, l))

lower_within : Within 33 lower_digits
lower_within = literal 33 lower_digits refl

digit_within : (d : ℕ) → d < 16 → (33 ≤ slice_index lower_digits d) × (slice_index lower_digits d < 128)
digit_within d h = entry_within lower_digits d lower_within (omega (arith, h))

pub hex_within : (bs : List ℕ) → IsBytes bs → Within 33 (encode_lower bs)
unfolding encode_with
hex_within [] h = tt
hex_within (b ∷ bs) h =
    let fits : b < 256 = h 0 in
    let high = digit_within (b / 16) (omega (arith, fits)) in
    let low = digit_within (b % 16) (omega arith) in
    (high.0, high.1, (low.0, low.1, hex_within bs (λ (k : ℕ). h (suc k))))

byte_small : (i n : ℕ) → byte_at i n < 256
byte_small zero n = omega arith
byte_small (suc i) n = omega arith

no_byte : (i : ℕ) → slice_index [] i < 256
no_byte i = omega arith

pub word_bytes : (n : ℕ) → IsBytes (to_le_bytes w32 n)
word_bytes n zero = byte_small 0 n
word_bytes n (suc zero) = byte_small 1 n
word_bytes n (suc (suc zero)) = byte_small 2 n
word_bytes n (suc (suc (suc zero))) = byte_small 3 n
word_bytes n (suc (suc (suc (suc i)))) = no_byte i

-- ---- a text

ascii : (low : ℕ) (bs : List ℕ) → Within low bs → IsAscii bs
ascii low [] h = IsAscii-nil
ascii low (b ∷ bs) h = IsAscii-cons b bs h.1 (ascii low bs h.2)

pub is_text : (low : ℕ) (bs : List ℕ) → Within low bs → is_utf8 bs ≡ true
is_text low bs h = is_utf8-from_IsUtf8 bs (IsUtf8-from_ascii bs (ascii low bs h))

-- ---- pieces: a separator below all bytes of a piece ends it

other : (s low b : ℕ) → s < low → low ≤ b → (b == s) ≡ false
other s low b h l = grind (arith, common_steps)

pub apart : (s low : ℕ) (xs ys : List ℕ) → s < low → Within low xs → pieces s (s ∷ ys) ≡ [] ∷ pieces s ys
    → pieces s (xs ++ s ∷ ys) ≡ xs ∷ pieces s ys
apart s low [] ys h w e = e
apart s low (x ∷ xs) ys h w e =
    slice_split-cons_no (λ (byte : ℕ). byte == s) x (xs ++ s ∷ ys) (other s low x h w.0) ∙ ap (onto_first x) (apart s low xs ys h w.2 e)

pub last : (s low : ℕ) (xs : List ℕ) → s < low → Within low xs → pieces s xs ≡ xs ∷ []
last s low [] h w = refl
last s low (x ∷ xs) h w =
    slice_split-cons_no (λ (byte : ℕ). byte == s) x xs (other s low x h w.0) ∙ ap (onto_first x) (last s low xs h w.2)

-- a word and a space, and a word alone
pub spaced : (xs ys : List ℕ) → Within 33 xs → pieces 32 (xs ++ 32 ∷ ys) ≡ xs ∷ pieces 32 ys
spaced xs ys w = apart 32 33 xs ys (omega arith) w refl

pub alone : (xs : List ℕ) → Within 33 xs → pieces 32 xs ≡ xs ∷ []
alone xs w = last 32 33 xs (omega arith) w
