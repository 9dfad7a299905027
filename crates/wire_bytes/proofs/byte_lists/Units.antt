-- Units of UTF-16 in bytes, and characters read so far.
use Rattle.std.proofs.Common.{◌≡◌, ℕ, ◌+◌, ◌-◌, ◌*◌, ◌/◌, ◌%◌, ◌<◌, ◌≤◌, List, [], ◌∷◌, ◌++◌, length, get_or, take}
use Rattle.std.proofs.Common.{drop, refl, sym, ap, ◌∙◌, arith, length-drop}
use Rattle.std.proofs.lemmas.Grind.{common_steps}
use Rattle.std.proofs.lemmas.List.{drop_all, length-take, get_or-drop, get_or-take}
use Rattle.std.proofs.Math.Seq.{take-add}
use Rattle.spec_wire.specs.messages.Places.{le, number_of, number, bytes_at}
use Rattle.std.proofs.Common.{true, chars, encode_utf8, encode_utf8_all}
use Rattle.std.specs.Char.{IsScalar}
use Rattle.std.specs.Str.{all_scalars}
use Rattle.std.proofs.lemmas.Grind.{flat_map-append}
use Rattle.std.proofs.lemmas.List.{append-nil, take_all}
use Rattle.std.proofs.lemmas.Str.{chars-encodes, encodes-append}
use Rattle.spec_wire.specs.messages.Utf16.{units_of, utf16_of, utf16, IsHigh, IsLow}

-- no unit stands behind the bytes
pub number_past : (m : List ℕ) (at : ℕ) → length m ≤ at → number 2 m at ≡ 0
unfolding bytes_at number_of
number_past m at past = rw (drop_all at m past) refl

-- two bytes are the number that they spell
two_bytes : (xs : List ℕ) → length xs ≡ 2 → get_or xs 0 0 < 256 → get_or xs 1 0 < 256 → xs ≡ le 2 (number_of xs)
unfolding le number_of
two_bytes [] e a b = absurd (omega (arith, e))
two_bytes (x ∷ []) e a b = absurd (omega (arith, e))
two_bytes (x ∷ y ∷ []) e a b =
    let low : (x + 256 * (y + 256 * 0)) % 256 ≡ x = omega (arith, a) in
    let high : (x + 256 * (y + 256 * 0)) / 256 % 256 ≡ y = omega (arith, a, b) in
    rw (low, high) refl
two_bytes (x ∷ y ∷ z ∷ zs) e a b = absurd (omega (arith, e))

-- a unit more
pub one_unit : (m : List ℕ) (at : ℕ) → at + 2 ≤ length m → get_or m at 0 < 256 → get_or m (at + 1) 0 < 256
    → take (at + 2) m ≡ take at m ++ le 2 (number 2 m at)
unfolding bytes_at
one_unit m at inside a b =
    let low : get_or (take 2 (drop at m)) 0 0 ≡ get_or m at 0 = get_or-take 2 (drop at m) 0 0 (omega arith)
    ∙ get_or-drop at m 0 0 ∙ ap (λ (k : ℕ). get_or m k 0) (omega arith) in
    let high : get_or (take 2 (drop at m)) 1 0 ≡ get_or m (at + 1) 0 = get_or-take 2 (drop at m) 1 0 (omega arith) ∙ get_or-drop at m 1 0 in
    let size : length (take 2 (drop at m)) ≡ 2 = omega (arith, length-take 2 (drop at m), length-drop at m) in
    take-add at 2 m ∙ ap (λ (x : List ℕ). take at m ++ x) (two_bytes (take 2 (drop at m)) size (omega (arith, low, a))
    (omega (arith, high, b)))

-- a unit that is no surrogate is its character's
pub plain_units : (c : ℕ) → c < 0x10000 → units_of c ≡ le 2 c
plain_units c small = grind (arith, common_steps)

-- two surrogates are their character's
pub pair_units : (c high low : ℕ) → IsHigh high → IsLow low → c ≡ 0x10000 + (high - 0xd800) * 0x400 + (low - 0xdc00)
    → units_of c ≡ le 2 high ++ le 2 low
pair_units c high low h l e =
    let big : 0x10000 ≤ c = omega (arith, e) in
    let first : 0xd800 + (c - 0x10000) / 0x400 ≡ high = omega (arith, e, h.0, l.0, l.1) in
    let second : 0xdc00 + (c - 0x10000) % 0x400 ≡ low = omega (arith, e, h.0, l.0, l.1) in
    grind (arith, common_steps)

-- The characters read so far: they are scalars, they spell the bytes up to a place, and they are the text.
abbrev pub Read : List ℕ → ℕ → List ℕ → Type 0
Read bytes at text = (cs : List ℕ) × (all_scalars cs ≡ true) × (utf16_of cs ≡ take at bytes) × (encode_utf8_all cs ≡ text)

pub scalars_more : (cs : List ℕ) (c : ℕ) → all_scalars cs ≡ true → IsScalar c → all_scalars (cs ++ c ∷ []) ≡ true
scalars_more [] c all one = grind (arith, common_steps)
scalars_more (x ∷ xs) c all one = grind (arith, common_steps, scalars_more xs c)

pub read_more : (bytes : List ℕ) (at end : ℕ) (text more : List ℕ) (c : ℕ) → Read bytes at text → IsScalar c
    → take end bytes ≡ take at bytes ++ units_of c → more ≡ text ++ encode_utf8 c → Read bytes end more
read_more bytes at end text more c (cs, all, units, is) one spelled e = (
  cs ++ c ∷ [],
  scalars_more cs c all one,
  flat_map-append units_of cs (c ∷ []) ∙ ap (λ (x : List ℕ). utf16_of cs ++ x) (append-nil (units_of c))
      ∙ ap (λ (x : List ℕ). x ++ units_of c) units ∙ sym spelled,
  encodes-append cs (c ∷ []) ∙ ap (λ (x : List ℕ). encode_utf8_all cs ++ x) (append-nil (encode_utf8 c))
      ∙ ap (λ (x : List ℕ). x ++ encode_utf8 c) is ∙ sym e,
)

pub read_all : (bytes : List ℕ) (at : ℕ) (text : List ℕ) → Read bytes at text → length bytes ≤ at → utf16 text ≡ bytes
unfolding utf16
read_all bytes at text (cs, all, units, is) past =
    ap utf16_of (ap chars (sym is) ∙ chars-encodes cs all) ∙ units ∙ take_all at bytes past
