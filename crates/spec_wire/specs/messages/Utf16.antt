-- Text in UTF-16, the lower byte of each unit first (RFC 2781; names and paths of MS-SMB2). A text is the list of
-- its UTF-8 bytes.
use Rattle.std.specs.Prelude.{◌≡◌, ℕ, ◌+◌, ◌-◌, ◌/◌, ◌%◌, ◌<◌, ◌≤◌, ◌⊎◌, true, nat_lt, if◌then◌else◌, List, ◌++◌}
use Rattle.std.specs.Prelude.{length, take, Result, Ok, Err, ⊤, chars, flat_map}
use Rattle.std.specs.Str.{all_scalars}
use Rattle.spec_wire.specs.messages.Places.{le, number}
use Rattle.spec_wire.specs.declared.messages.refusal.TextError.{TextError}
use Rattle.spec_wire.specs.declared.messages.refusal.TextError.TheVariants as errors

-- a character below 10000 is one unit, any other one a high and a low surrogate
abbrev pub units_of : ℕ → List ℕ
units_of c = if nat_lt c 0x10000 then le 2 c else le 2 (0xd800 + (c - 0x10000) / 0x400) ++ le 2 (0xdc00 + (c - 0x10000) % 0x400)

abbrev pub utf16_of : List ℕ → List ℕ
utf16_of characters = flat_map units_of characters

unfoldable pub utf16 : List ℕ → List ℕ
utf16 text = utf16_of (chars text)

abbrev pub IsHigh : ℕ → Type 0
IsHigh unit = (0xd800 ≤ unit) × (unit < 0xdc00)

abbrev pub IsLow : ℕ → Type 0
IsLow unit = (0xdc00 ≤ unit) × (unit < 0xe000)

-- a low surrogate stands there, or a high one that no low one follows
abbrev pub IsLone : List ℕ → ℕ → Type 0
IsLone bytes at = IsLow (number 2 bytes at) ⊎ IsHigh (number 2 bytes at) × (IsLow (number 2 bytes (at + 2)) → ⊥)

-- the bytes before a unit are characters
abbrev pub IsReadTo : List ℕ → ℕ → Type 0
IsReadTo bytes at = (cs : List ℕ) × (all_scalars cs ≡ true) × (utf16_of cs ≡ take at bytes) × (at + 2 ≤ length bytes)

-- an odd number of bytes, or the first surrogate without a partner
abbrev pub BreaksUtf16 : List ℕ → TextError → Type 0
BreaksUtf16 bytes errors.Memory = ⊤
BreaksUtf16 bytes (errors.OddLength n) = (n ≡ length bytes) × (n % 2 ≡ 1)
BreaksUtf16 bytes (errors.LoneSurrogate at) = (length bytes % 2 ≡ 0) × IsReadTo bytes at × IsLone bytes at

-- what a reader answered: the text that the bytes spell, or the first break
abbrev pub ReadsUtf16 : List ℕ → Result (List ℕ) TextError → Type 0
ReadsUtf16 bytes (Ok text) = utf16 text ≡ bytes
ReadsUtf16 bytes (Err e) = BreaksUtf16 bytes e
