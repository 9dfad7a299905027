-- Elements of DER (X.690 8.1): a tag of one byte, a length and contents. Lengths are read in every definite form of up to four
-- bytes, and written in the shortest.
use Rattle.std.specs.Prelude.{ℕ, ◌+◌, ◌-◌, ◌*◌, ◌/◌, ◌%◌, ◌==◌, nat_lt, Bool, true, ◌&&◌, ◌||◌, if◌then◌else◌, List, []}
use Rattle.std.specs.Prelude.{◌∷◌, ◌++◌, length, take, drop, slice_index, Result, Ok, Err}
use Rattle.spec_crypto.specs.declared.tokens.der.DerError.{DerError}
use Rattle.spec_crypto.specs.declared.tokens.der.DerError.TheVariants.{Truncated, BadTag, BadLength, Trailing}

infixl 10 ◌>>=◌
abbrev pub ◌>>=◌ : {A B : Type 0} → Result A DerError → (A → Result B DerError) → Result B DerError
(Ok x) >>= f = f x
(Err e) >>= f = Err e

-- bytes of a token, and the place of the first of them in it
pub record Piece : Type 0 where
  pub at : ℕ
  pub bytes : List ℕ

abbrev pub whole : List ℕ → Piece
whole token = record { at = 0; bytes = token }

abbrev pub behind : ℕ → Piece → Piece
behind n p = record { at = p.at + n; bytes = drop n p.bytes }

abbrev pub cut : ℕ → ℕ → Piece → Piece
cut from count p = record { at = p.at + from; bytes = take count (drop from p.bytes) }

-- an element's contents, and what stands behind it
pub record Parted : Type 0 where
  pub contents : Piece
  pub rest : Piece

-- the number that n bytes from the second on spell, the highest first
abbrev pub long_length : ℕ → List ℕ → ℕ
long_length n b =
    if n == 1 then slice_index b 1
    else if n == 2 then 256 * slice_index b 1 + slice_index b 2
    else if n == 3 then 65536 * slice_index b 1 + 256 * slice_index b 2 + slice_index b 3
    else 16777216 * slice_index b 1 + 65536 * slice_index b 2 + 256 * slice_index b 3 + slice_index b 4

-- How many bytes the length takes, and the length. A first byte below 128 is the length; 128 and n is followed by n bytes.
unfoldable pub length_in : Piece → Result (ℕ × ℕ) DerError
length_in p =
    if length p.bytes == 0 then Err (Truncated p.at)
    else if nat_lt (slice_index p.bytes 0) 128 then Ok (1, slice_index p.bytes 0)
    else if (slice_index p.bytes 0 == 128) || nat_lt 132 (slice_index p.bytes 0) then Err (BadLength p.at)
    else if nat_lt (length p.bytes) (slice_index p.bytes 0 - 127) then Err (Truncated p.at)
    else Ok (slice_index p.bytes 0 - 127, long_length (slice_index p.bytes 0 - 128) p.bytes)

-- the element with this tag
unfoldable pub element : ℕ → Piece → Result Parted DerError
element tag p =
    if length p.bytes == 0 then Err (Truncated p.at)
    else if slice_index p.bytes 0 == tag then
    (length_in (behind 1 p) >>= λ told.
    if nat_lt (length p.bytes) (1 + told.0 + told.1) then Err (Truncated (p.at + 1))
    else Ok (record { contents = cut (1 + told.0) told.1 p; rest = behind (1 + told.0 + told.1) p }))
    else Err (BadTag p.at (slice_index p.bytes 0))

-- whether an element with this tag comes next
abbrev pub comes : ℕ → Piece → Bool
comes tag p = nat_lt 0 (length p.bytes) && (slice_index p.bytes 0 == tag)

-- nothing is left
unfoldable pub ends : Piece → Result Bool DerError
ends p = if length p.bytes == 0 then Ok true else Err (Trailing p.at)

-- the length in its shortest form
abbrev pub length_bytes : ℕ → List ℕ
length_bytes n =
    if nat_lt n 0x80 then n ∷ []
    else if nat_lt n 0x100 then 0x81 ∷ n ∷ []
    else if nat_lt n 0x1_0000 then 0x82 ∷ (n / 256) ∷ (n % 256) ∷ []
    else if nat_lt n 0x100_0000 then 0x83 ∷ (n / 65536) ∷ (n / 256 % 256) ∷ (n % 256) ∷ []
    else 0x84 ∷ (n / 16777216) ∷ (n / 65536 % 256) ∷ (n / 256 % 256) ∷ (n % 256) ∷ []

unfoldable pub spelled : ℕ → List ℕ → List ℕ
spelled tag contents = tag ∷ (length_bytes (length contents) ++ contents)
