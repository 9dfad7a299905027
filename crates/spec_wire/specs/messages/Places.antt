-- Numbers in bytes, the lowest byte first (MS-SMB2 2.2), and places in a list of bytes, counted from 0.
use Rattle.std.specs.Prelude.{ℕ, zero, suc, ◌+◌, ◌-◌, ◌*◌, ◌/◌, ◌%◌, List, [], ◌∷◌, take, drop}

-- the number that bytes spell
unfoldable pub number_of : List ℕ → ℕ
number_of [] = 0
number_of (b ∷ bs) = b + 256 * number_of bs

-- the lowest w bytes of n
unfoldable pub le : ℕ → ℕ → List ℕ
le zero n = []
le (suc w) n = (n % 256) ∷ le w (n / 256)

-- the w bytes of m from a place on
unfoldable pub bytes_at : ℕ → List ℕ → ℕ → List ℕ
bytes_at w m at = take w (drop at m)

-- the number of w bytes at a place
abbrev pub number : ℕ → List ℕ → ℕ → ℕ
number w m at = number_of (bytes_at w m at)

-- how many bytes lie between a place and the next multiple of 8
abbrev pub gap_to_8 : ℕ → ℕ
gap_to_8 at = (8 - at % 8) % 8
