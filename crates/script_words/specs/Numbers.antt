-- Decimal numbers of a script.
use Rattle.std.specs.Prelude.{ℕ, ◌==◌, ◌&&◌, ◌||◌, not, nat_lt, nat_le, Bool, if◌then◌else◌, List, length, slice_index, Option, Some, None}
use Rattle.std.specs.Char.{is_ascii_digit}
use Rattle.std.specs.List.{list_all}
use Rattle.std.specs.Str.Parse.{digits_value}

-- decimal digits, one at least, without a leading zero but in `0` itself
abbrev pub is_numeral : List ℕ → Bool
is_numeral word = nat_lt 0 (length word) && list_all is_ascii_digit word && (length word == 1 || not (slice_index word 0 == 48))

-- the number that a word spells, where it is at most the limit
abbrev pub number_to : ℕ → List ℕ → Option ℕ
number_to limit word = if is_numeral word && nat_le (digits_value 10 word) limit then Some (digits_value 10 word) else None
