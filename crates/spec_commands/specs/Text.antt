-- The text that bytes spell in UTF-16, the lower byte of each unit first (RFC 2781), where they do.
use Rattle.std.specs.Prelude.{ℕ, ◌+◌, ◌*◌, List, [], ◌∷◌, Option, Some, None, option_map, encode_utf8_all}
use Rattle.std.specs.Char.Utf16.{utf16_chars}

-- the units, where the bytes are whole ones
unfoldable pub units_in : List ℕ → Option (List ℕ)
units_in [] = Some []
units_in (low ∷ []) = None
units_in (low ∷ high ∷ rest) = option_map (λ units. (low + 256 * high) ∷ units) (units_in rest)

-- all of them, where all are there
unfoldable pub all_there : List (Option ℕ) → Option (List ℕ)
all_there [] = Some []
all_there (None ∷ rest) = None
all_there (Some x ∷ rest) = option_map (λ xs. x ∷ xs) (all_there rest)

unfoldable pub characters_in : Option (List ℕ) → Option (List ℕ)
characters_in None = None
characters_in (Some units) = all_there (utf16_chars units)

unfoldable pub text_in : List ℕ → Option (List ℕ)
text_in bytes = option_map encode_utf8_all (characters_in (units_in bytes))
