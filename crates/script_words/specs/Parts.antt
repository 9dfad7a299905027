-- The parts of a line: words, numbers, bytes, paths and names. The first faulty word from the left decides.
use Rattle.std.specs.Prelude.{ℕ, ◌-◌, ◌==◌, nat_le, nat_lt, Bool, false, not, ◌&&◌, ◌||◌, if◌then◌else◌, List, [], ◌∷◌, length, codes}
use Rattle.std.specs.Prelude.{slice_index_or, get_or, sum_by, Option, Some, None, Result, Ok, Err}
use Rattle.std.specs.List.{list_all}
use Rattle.std.specs.Str.{bytes_eq, is_utf8}
use Rattle.hex.specs.Hex.{decode_of, decode_sized}
use Rattle.hex.specs.declared.error.FromHexError.{FromHexError}
use Rattle.spec_exchange.specs.Texts.{utf16_length}
use Rattle.script_words.specs.Numbers.{number_to}
use Rattle.script_words.specs.Outcome.{◌>>=◌}
use Rattle.script_words.specs.declared.values.Code.{Code}
use Rattle.script_words.specs.declared.values.Code.TheVariants.{BadLine, TooLong}

-- A reading: what the front of the words says, and the words behind it.
abbrev pub Reading : Type 0 → Type 0
Reading A = Result (A × List (List ℕ)) Code

-- Words are divided by one space: two spaces in a row, or one at an end, make an empty word, which no line may have.
abbrev pub word : List (List ℕ) → Reading (List ℕ)
word [] = Err BadLine
word (first ∷ more) = if length first == 0 then Err BadLine else Ok (first, more)

-- what a word gives, and the words behind it
abbrev pub given_by : {A : Type 0} → Option A → List (List ℕ) → Reading A
given_by None more = Err BadLine
given_by (Some x) more = Ok (x, more)

abbrev pub said_by : {A : Type 0} → Result A Code → List (List ℕ) → Reading A
said_by (Ok x) more = Ok (x, more)
said_by (Err code) more = Err code

-- ---- numbers

-- a number up to a limit
unfoldable pub number : ℕ → List (List ℕ) → Reading ℕ
number limit words = do
  first ← word words
  given_by (number_to limit first.0) first.1

-- the number of an earlier create: of each operation so far it is told whether it is one
abbrev pub create_named : List Bool → ℕ → Option ℕ
create_named creates n =
    if n == 0 || nat_lt (length creates) n then None
    else if slice_index_or creates (n - 1) false then Some n
    else None

abbrev pub create_of : List Bool → Option ℕ → Option ℕ
create_of creates None = None
create_of creates (Some n) = create_named creates n

unfoldable pub create : List Bool → List (List ℕ) → Reading ℕ
create creates words = do
  first ← word words
  given_by (create_of creates (number_to 1_048_576 first.0)) first.1

-- ---- bytes

-- bytes up to a count: what is no hex is a bad line, and what is hex past the count is too long
abbrev pub decoded_to : ℕ → Result (List ℕ) FromHexError → Result (List ℕ) Code
decoded_to limit (Ok held) = if nat_le (length held) limit then Ok held else Err TooLong
decoded_to limit (Err e) = Err BadLine

-- two hex digits a byte, in both cases, and `-` for no bytes
abbrev pub bytes_of : ℕ → List ℕ → Result (List ℕ) Code
bytes_of limit text = if bytes_eq text (codes "-") then Ok [] else decoded_to limit (decode_of text)

unfoldable pub bytes : ℕ → List (List ℕ) → Reading (List ℕ)
bytes limit words = do
  first ← word words
  said_by (bytes_of limit first.0) first.1

-- one byte: exactly two hex digits
abbrev pub one_of : Result (List ℕ) FromHexError → Option ℕ
one_of (Ok held) = Some (get_or held 0 0)
one_of (Err e) = None

unfoldable pub byte : List (List ℕ) → Reading ℕ
byte words = do
  first ← word words
  given_by (one_of (decode_sized first.0 1)) first.1

-- ---- texts

-- a path of at most 1,024 UTF-16 units; the server judges its form
abbrev pub path_of : List ℕ → Result (List ℕ) Code
path_of text = if not (is_utf8 text) then Err BadLine else if nat_le (utf16_length text) 1024 then Ok text else Err TooLong

unfoldable pub path : List (List ℕ) → Reading (List ℕ)
path words = do
  first ← word words
  said_by (path_of first.0) first.1

-- a byte of UTF-8 that begins a character
unfoldable pub begins_character : ℕ → ℕ
begins_character b = if nat_le 128 b && nat_le b 191 then 0 else 1

unfoldable pub characters : List ℕ → ℕ
characters text = sum_by begins_character text

-- a text of at most 256 characters
abbrev pub short_text : List ℕ → Result (List ℕ) Code
short_text text = if not (is_utf8 text) then Err BadLine else if nat_le (characters text) 256 then Ok text else Err TooLong

abbrev pub is_ascii : List ℕ → Bool
is_ascii text = list_all (λ byte. nat_lt byte 128) text
