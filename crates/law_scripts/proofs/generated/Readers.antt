-- The other parts of a made line read back.
use Rattle.std.proofs.Common.{◌≡◌, ℕ, ◌-◌, ◌*◌, ◌<◌, ◌≤◌, ◌^◌, Bool, true, false, not, if◌then◌else◌, nat_le, List, [], ◌∷◌, length, codes}
use Rattle.std.proofs.Common.{Result, Ok, Err, refl, ap, ◌∙◌, arith}
use Rattle.std.specs.Fmt.{decimal}
use Rattle.std.specs.Int.{w32, to_le_bytes}
use Rattle.std.specs.Str.{bytes_eq, is_utf8}
use Rattle.std.proofs.lemmas.Bool.{and_right, le-leb}
use Rattle.std.proofs.lemmas.Fmt.{length-decimal-le}
use Rattle.spec_exchange.specs.Texts.{units_of, utf16_length}
use Rattle.law_commands.proofs.commands.PathLength.{sum_append}
use Rattle.hex.specs.Hex.{decode_of, encode_lower, encode_with}
use Rattle.hex.proofs.HexLemmas.{decode_of-encode_lower}
use Rattle.hex.proofs.OnLiterals.{hex_on_literals}
use Rattle.script_words.specs.Parts.{byte, bytes, bytes_of, decoded_to, number, path, path_of, said_by, word}
use Rattle.script_words.specs.declared.values.Code.{Code}
use Rattle.script_words.specs.declared.values.Code.TheVariants.{BadLine, TooLong}
use Rattle.law_scripts.proofs.generated.Bytes.{Within, decimal_within, is_text, word_bytes}
use Rattle.law_scripts.proofs.generated.Numbers.{then_is, word_read}

-- ---- literals

pub at_start : (rest : List (List ℕ)) → number (2 ^ 64 - 1) (codes "0" ∷ rest) ≡ Ok (0, rest)
unfolding number
at_start rest = refl

pub ten_long : (rest : List (List ℕ)) → number (2 ^ 64 - 1) (codes "10" ∷ rest) ≡ Ok (10, rest)
unfolding number
ten_long rest = refl

pub hundred_long : (rest : List (List ℕ)) → number (2 ^ 64 - 1) (codes "100" ∷ rest) ≡ Ok (100, rest)
unfolding number
hundred_long rest = refl

pub fifty_long : (rest : List (List ℕ)) → number 1_048_577 (codes "50" ∷ rest) ≡ Ok (50, rest)
unfolding number
fifty_long rest = refl

pub two_hundred : (rest : List (List ℕ)) → number 1_048_577 (codes "200" ∷ rest) ≡ Ok (200, rest)
unfolding number
two_hundred rest = refl

pub first_connection : (rest : List (List ℕ)) → number 255 (codes "0" ∷ rest) ≡ Ok (0, rest)
unfolding number
first_connection rest = refl

pub letter_read : (rest : List (List ℕ)) → byte (codes "61" ∷ rest) ≡ Ok (0x61, rest)
unfolding byte hex_on_literals
letter_read rest = refl

-- ---- the bytes of a word

some_bytes : (b : Bool) (text held : List ℕ) (limit : ℕ) → b ≡ false → decode_of text ≡ Ok held → length held ≤ limit
    → (if b then Ok [] else decoded_to limit (decode_of text)) ≡ Ok held
some_bytes true text held limit e d h = absurd cc
some_bytes false text held limit e d h =
    ap (decoded_to limit) d ∙ fits (nat_le (length held) limit) held (le-leb _ _ h)
  where
    fits : (b : Bool) (held : List ℕ) → b ≡ true → (if b then Ok held else Err TooLong) ≡ Ok held
    fits true held e = refl
    fits false held e = absurd cc

-- eight digits aren't the sign for none
not_none : (n : ℕ) → bytes_eq (encode_lower (to_le_bytes w32 n)) (codes "-") ≡ false
unfolding encode_with
not_none n = and_right _ false refl

eight : (n : ℕ) → 0 < length (encode_lower (to_le_bytes w32 n))
unfolding encode_with
eight n = omega arith

four : (n : ℕ) → length (to_le_bytes w32 n) ≤ 1_048_577
four n = omega arith

pub word_bytes_read : (n : ℕ) (rest : List (List ℕ))
    → bytes 1_048_577 (encode_lower (to_le_bytes w32 n) ∷ rest) ≡ Ok (to_le_bytes w32 n, rest)
unfolding bytes
word_bytes_read n rest =
    then_is (word (encode_lower (to_le_bytes w32 n) ∷ rest)) (λ (first : List ℕ × List (List ℕ)). said_by (bytes_of 1_048_577
    first.0) first.1)
    (encode_lower (to_le_bytes w32 n), rest) (Ok (to_le_bytes w32 n, rest)) (word_read (encode_lower (to_le_bytes w32 n)) rest (eight n))
    (ap (λ (r : Result (List ℕ) Code). said_by r rest) (some_bytes (bytes_eq (encode_lower (to_le_bytes w32 n)) (codes "-"))
    (encode_lower (to_le_bytes w32 n)) (to_le_bytes w32 n) 1_048_577 (not_none n)
    (decode_of-encode_lower (to_le_bytes w32 n) (word_bytes n))
    (four n)))

-- ---- a file's name

weight_few : (x y z : Bool) → (if x then 2 else if y then 1 else if z then 0 else 1) ≤ 2
weight_few true y z = omega arith
weight_few false true z = omega arith
weight_few false false true = omega arith
weight_few false false false = omega arith

one_double : (x : ℕ) → utf16_length (x ∷ []) ≤ 2
unfolding utf16_length units_of
one_double x = omega (arith, weight_few (nat_le 240 x) (nat_le 192 x) (nat_le 128 x))

no_units : utf16_length [] ≡ 0
unfolding utf16_length
no_units = refl

all_double : (t : List ℕ) → utf16_length t ≤ 2 * length t
all_double [] = omega (arith, no_units)
all_double (x ∷ xs) = omega (arith, sum_append (x ∷ []) xs, one_double x, all_double xs)

short_path : (a b : Bool) (text : List ℕ) → a ≡ true → b ≡ true
    → (if not a then Err BadLine else if b then Ok text else Err TooLong) ≡ Ok text
short_path true true text e f = refl
short_path true false text e f = absurd cc
short_path false b text e f = absurd cc

name_within : (file : ℕ) → file < 2 ^ 32 → Within 33 (102 ∷ decimal file)
name_within file h = (omega arith, omega arith, decimal_within file (omega (arith, h)))

name_short : (file : ℕ) → file < 2 ^ 32 → utf16_length (102 ∷ decimal file) ≤ 1024
name_short file h =
    let few : length (decimal file) ≤ 10 = length-decimal-le 10 file (omega arith) (omega (arith, h)) (omega (arith, h)) in
    omega (arith, all_double (102 ∷ decimal file), few)

pub name_read : (file : ℕ) (rest : List (List ℕ)) → file < 2 ^ 32 → path ((102 ∷ decimal file) ∷ rest) ≡ Ok (102 ∷ decimal file, rest)
unfolding path
name_read file rest h =
    then_is (word ((102 ∷ decimal file) ∷ rest)) (λ (first : List ℕ × List (List ℕ)). said_by (path_of first.0) first.1)
    (102 ∷ decimal file, rest) (Ok (102 ∷ decimal file, rest)) (word_read (102 ∷ decimal file) rest (omega arith))
    (ap (λ (r : Result (List ℕ) Code). said_by r rest) (short_path (is_utf8 (102 ∷ decimal file)) (nat_le (utf16_length (102
    ∷ decimal file)) 1024) (102 ∷ decimal file) (is_text 33 (102 ∷ decimal file) (name_within file h)) (le-leb _ _ (name_short file h))))
