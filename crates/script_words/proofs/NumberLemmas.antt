-- A numeral is ASCII text that `parse` takes.
use Rattle.std.proofs.Common.{◌≡◌, ◌≢◌, ℕ, ◌^◌, ◌<◌, List, [], ◌∷◌, length, get_or, refl, arith, rules, Bool, true, false, nat_lt}
use Rattle.std.specs.Prelude.{◌&&◌, ◌||◌, ◌==◌, not, nat_le, cond, Some, None, slice_index, IsAscii, Result, Ok, Err}
use Rattle.std.specs.Char.{is_ascii_digit}
use Rattle.std.specs.List.{list_all}
use Rattle.std.specs.Result.{OkIff}
use Rattle.std.specs.Str.Parse.{digits_value, ParsesUnsigned}
use Rattle.std.proofs.lemmas.Str.Parse.{IsNumeralModel, numerals_by_value, parse_plain, not_in_digits}
use Rattle.std.specs.Str.{IsUtf8}
use Rattle.std.proofs.lemmas.Bool.{ltb-true}
use Rattle.std.proofs.lemmas.Bool.Decides.{nat_tests}
use Rattle.std.proofs.lemmas.Str.{IsUtf8-from_ascii}
use Rattle.std.proofs.lemmas.Str.Ascii.{IsAscii-nil, IsAscii-cons}
use Rattle.script_words.specs.Numbers.{is_numeral, number_to}

pub own : IsNumeralModel (λ digits. list_all is_ascii_digit digits ≡ true) (digits_value 10)
own = numerals_by_value (λ digits. list_all is_ascii_digit digits ≡ true) (search rules)

all_three : (a b c : Bool) → (a && b && c) ≡ true → (a ≡ true) × (b ≡ true) × (c ≡ true)
all_three true true true h = (refl, refl, refl)
all_three true true false h = cc
all_three true false c h = cc
all_three false b c h = cc

pub digits_of_numeral : (word : List ℕ) → is_numeral word ≡ true → (list_all is_ascii_digit word ≡ true) × (0 < length word)
digits_of_numeral word h =
    let parts = all_three (nat_lt 0 (length word)) (list_all is_ascii_digit word) (length word == 1 || not (slice_index word 0 == 48)) h in
    (parts.1, ltb-true _ _ parts.0)

both : (a b : Bool) → (a && b) ≡ true → (a ≡ true) × (b ≡ true)
both true b h = (refl, h)
both false b h = cc

digit_below : (c : ℕ) → is_ascii_digit c ≡ true → c < 128
digit_below c h = grind (arith, nat_tests)

ascii_digits : (word : List ℕ) → list_all is_ascii_digit word ≡ true → IsAscii word
ascii_digits [] h = IsAscii-nil
ascii_digits (c ∷ cs) h =
    let parts = both (is_ascii_digit c) (list_all is_ascii_digit cs) h in
    IsAscii-cons c cs (digit_below c parts.0) (ascii_digits cs parts.1)

pub numeral_is_text : (word : List ℕ) → is_numeral word ≡ true → IsUtf8 word
numeral_is_text word h = IsUtf8-from_ascii word (ascii_digits word (digits_of_numeral word h).0)

ok_by_last : {E : Type 0} (r : Result ℕ E) (A B C : Type 0) (n : ℕ) → A → B → OkIff r (A × B × C) n → OkIff r C n
ok_by_last (Ok x) A B C n a b h = (h.0.2, h.1)
ok_by_last (Err e) A B C n a b h = λ c. h (a, b, c)

pub parses_numeral : {E : Type 0} (word : List ℕ) (r : Result ℕ E) → is_numeral word ≡ true → ParsesUnsigned 64 10 word
    r → OkIff r (digits_value 10 word < 2 ^ 64) (digits_value 10 word)
parses_numeral word r h parsed =
    let digits = digits_of_numeral word h in
    let no_plus : get_or word 0 0 ≢ 43 = not_in_digits own word 43 digits.0 (λ range. omega arith) 0 digits.1 in
    ok_by_last r _ _ _ _ digits.0 digits.1 (parse_plain own 64 word r parsed no_plus)

no_number : (a : Bool) (n limit : ℕ) → limit < n → None ≡ cond (a && nat_le n limit) (Some n) None
no_number true n limit h = grind (arith, nat_tests)
no_number false n limit h = refl

-- what `parse` refuses of a numeral is past every limit
pub past_every_limit : {E : Type 0} (limit : ℕ) (word : List ℕ) (e : E) → limit < 2 ^ 64 → is_numeral word ≡ true
    → ParsesUnsigned 64 10 word (Err e) → None ≡ number_to limit word
past_every_limit limit word e fits h parsed =
    let wide : ¬ (digits_value 10 word < 2 ^ 64) = parses_numeral word (Err e) h parsed in
    no_number (is_numeral word) (digits_value 10 word) limit (omega (arith, wide))
