-- Numbers of a made line read back.
use Rattle.std.proofs.Common.{◌≡◌, ℕ, ◌<◌, ◌≤◌, ◌^◌, ◌==◌, Bool, true, false, not, ◌&&◌, ◌||◌, if◌then◌else◌, nat_le}
use Rattle.std.proofs.Common.{nat_lt, zero, suc, List, ◌∷◌}
use Rattle.std.proofs.Common.{length, slice_index, Option, Some, None, Result, Ok, Err, refl, sym, subst, ap, ◌∙◌, arith, rules}
use Rattle.std.specs.Char.{is_ascii_digit}
use Rattle.std.specs.Fmt.{decimal}
use Rattle.std.specs.List.{list_all}
use Rattle.std.specs.Str.Parse.{digits_value}
use Rattle.std.proofs.lemmas.Bool.{le-leb, lt-ltb, or_right}
use Rattle.std.proofs.lemmas.Fmt.{decimal_digit, decimal_is_IsNumeral, digits_decimal, first_decimal}
use Rattle.std.proofs.lemmas.Grind.{common_steps}
use Rattle.std.proofs.lemmas.Str.Parse.{IsNumeralModel, numerals_by_value}
use Rattle.script_words.specs.Numbers.{is_numeral, number_to}
use Rattle.script_words.specs.Outcome.{◌>>=◌}
use Rattle.script_words.specs.Parts.{Reading, create, create_named, create_of, given_by, number, word}
use Rattle.script_words.specs.declared.values.Code.TheVariants.{BadLine}

-- ---- a reading in two steps

pub then_is : {A B E : Type 0} (r : Result A E) (f : A → Result B E) (x : A) (y : Result B E) → r ≡ Ok x → f x ≡ y → (r >>= f) ≡ y
then_is {A} {B} {E} r f x y e h = ap (λ (q : Result A E). q >>= f) e ∙ h

full : (b : Bool) (w : List ℕ) (rest : List (List ℕ)) (r : Reading (List ℕ)) → b ≡ false → r ≡ Ok (w, rest)
    → (if b then Err BadLine else r) ≡ Ok (w, rest)
full true w rest r e h = absurd cc
full false w rest r e h = h

not_none : (n : ℕ) → 0 < n → (n == 0) ≡ false
not_none n h = grind (arith, common_steps)

pub word_read : (w : List ℕ) (rest : List (List ℕ)) → 0 < length w → word (w ∷ rest) ≡ Ok (w, rest)
word_read w rest h = full (length w == 0) w rest (Ok (w, rest)) (not_none (length w) h) refl

-- ---- a decimal number

own : IsNumeralModel (λ (digits : List ℕ). list_all is_ascii_digit digits ≡ true) (digits_value 10)
own = numerals_by_value (λ (digits : List ℕ). list_all is_ascii_digit digits ≡ true) (search rules)

no_zero : (c : ℕ) → 48 < c → not (c == 48) ≡ true
no_zero c h = grind (arith, common_steps)

begins_well : (n : ℕ) → n < 2 ^ 64 → (length (decimal n) == 1 || not (slice_index (decimal n) 0 == 48)) ≡ true
begins_well zero h = subst (λ (ds : List ℕ). (length ds == 1 || not (slice_index ds 0 == 48)) ≡ true) (sym (decimal_digit 0 (omega
    arith))) refl
begins_well (suc m) h =
    let some : 0 < suc m = omega arith in
    or_right (length (decimal (suc m)) == 1) (not (slice_index (decimal (suc m)) 0 == 48))
    (no_zero (slice_index (decimal (suc m)) 0) (first_decimal (suc m) some h))

three : (a b c : Bool) → a ≡ true → b ≡ true → c ≡ true → (a && b && c) ≡ true
three true true true p q r = refl
three true true false p q r = absurd cc
three true false c p q r = absurd cc
three false b c p q r = absurd cc

pub some_digits : (n : ℕ) → n < 2 ^ 64 → 0 < length (decimal n)
some_digits n h = (decimal_is_IsNumeral n h).0.0

is_numeral_of : (n : ℕ) → n < 2 ^ 64 → is_numeral (decimal n) ≡ true
is_numeral_of n h =
    three (nat_lt 0 (length (decimal n))) (list_all is_ascii_digit (decimal n))
    (length (decimal n) == 1 || not (slice_index (decimal n) 0 == 48)) (lt-ltb _ _ (some_digits n h)) (digits_decimal own n h)
    (begins_well n h)

tells : (b c : Bool) (v n : ℕ) → b ≡ true → c ≡ true → v ≡ n → (if b && c then Some v else None) ≡ Some n
tells true true v n p q e = ap Some e
tells true false v n p q e = absurd cc
tells false c v n p q e = absurd cc

pub number_back : (limit n : ℕ) → n ≤ limit → n < 2 ^ 64 → number_to limit (decimal n) ≡ Some n
number_back limit n few h =
    let is : digits_value 10 (decimal n) ≡ n = (decimal_is_IsNumeral n h).1 in
    let within : digits_value 10 (decimal n) ≤ limit = subst (λ (v : ℕ). v ≤ limit) (sym is) few in
    tells (is_numeral (decimal n)) (nat_le (digits_value 10 (decimal n)) limit) (digits_value 10 (decimal n)) n (is_numeral_of n h)
    (le-leb _ _ within) is

pub number_read : (limit n : ℕ) (rest : List (List ℕ)) → n ≤ limit → n < 2 ^ 64 → number limit (decimal n ∷ rest) ≡ Ok (n, rest)
unfolding number
number_read limit n rest few h =
    then_is (word (decimal n ∷ rest)) (λ (first : List ℕ × List (List ℕ)). given_by (number_to limit first.0) first.1)
    (decimal n, rest) (Ok (n, rest)) (word_read (decimal n) rest (some_digits n h))
    (ap (λ (o : Option ℕ). given_by o rest) (number_back limit n few h))

-- the number of a create
pub create_read : (creates : List Bool) (n : ℕ) (rest : List (List ℕ)) → n ≤ 1_048_576 → create_named creates n ≡ Some n
    → create creates (decimal n ∷ rest) ≡ Ok (n, rest)
unfolding create
create_read creates n rest few named =
    let h : n < 2 ^ 64 = omega (arith, few) in
    then_is (word (decimal n ∷ rest))
    (λ (first : List ℕ × List (List ℕ)). given_by (create_of creates (number_to 1_048_576 first.0)) first.1)
    (decimal n, rest) (Ok (n, rest)) (word_read (decimal n) rest (some_digits n h))
    (ap (λ (o : Option ℕ). given_by (create_of creates o) rest) (number_back 1_048_576 n few h)
    ∙ ap (λ (o : Option ℕ). given_by o rest) named)
