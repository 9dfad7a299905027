-- A text in UTF-16 reads back, and a path's is short.
use Rattle.std.proofs.Common.{◌≡◌, ℕ, ◌+◌, ◌-◌, ◌*◌, ◌/◌, ◌%◌, ◌<◌, ◌≤◌, ◌⊎◌, inl, inr, Bool, true, false, ◌&&◌, List}
use Rattle.std.proofs.Common.{[], ◌∷◌, ◌++◌, chars, encode_utf8_all, IsUtf8, Option, Some, None, refl, ap, ◌∙◌, arith}
use Rattle.std.proofs.Common.{append_assoc}
use Rattle.std.specs.Char.{IsScalar, InScalarRange}
use Rattle.std.specs.Char.Utf16.{utf16_chars, lone_unit_char, surrogate_pair_char}
use Rattle.std.specs.Str.{all_scalars}
use Rattle.std.specs.Prelude.{option_map, get_or}
use Rattle.std.proofs.str.Utf16.{IsPair}
use Rattle.std.proofs.lemmas.Bool.{cases_lt}
use Rattle.std.proofs.lemmas.Grind.{common_steps}
use Rattle.std.proofs.lemmas.Str.{scalars-chars, encodes-chars, utf16_chars-nil, utf16_chars_lone, utf16_chars_pair}
use Rattle.spec_wire.specs.messages.Places.{le}
use Rattle.spec_wire.specs.messages.Utf16.{units_of, utf16_of, utf16}
use Rattle.spec_commands.specs.Text.{units_in, all_there, characters_in, text_in}

range_of : (c : ℕ) → IsScalar c → InScalarRange c
range_of c is = grind (arith, common_steps)

high_of : ℕ → ℕ
high_of c = 0xd800 + (c - 0x10000) / 0x400

low_of : ℕ → ℕ
low_of c = 0xdc00 + (c - 0x10000) % 0x400

small_units : (c : ℕ) → c < 0x10000 → units_of c ≡ le 2 c
small_units c small = grind (arith, common_steps)

big_units : (c : ℕ) → 0x10000 ≤ c → units_of c ≡ le 2 (high_of c) ++ le 2 (low_of c)
unfolding high_of low_of
big_units c big = grind (arith, common_steps)

one_unit : (n : ℕ) → n < 0x10000 → n % 256 + 256 * (n / 256 % 256) ≡ n
one_unit n small = omega (arith, small)

-- a unit at the front
unit_in : (n : ℕ) (rest : List ℕ) → n < 0x10000 → units_in (le 2 n ++ rest) ≡ option_map (λ (us : List ℕ). n ∷ us) (units_in rest)
unfolding le units_in
unit_in n rest small = ap (λ (k : ℕ). option_map (λ (us : List ℕ). k ∷ us) (units_in rest)) (one_unit n small)

-- a character of one unit
lone_char : (c : ℕ) → c < 0x10000 → InScalarRange c → lone_unit_char c ≡ Some c
lone_char c small (inl below) = grind (arith, common_steps)
lone_char c small (inr inside) = let low = inside.0 in grind (arith, common_steps)

no_pair : (c v : ℕ) → InScalarRange c → IsPair c v → ⊥
no_pair c v (inl below) pair = let h = pair.0 in omega (arith, below, h)
no_pair c v (inr inside) pair = let low = inside.0 in let h = pair.1 in omega (arith, low, h)

small_char : (c : ℕ) (o : Option (List ℕ)) → c < 0x10000 → InScalarRange c → characters_in (option_map (λ (us : List ℕ).
    c ∷ us) o) ≡ option_map (λ (cs : List ℕ). c ∷ cs) (characters_in o)
unfolding characters_in all_there
small_char c None small range = refl
small_char c (Some us) small range =
    ap all_there (utf16_chars_lone c us (no_pair c (get_or us 0 0) range)) ∙ ap (λ (x : Option ℕ). all_there (x ∷
    utf16_chars us)) (lone_char c small range)

-- a character of two units
pair_of : (c : ℕ) → 0x10000 ≤ c → InScalarRange c → IsPair (high_of c) (low_of c)
unfolding high_of low_of
pair_of c big (inl below) = absurd (omega (arith, big, below))
pair_of c big (inr inside) = let top = inside.1 in (omega arith, omega (arith, top, big), omega arith, omega arith)

pair_char : (c : ℕ) → 0x10000 ≤ c → surrogate_pair_char (high_of c) (low_of c) ≡ c
unfolding high_of low_of
pair_char c big = omega (arith, big)

big_char : (c : ℕ) (o : Option (List ℕ)) → 0x10000 ≤ c → InScalarRange c
    → characters_in (option_map (λ (us : List ℕ). high_of c ∷ us) (option_map (λ (us : List ℕ). low_of c ∷ us) o)) ≡
    option_map (λ (cs : List ℕ). c ∷ cs) (characters_in o)
unfolding characters_in all_there
big_char c None big range = refl
big_char c (Some us) big range =
    ap all_there (utf16_chars_pair (high_of c) (low_of c) us (pair_of c big range)) ∙ ap (λ (x : ℕ). all_there (Some x ∷
    utf16_chars us)) (pair_char c big)

pub char_in : (c : ℕ) (rest : List ℕ) → IsScalar c → characters_in (units_in (units_of c ++ rest)) ≡ option_map (λ (cs :
    List ℕ). c ∷ cs) (characters_in (units_in rest))
char_in c rest is = by_size (cases_lt c 0x10000)
  where
    range : InScalarRange c
    range = range_of c is

    by_size : (c < 0x10000) ⊎ (0x10000 ≤ c) → characters_in (units_in (units_of c ++ rest)) ≡ option_map (λ (cs : List
        ℕ). c ∷ cs) (characters_in (units_in rest))
    by_size (inl small) = ap (λ (l : List ℕ). characters_in (units_in (l ++ rest))) (small_units c small) ∙ ap
        characters_in (unit_in c rest small) ∙ small_char c (units_in rest) small range
    by_size (inr big) =
        let pair = pair_of c big range in
        let high = pair.1 in
        let low = pair.3 in
        ap (λ (l : List ℕ). characters_in (units_in (l ++ rest))) (big_units c big)
        ∙ ap (λ (l : List ℕ). characters_in (units_in l)) (append_assoc (le 2 (high_of c)) (le 2 (low_of c)) rest)
        ∙ ap characters_in (unit_in (high_of c) (le 2 (low_of c) ++ rest) (omega (arith, high)) ∙ ap (option_map (λ (us
        : List ℕ). high_of c ∷ us)) (unit_in (low_of c) rest (omega (arith, low))))
        ∙ big_char c (units_in rest) big range

both : (a b : Bool) → (a && b) ≡ true → (a ≡ true) × (b ≡ true)
both true b e = (refl, e)
both false b e = absurd cc

pub each : (c : ℕ) (cs : List ℕ) → all_scalars (c ∷ cs) ≡ true → IsScalar c × (all_scalars cs ≡ true)
each c cs e = both _ (all_scalars cs) e

nothing_in : characters_in (units_in []) ≡ Some []
unfolding characters_in all_there units_in
nothing_in = ap all_there utf16_chars-nil

all_in : (cs : List ℕ) → all_scalars cs ≡ true → characters_in (units_in (utf16_of cs)) ≡ Some cs
all_in [] e = nothing_in
all_in (c ∷ cs) e = char_in c (utf16_of cs) (each c cs e).0 ∙ ap (option_map (λ (ds : List ℕ). c ∷ ds)) (all_in cs (each c cs e).1)

pub text_again : (t : List ℕ) → IsUtf8 t → text_in (utf16 t) ≡ Some t
unfolding text_in utf16
text_again t is = ap (option_map encode_utf8_all) (all_in (chars t) (scalars-chars t is)) ∙ ap Some (encodes-chars t is)
