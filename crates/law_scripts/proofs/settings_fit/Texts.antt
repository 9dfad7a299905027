-- How long a text of so many characters is.
use Rattle.std.proofs.Common.{◌≡◌, ℕ, ◌+◌, ◌*◌, ◌/◌, ◌<◌, ◌≤◌, Bool, true, false, cond, nat_lt, nat_le, ◌==◌, List, [], ◌∷◌, ◌++◌, length}
use Rattle.std.proofs.Common.{fold, chars, encode_utf8_all, IsUtf8, refl, subst, ◌∙◌, arith, length-append}
use Rattle.std.proofs.lemmas.Bool.{and_parts, or_parts}
use Rattle.std.proofs.lemmas.Grind.{common_steps}
use Rattle.std.proofs.lemmas.Str.{encodes-chars, IsUtf8-append, IsUtf8-nil}
use Rattle.std.specs.List.{list_any}
use lib.Utf8.{encode}
use Rattle.spec_commands.specs.BodyOf.{host}
use Rattle.law_commands.specs.commands.Fitting.{HasNoBackslash, IsFittingName}
use Rattle.law_commands.proofs.commands.Limits.{ascii_then, below}
use Rattle.law_commands.proofs.commands.PathLength.{sum_append, utf16_few}
use Rattle.spec_exchange.specs.Texts.{units_of, utf16_length}
use Rattle.script_words.specs.Parts.{begins_character, characters, is_ascii}
use Rattle.law_ties.specs.wire_facts.Fitting.{AllAscii, IsPassword, IsUserName}

-- ---- characters are counted by their first bytes

counted_from : (n : ℕ) (xs : List ℕ) → fold (λ a x. a + begins_character x) n xs ≡ n + fold (λ a x. a + begins_character x) 0 xs
counted_from n [] = omega arith
counted_from n (x ∷ xs) = counted_from (n + begins_character x) xs ∙ omega (arith, counted_from (0 + begins_character x) xs)

counted_on : (n : ℕ) (xs ys : List ℕ)
    → fold (λ a x. a + begins_character x) n (xs ++ ys) ≡ fold (λ a x. a + begins_character x)
    (fold (λ a x. a + begins_character x) n xs) ys
counted_on n [] ys = refl
counted_on n (x ∷ xs) ys = counted_on (n + begins_character x) xs ys

characters_on : (xs ys : List ℕ) → characters (xs ++ ys) ≡ characters xs + characters ys
unfolding characters
characters_on xs ys = counted_on 0 xs ys ∙ counted_from (fold (λ a x. a + begins_character x) 0 xs) ys

front_counts : (x : ℕ) (xs : List ℕ) → begins_character x ≤ characters (x ∷ xs)
unfolding characters
front_counts x xs = omega (arith, counted_from (0 + begins_character x) xs)

low_begins : (b : ℕ) → b < 128 → 1 ≤ begins_character b
unfolding begins_character
low_begins b small = grind (arith, common_steps)

high_begins : (b : ℕ) → 192 ≤ b → 1 ≤ begins_character b
unfolding begins_character
high_begins b big = grind (arith, common_steps)

-- ---- a character's bytes begin one character, and are four at most

first_begins : (x y z : Bool) (p q r s : ℕ) (ps qs rs ss : List ℕ) → (x ≡ true → 1 ≤ begins_character p)
    → 1 ≤ begins_character q → 1 ≤ begins_character r
    → 1 ≤ begins_character s → 1 ≤ characters (cond x (p ∷ ps) (cond y (q ∷ qs) (cond z (r ∷ rs) (s ∷ ss))))
first_begins true y z p q r s ps qs rs ss a b c d = omega (arith, a refl, front_counts p ps)
first_begins false true z p q r s ps qs rs ss a b c d = omega (arith, b, front_counts q qs)
first_begins false false true p q r s ps qs rs ss a b c d = omega (arith, c, front_counts r rs)
first_begins false false false p q r s ps qs rs ss a b c d = omega (arith, d, front_counts s ss)

one_counts : (c : ℕ) → 1 ≤ characters (encode c)
unfolding encode
one_counts c = first_begins (nat_lt c 128) _ _ c _ _ _ _ _ _ _ (λ e. low_begins c (below c 128 e)) (high_begins (192 + c / 64)
    (omega arith)) (high_begins (224 + c / 4096) (omega arith)) (high_begins (240 + c / 262144) (omega arith))

all_count : (cs : List ℕ) → length cs ≤ characters (encode_utf8_all cs)
all_count [] = omega arith
all_count (c ∷ cs) = omega (arith, characters_on (encode c) (encode_utf8_all cs), one_counts c, all_count cs)

four_at_most : (x y z : Bool) (a b b2 c c2 c3 d d2 d3 d4 : ℕ)
    → length (cond x (a ∷ []) (cond y (b ∷ b2 ∷ []) (cond z (c ∷ c2 ∷ c3 ∷ []) (d ∷ d2 ∷ d3 ∷ d4 ∷ [])))) ≤ 4
four_at_most true y z a b b2 c c2 c3 d d2 d3 d4 = omega arith
four_at_most false true z a b b2 c c2 c3 d d2 d3 d4 = omega arith
four_at_most false false true a b b2 c c2 c3 d d2 d3 d4 = omega arith
four_at_most false false false a b b2 c c2 c3 d d2 d3 d4 = omega arith

one_short : (c : ℕ) → length (encode c) ≤ 4
unfolding encode
one_short c = four_at_most (nat_lt c 128) (nat_lt c 2048) (nat_lt c 65536) _ _ _ _ _ _ _ _ _ _

all_short : (cs : List ℕ) → length (encode_utf8_all cs) ≤ 4 * length cs
all_short [] = omega arith
all_short (c ∷ cs) = omega (arith, length-append (encode c) (encode_utf8_all cs), one_short c, all_short cs)

-- a text has at most four bytes a character
pub four_each : (t : List ℕ) → IsUtf8 t → length t ≤ 4 * characters t
four_each t is =
    let count : length (chars t) ≤ characters t = subst (λ (l : List ℕ). length (chars t) ≤ characters l) (encodes-chars t is)
    (all_count (chars t)) in
    let short : length t ≤ 4 * length (chars t) = subst (λ (l : List ℕ). length l ≤ 4 * length (chars t)) (encodes-chars t is)
    (all_short (chars t)) in
    omega (arith, count, short)

-- ---- ASCII: a byte a character

pub all_ascii : (t : List ℕ) → is_ascii t ≡ true → AllAscii t
all_ascii [] e = tt
all_ascii (b ∷ bs) e = let p = and_parts (nat_lt b 128) (is_ascii bs) e in (below b 128 p.0, all_ascii bs p.1)

pub ascii_text : (t : List ℕ) → AllAscii t → IsUtf8 t
ascii_text [] a = IsUtf8-nil
ascii_text (b ∷ bs) a = ascii_then b bs a.0 (ascii_text bs a.1)

none_counted : characters [] ≡ 0
unfolding characters
none_counted = refl

pub one_each : (t : List ℕ) → AllAscii t → length t ≤ characters t
one_each [] a = omega arith
one_each (b ∷ bs) a = omega (arith, characters_on (b ∷ []) bs, front_counts b [], low_begins b a.0, one_each bs a.1)

pub name_fits : (t : List ℕ) → AllAscii t → characters t ≤ 256 → IsUserName t
name_fits t a few = record { ascii = a; short = omega (arith, one_each t a, few) }

pub password_fits : (t : List ℕ) → IsUtf8 t → characters t ≤ 256 → IsPassword t
password_fits t is few = record { utf8 = is; short = omega (arith, four_each t is, few) }

-- ---- a share's name, behind the host's

weight_few : (x y z : Bool) → cond x 2 (cond y 1 (cond z 0 1)) ≤ 2
weight_few true y z = omega arith
weight_few false true z = omega arith
weight_few false false true = omega arith
weight_few false false false = omega arith

one_double : (x : ℕ) → utf16_length (x ∷ []) ≤ 2
unfolding utf16_length units_of
one_double x = omega (arith, weight_few (nat_le 240 x) (nat_le 192 x) (nat_le 128 x))

no_units : utf16_length [] ≡ 0
unfolding utf16_length
no_units = refl

all_double : (t : List ℕ) → utf16_length t ≤ 2 * length t
all_double [] = omega (arith, no_units)
all_double (x ∷ xs) = omega (arith, sum_append (x ∷ []) xs, one_double x, all_double xs)

host_ascii : AllAscii host
host_ascii = all_ascii host refl

pub plain : (t : List ℕ) → list_any (λ byte. byte == 92) t ≡ false → HasNoBackslash t
plain [] e = tt
plain (c ∷ cs) e = let p = or_parts (c == 92) (list_any (λ (byte : ℕ). byte == 92) cs) e in (p.0, plain cs p.1)

pub record IsShare (name : List ℕ) : Type 0 where
  pub fits : IsFittingName (host ++ name)
  pub plain_name : HasNoBackslash name

pub share_fits : (t : List ℕ) → IsUtf8 t → characters t ≤ 256 → HasNoBackslash t → IsShare t
share_fits t is few bare =
    let whole : IsUtf8 (host ++ t) = IsUtf8-append host t (ascii_text host host_ascii) is in
    record {
      fits = record {
        utf8 = whole;
        short = omega (arith, utf16_few (host ++ t) whole, all_double (host ++ t), length-append host t, four_each t is, few);
      };
      plain_name = bare;
    }
