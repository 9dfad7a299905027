-- The bytes of a text in UTF-16 are two for each unit that is counted of its UTF-8.
use Rattle.std.proofs.Common.{◌≡◌, ℕ, ◌+◌, ◌-◌, ◌*◌, ◌/◌, ◌%◌, ◌<◌, ◌≤◌, Bool, true, false, cond, List, [], ◌∷◌, ◌++◌, length}
use Rattle.std.proofs.Common.{chars, encode_utf8_all, refl, ap, subst, ◌∙◌, arith, length-append}
use Rattle.std.specs.Prelude.{nat_lt, if◌then◌else◌}
use Rattle.std.proofs.lemmas.Grind.{common_steps}
use Rattle.std.proofs.lemmas.Bool.Decides.{nat_tests}
use Rattle.std.proofs.lemmas.Str.{encodes-chars}
use lib.Utf8.{encode}
use Rattle.spec_wire.specs.messages.Places.{le}
use Rattle.spec_wire.proofs.messages.Numbers.{length-le}
use Rattle.spec_wire.specs.messages.Utf16.{units_of, utf16_of, utf16}
use Rattle.spec_exchange.specs.Texts.{utf16_length, units_of as weight}
use Rattle.law_commands.proofs.commands.PathLength.{sum_append}
use Rattle.law_commands.specs.lengths.Lengths.{UnitsAreCounted}

-- ---- a byte

weight_one : (b : ℕ) → b < 128 → weight b ≡ 1
unfolding weight
weight_one b l = grind (arith, common_steps)

weight_none : (b : ℕ) → 128 ≤ b → b < 192 → weight b ≡ 0
unfolding weight
weight_none b l h = grind (arith, common_steps)

weight_lead : (b : ℕ) → 192 ≤ b → b < 240 → weight b ≡ 1
unfolding weight
weight_lead b l h = grind (arith, common_steps)

weight_pair : (b : ℕ) → 240 ≤ b → weight b ≡ 2
unfolding weight
weight_pair b l = grind (arith, common_steps)

nothing : utf16_length [] ≡ 0
unfolding utf16_length
nothing = refl

one : (x : ℕ) → utf16_length (x ∷ []) ≡ weight x
unfolding utf16_length
one x = omega arith

more : (x : ℕ) (xs : List ℕ) → utf16_length (x ∷ xs) ≡ weight x + utf16_length xs
more x xs = sum_append (x ∷ []) xs ∙ ap (λ n. n + utf16_length xs) (one x)

-- a byte that continues a character
follows : (n : ℕ) → weight (128 + n % 64) ≡ 0
follows n = weight_none (128 + n % 64) (omega arith) (omega arith)

-- ---- a character

below : (c n : ℕ) → nat_lt c n ≡ true → c < n
below c n e = grind (arith, nat_tests)

above : (c n : ℕ) → nat_lt c n ≡ false → n ≤ c
above c n e = grind (arith, nat_tests)

no_room : {X : Type 0} (c n m : ℕ) → c < n → m ≤ c → n ≤ m → X
no_room c n m l h k = absurd (none c n m l h k)
  where
    none : (c n m : ℕ) → c < n → m ≤ c → n ≤ m → ⊥
    none c n m l h k = omega (arith, l, h, k)

two_long : (c : ℕ) → length (le 2 c) ≡ 2
two_long c = length-le 2 c

four_long : (a b : ℕ) → length (le 2 a ++ le 2 b) ≡ 4
four_long a b = omega (arith, length-append (le 2 a) (le 2 b), length-le 2 a, length-le 2 b)

by_one : (c : ℕ) → c < 128 → 2 ≡ 2 * utf16_length (c ∷ [])
by_one c l = omega (arith, one c, weight_one c l)

by_two : (c : ℕ) → c < 2048 → 2 ≡ 2 * utf16_length ((192 + c / 64) ∷ (128 + c % 64) ∷ [])
by_two c l =
    omega (
      arith,
      more (192 + c / 64) ((128 + c % 64) ∷ []),
      one (128 + c % 64),
      weight_lead (192 + c / 64) (omega arith) (omega (arith, l)),
      follows c,
    )

by_three : (c : ℕ) → c < 65536
    → 2 ≡ 2 * utf16_length ((224 + c / 4096) ∷ (128 + c / 64 % 64) ∷ (128 + c % 64) ∷ [])
by_three c l =
    omega (
      arith,
      more (224 + c / 4096) ((128 + c / 64 % 64) ∷ (128 + c % 64) ∷ []),
      more (128 + c / 64 % 64) ((128 + c % 64) ∷ []),
      one (128 + c % 64),
      weight_lead (224 + c / 4096) (omega arith) (omega (arith, l)),
      follows (c / 64),
      follows c,
    )

by_four : (c : ℕ)
    → 4 ≡ 2 * utf16_length ((240 + c / 262144) ∷ (128 + c / 4096 % 64) ∷ (128 + c / 64 % 64) ∷ (128 + c % 64) ∷ [])
by_four c =
    omega (
      arith,
      more (240 + c / 262144) ((128 + c / 4096 % 64) ∷ (128 + c / 64 % 64) ∷ (128 + c % 64) ∷ []),
      more (128 + c / 4096 % 64) ((128 + c / 64 % 64) ∷ (128 + c % 64) ∷ []),
      more (128 + c / 64 % 64) ((128 + c % 64) ∷ []),
      one (128 + c % 64),
      weight_pair (240 + c / 262144) (omega arith),
      follows (c / 4096),
      follows (c / 64),
      follows c,
    )

char_units : (c : ℕ) → length (units_of c) ≡ 2 * utf16_length (encode c)
unfolding encode
char_units c = by (nat_lt c 128) refl (nat_lt c 2048) refl (nat_lt c 65536) refl
  where
    high : ℕ
    high = 0xd800 + (c - 0x10000) / 0x400

    low : ℕ
    low = 0xdc00 + (c - 0x10000) % 0x400

    by : (x : Bool) → nat_lt c 128 ≡ x → (y : Bool) → nat_lt c 2048 ≡ y → (z : Bool) → nat_lt c 65536 ≡ z
        → length (if z then le 2 c else le 2 high ++ le 2 low)
        ≡ 2 * utf16_length (cond x (c ∷ []) (cond y ((192 + c / 64) ∷ (128 + c % 64) ∷ [])
        (cond z ((224 + c / 4096) ∷ (128 + c / 64 % 64) ∷ (128 + c % 64) ∷ [])
        ((240 + c / 262144) ∷ (128 + c / 4096 % 64) ∷ (128 + c / 64 % 64) ∷ (128 + c % 64) ∷ []))))
    by true e y f true g = two_long c ∙ by_one c (below c 128 e)
    by true e y f false g = no_room c 128 65536 (below c 128 e) (above c 65536 g) (omega arith)
    by false e true f true g = two_long c ∙ by_two c (below c 2048 f)
    by false e true f false g = no_room c 2048 65536 (below c 2048 f) (above c 65536 g) (omega arith)
    by false e false f true g = two_long c ∙ by_three c (below c 65536 g)
    by false e false f false g = four_long high low ∙ by_four c

-- ---- a text

all_units : (cs : List ℕ) → length (utf16_of cs) ≡ 2 * utf16_length (encode_utf8_all cs)
all_units [] = omega (arith, nothing)
all_units (c ∷ cs) =
    omega (
      arith,
      length-append (units_of c) (utf16_of cs),
      sum_append (encode c) (encode_utf8_all cs),
      char_units c,
      all_units cs,
    )

pub units_are_counted : UnitsAreCounted
unfolding utf16
units_are_counted t is =
    subst (λ (l : List ℕ). length (utf16_of (chars t)) ≡ 2 * utf16_length l) (encodes-chars t is) (all_units (chars t))
