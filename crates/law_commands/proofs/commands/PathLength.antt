-- The bytes of a path in UTF-16 are few.
use Rattle.std.proofs.Common.{◌≡◌, ℕ, ◌+◌, ◌*◌, ◌/◌, ◌<◌, ◌≤◌, Bool, true, false, cond, List, [], ◌∷◌, ◌++◌, length}
use Rattle.std.proofs.Common.{chars, encode_utf8_all, IsUtf8, refl, subst, ◌∙◌, arith, length-append}
use Rattle.std.specs.Prelude.{nat_lt, if◌then◌else◌}
use Rattle.std.specs.List.{fold}
use Rattle.std.proofs.lemmas.Grind.{common_steps}
use Rattle.std.proofs.lemmas.Str.{encodes-chars}
use lib.Utf8.{encode}
use Rattle.spec_wire.specs.messages.Places.{le}
use Rattle.spec_wire.proofs.messages.Numbers.{length-le}
use Rattle.spec_wire.specs.messages.Utf16.{units_of, utf16_of, utf16}
use Rattle.spec_exchange.specs.Texts.{utf16_length, units_of as weight}

-- ---- sums

fold_from : (n : ℕ) (xs : List ℕ) → fold (λ a x. a + weight x) n xs ≡ n + fold (λ a x. a + weight x) 0 xs
fold_from n [] = omega arith
fold_from n (x ∷ xs) = fold_from (n + weight x) xs ∙ omega (arith, fold_from (0 + weight x) xs)

fold_append : (n : ℕ) (xs ys : List ℕ) → fold (λ a x. a + weight x) n (xs ++ ys) ≡ fold (λ a x. a + weight x) (fold (λ a
    x. a + weight x) n xs) ys
fold_append n [] ys = refl
fold_append n (x ∷ xs) ys = fold_append (n + weight x) xs ys

pub sum_append : (xs ys : List ℕ) → utf16_length (xs ++ ys) ≡ utf16_length xs + utf16_length ys
unfolding utf16_length
sum_append xs ys = fold_append 0 xs ys ∙ fold_from (fold (λ a x. a + weight x) 0 xs) ys

sum_front : (x : ℕ) (xs : List ℕ) → weight x ≤ utf16_length (x ∷ xs)
unfolding utf16_length
sum_front x xs = omega (arith, fold_from (0 + weight x) xs)

-- ---- a character begins with a byte that counts

low_byte : (b : ℕ) → b < 128 → 1 ≤ weight b
unfolding weight
low_byte b small = grind (arith, common_steps)

high_byte : (b : ℕ) → 192 ≤ b → 1 ≤ weight b
unfolding weight
high_byte b big = grind (arith, common_steps)

counts : (x y z : Bool) (p q r s : ℕ) (ps qs rs ss : List ℕ) → (x ≡ true → 1 ≤ weight p) → 1 ≤ weight q → 1 ≤ weight r → 1 ≤ weight s
    → 1 ≤ utf16_length (cond x (p ∷ ps) (cond y (q ∷ qs) (cond z (r ∷ rs) (s ∷ ss))))
counts true y z p q r s ps qs rs ss a b c d = omega (arith, a refl, sum_front p ps)
counts false true z p q r s ps qs rs ss a b c d = omega (arith, b, sum_front q qs)
counts false false true p q r s ps qs rs ss a b c d = omega (arith, c, sum_front r rs)
counts false false false p q r s ps qs rs ss a b c d = omega (arith, d, sum_front s ss)

is_below : (c n : ℕ) → nat_lt c n ≡ true → c < n
is_below c n e = grind (arith, common_steps)

one_counts : (c : ℕ) → 1 ≤ utf16_length (encode c)
unfolding encode
one_counts c = counts (nat_lt c 128) _ _ c _ _ _ _ _ _ _ (λ e. low_byte c (is_below c 128 e)) (high_byte (192 + c / 64)
    (omega arith)) (high_byte (224 + c / 4096) (omega arith)) (high_byte (240 + c / 262144) (omega arith))

all_count : (cs : List ℕ) → length cs ≤ utf16_length (encode_utf8_all cs)
all_count [] = omega arith
all_count (c ∷ cs) = omega (arith, sum_append (encode c) (encode_utf8_all cs), one_counts c, all_count cs)

-- ---- and has four bytes at most

few_units : (small : Bool) (a b c : ℕ) → length (if small then le 2 a else le 2 b ++ le 2 c) ≤ 4
few_units true a b c = omega (arith, length-le 2 a)
few_units false a b c = omega (arith, length-append (le 2 b) (le 2 c), length-le 2 b, length-le 2 c)

units_few : (c : ℕ) → length (units_of c) ≤ 4
units_few c = few_units (nat_lt c 0x10000) _ _ _

all_few : (cs : List ℕ) → length (utf16_of cs) ≤ 4 * length cs
all_few [] = omega arith
all_few (c ∷ cs) = omega (arith, length-append (units_of c) (utf16_of cs), units_few c, all_few cs)

pub utf16_few : (t : List ℕ) → IsUtf8 t → length (utf16 t) ≤ 4 * utf16_length t
unfolding utf16
utf16_few t is =
    let count : length (chars t) ≤ utf16_length t = subst (λ (l : List ℕ). length (chars t) ≤ utf16_length l)
    (encodes-chars t is) (all_count (chars t)) in
    omega (arith, all_few (chars t), count)
