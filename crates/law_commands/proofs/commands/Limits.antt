-- What an operation is taken with can be written.
use Rattle.std.proofs.Common.{◌≡◌, ℕ, ◌^◌, ◌<◌, ◌≤◌, Bool, true, false, List, [], ◌∷◌, IsUtf8, refl, subst, arith}
use Rattle.std.specs.Prelude.{◌&&◌, ◌||◌, nat_le, nat_lt}
use Rattle.std.proofs.lemmas.Grind.{common_steps}
use Rattle.std.proofs.lemmas.Str.{IsUtf8-append, IsUtf8-nil, IsUtf8-encode, IsUtf8-from_is_utf8, encode_ascii}
use lib.Utf8.{low_scalar}
use Rattle.spec_exchange.specs.Texts.{is_utf8, utf16_length, units_of}
use Rattle.spec_exchange.specs.Operations.{are_below, is_text, is_spelled_path, fits_32, fits_64, lock_flags, options_of}
use Rattle.law_commands.specs.commands.Fitting.{IsFittingName}
use Rattle.law_commands.proofs.commands.PathLength.{utf16_few}

pub both : (a b : Bool) → (a && b) ≡ true → (a ≡ true) × (b ≡ true)
both true b e = (refl, e)
both false b e = absurd cc

pub below : (a n : ℕ) → nat_lt a n ≡ true → a < n
below a n e = grind (arith, common_steps)

pub at_most : (a n : ℕ) → nat_le a n ≡ true → a ≤ n
at_most a n e = grind (arith, common_steps)

pub in_32 : (n : ℕ) → fits_32 n ≡ true → n < 256 ^ 4
in_32 n e = omega (arith, below n 0x1_0000_0000 e)

pub in_64 : (n : ℕ) → fits_64 n ≡ true → n < 256 ^ 8
in_64 n e = omega (arith, below n 0x1_0000_0000_0000_0000 e)

pub ascii_then : (x : ℕ) (xs : List ℕ) → x < 128 → IsUtf8 xs → IsUtf8 (x ∷ xs)
ascii_then x xs small u = IsUtf8-append (x ∷ []) xs (subst IsUtf8 (encode_ascii x small) (IsUtf8-encode x (low_scalar x
    (omega (arith, small))))) u

ascii : (xs : List ℕ) → are_below 128 xs ≡ true → IsUtf8 xs
unfolding are_below
ascii [] e = IsUtf8-nil
ascii (x ∷ xs) e = let p = both (nat_lt x 128) (are_below 128 xs) e in ascii_then x xs (below x 128 p.0) (ascii xs p.1)

either_text : (a b : Bool) (xs : List ℕ) → (a ≡ true → IsUtf8 xs) → (b ≡ true → IsUtf8 xs) → (a || b) ≡ true → IsUtf8 xs
either_text true b xs f g e = f refl
either_text false b xs f g e = g e

text_is : (xs : List ℕ) → is_text xs ≡ true → IsUtf8 xs
unfolding is_text
text_is xs e = either_text (are_below 128 xs) (is_utf8 xs) xs (ascii xs) (IsUtf8-from_is_utf8 xs) e

pub path_is : (path : List ℕ) → is_spelled_path path ≡ true → IsFittingName path
unfolding is_spelled_path
path_is path e =
    let p = both (is_text path) (nat_le (utf16_length path) 1024) e in
    let is = text_is path p.0 in
    let few = at_most (utf16_length path) 1024 p.1 in
    record { utf8 = is; short = omega (arith, utf16_few path is, few) }

pub flags_small : (exclusive : Bool) → lock_flags exclusive < 256 ^ 4
flags_small true = omega arith
flags_small false = omega arith

pub options_small : (directory : Bool) → options_of directory < 256 ^ 4
options_small true = omega arith
options_small false = omega arith

star_few : utf16_length (42 ∷ []) ≤ 1024
unfolding utf16_length units_of
star_few = omega arith

pub star_is : IsFittingName (42 ∷ [])
star_is = let is = ascii_then 42 [] (omega arith) IsUtf8-nil in record {
  utf8 = is;
  short = omega (
    arith,
    utf16_few (42
        ∷ []) is,
    star_few,
  );
}
