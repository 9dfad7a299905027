-- The numbers that `byteorder` reads and writes, the lowest byte first, are those of `number_of` and `le`.
use Rattle.std.proofs.Common.{◌≡◌, ℕ, zero, suc, ◌+◌, ◌-◌, ◌*◌, ◌/◌, ◌%◌, ◌^◌, ◌<◌, ◌≤◌, List, [], ◌∷◌, ◌++◌, length}
use Rattle.std.proofs.Common.{get_or, take, drop, replicate, refl, sym, ap, ◌∙◌, arith, drop-cons}
use Rattle.std.proofs.lemmas.List.{take_all, append-nil}
use Rattle.std.proofs.Math.Nat.{div-div-eq-div-mul, pow-suc}
use Rattle.std.specs.Int.{bytes_low_first, byte_at}
use Rattle.byteorder.specs.Endian.{little_from, little_number, little_bytes}
use Rattle.spec_wire.specs.messages.Places.{le, number_of}
use Rattle.spec_wire.proofs.messages.Numbers.{le_zeros}

little_from-is : (n i : ℕ) (xs : List ℕ) → i + n ≤ length xs → little_from i n xs ≡ number_of (take n (drop i xs))
unfolding number_of
little_from-is zero i xs fits = refl
little_from-is (suc n) i xs fits =
    let later : little_from (suc i) n xs ≡ number_of (take n (drop (suc i) xs)) = little_from-is n (suc i) xs (omega arith) in
    rw (later, drop-cons xs i 0 (omega arith)) refl

little_number-is : (n : ℕ) (xs : List ℕ) → length xs ≡ n → little_number n xs ≡ number_of xs
little_number-is n xs e = little_from-is n 0 xs (omega arith) ∙ ap number_of (take_all n xs (omega arith))

pub number_of_1 : (b : List ℕ) → length b ≡ 1 → number_of b ≡ get_or b 0 0
number_of_1 b e = sym (little_number-is 1 b e) ∙ omega arith

pub number_of_2 : (b : List ℕ) → length b ≡ 2 → number_of b ≡ little_number 2 b
number_of_2 b e = sym (little_number-is 2 b e)

pub number_of_4 : (b : List ℕ) → length b ≡ 4 → number_of b ≡ little_number 4 b
number_of_4 b e = sym (little_number-is 4 b e)

pub number_of_8 : (b : List ℕ) → length b ≡ 8 → number_of b ≡ little_number 8 b
number_of_8 b e = sym (little_number-is 8 b e)

byte_at-is : (i n : ℕ) → byte_at i n ≡ n / 256 ^ i % 256
byte_at-is zero n = omega arith
byte_at-is (suc i) n = refl

bytes_low_first-is : (k i n : ℕ) → bytes_low_first i k n ≡ le k (n / 256 ^ i)
unfolding le
bytes_low_first-is zero i n = refl
bytes_low_first-is (suc k) i n =
    let next : n / 256 ^ i / 256 ≡ n / 256 ^ suc i = div-div-eq-div-mul n (256 ^ i) 256 ∙ ap (λ (x : ℕ). n / x) (sym (pow-suc 256 i)) in
    rw (byte_at-is i n, bytes_low_first-is k (suc i) n, next) refl

pub le_is : (k n : ℕ) → le k n ≡ little_bytes k n
le_is k n = ap (le k) (omega arith) ∙ sym (bytes_low_first-is k 0 n)

pub le_1 : (n : ℕ) → n < 256 → le 1 n ≡ n ∷ []
unfolding le
le_1 n lt = ap (λ (x : ℕ). x ∷ []) (omega arith)

pub le_2 : (n : ℕ) → le 2 n ≡ little_bytes 2 n
le_2 n = le_is 2 n

pub le_4 : (n : ℕ) → le 4 n ≡ little_bytes 4 n
le_4 n = le_is 4 n

pub le_8 : (n : ℕ) → le 8 n ≡ little_bytes 8 n
le_8 n = le_is 8 n

-- zero bytes at the end of a list
pub filled : (old : List ℕ) (len count : ℕ) → len ≡ length old → take (len + count) old ++ replicate (len + count - len)
    0 ≡ old ++ le count 0
filled old len count e =
    let n : len + count - len ≡ count = omega arith in
    rw (n, take_all (len + count) old (omega arith), le_zeros count) refl

pub ruleset zeros = (arith, filled)

pub ruleset wide_2 = (arith, le_2, append-nil)

pub ruleset wide_4 = (arith, le_4, append-nil)

pub ruleset wide_8 = (arith, le_8, append-nil)
