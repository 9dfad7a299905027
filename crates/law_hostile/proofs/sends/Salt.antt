-- A draw's bytes are bytes, so the random half of the client's CreateGuids fits 8 of them.
use Rattle.std.proofs.Common.{ℕ, zero, suc, ◌+◌, ◌*◌, ◌/◌, ◌%◌, ◌<◌, ◌^◌, List, [], ◌∷◌, ◌++◌, take, arith}
use Rattle.std.specs.Prelude.{slice_index}
use Rattle.std.specs.Int.{w32, to_be_bytes, byte_at, bytes_high_first}
use Rattle.sha2.specs.Sha256.{digest_bytes, final_hash, initial_hash_256, sha256}
use Rattle.spec_wire.specs.messages.Places.{le, number_of}
use Rattle.spec_world.specs.Settings.{WorldSettings, draw, identity_of}

abbrev AllLow : List ℕ → Type 0
AllLow [] = Unit {0}
AllLow (b ∷ bs) = (b < 256) × AllLow bs

both : (xs ys : List ℕ) → AllLow xs → AllLow ys → AllLow (xs ++ ys)
both [] ys a b = b
both (x ∷ xs) ys a b = (a.0, both xs ys a.1 b)

byte_low : (i n : ℕ) → byte_at i n < 256
byte_low zero n = omega arith
byte_low (suc i) n = of_rest (n / 256 ^ suc i)
  where
    of_rest : (m : ℕ) → m % 256 < 256
    of_rest m = omega arith

high_low : (k n : ℕ) → AllLow (bytes_high_first k n)
high_low zero n = tt
high_low (suc k) n = (byte_low k n, high_low k n)

digest_low : (h : List ℕ) (n : ℕ) → AllLow (digest_bytes h n)
unfolding digest_bytes
digest_low h zero = tt
digest_low h (suc n) = both (digest_bytes h n) (to_be_bytes w32 (slice_index h n)) (digest_low h n) (high_low 4 (slice_index h n))

draw_low : (seed : List ℕ) (n : ℕ) → AllLow (draw seed n)
unfolding draw sha256
draw_low seed n = digest_low (final_hash initial_hash_256 (seed ++ le 8 n)) 8

some_low : (n : ℕ) (xs : List ℕ) → AllLow xs → AllLow (take n xs)
some_low zero xs a = tt
some_low (suc n) [] a = tt
some_low (suc n) (x ∷ xs) a = (a.0, some_low n xs a.1)

-- how many numbers so many bytes have
abbrev count : ℕ → ℕ
count zero = 1
count (suc n) = 256 * count n

fits_none : (n : ℕ) → 0 < count n
fits_none zero = omega arith
fits_none (suc n) = (let h = fits_none n in omega (arith, h))

fits_one : (b r p : ℕ) → b < 256 → r < p → b + 256 * r < 256 * p
fits_one b r p l h = omega (arith, l, h)

number_low : (n : ℕ) (xs : List ℕ) → AllLow xs → number_of (take n xs) < count n
unfolding number_of
number_low zero xs a = omega arith
number_low (suc n) [] a = fits_none (suc n)
number_low (suc n) (x ∷ xs) a = fits_one x (number_of (take n xs)) (count n) a.0 (number_low n xs a.1)

pub salt_fits : (z : WorldSettings) → (identity_of z).salt < 2 ^ 64
salt_fits z = number_low 8 (draw z.seed 0) (draw_low z.seed 0)
