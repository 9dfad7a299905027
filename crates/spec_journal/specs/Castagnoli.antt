-- CRC-32C, the checksum of Castagnoli (RFC 3720 12.1 and B.4): bytes are a polynomial over the field of two elements, the lowest
-- bit of each byte first, and what is left of it behind a division by one of degree 32 is their checksum.
use Rattle.std.specs.Prelude.{ℕ, ◌+◌, ◌-◌, ◌/◌, ◌%◌, ◌^◌, ◌<◌, ◌==◌, if◌then◌else◌, suc, zero, List, [], ◌∷◌}
use Rattle.std.specs.Int.Bits.{bit_xor}

-- the degrees of the divisor, but for 32: x^32 + x^28 + x^27 + x^26 + x^25 + x^23 + x^22 + x^20 + x^19 + x^18 + x^14 + x^13 + x^11 + x^10
-- + x^9 + x^8 + x^6 + 1
abbrev pub degrees : List ℕ
degrees = 28 ∷ 27 ∷ 26 ∷ 25 ∷ 23 ∷ 22 ∷ 20 ∷ 19 ∷ 18 ∷ 14 ∷ 13 ∷ 11 ∷ 10 ∷ 9 ∷ 8 ∷ 6 ∷ 0 ∷ []

-- a polynomial of 32 coefficients as a number: the lowest bit is the coefficient of x^31, the highest that of 1
unfoldable pub coefficients : List ℕ → ℕ
coefficients [] = 0
coefficients (d ∷ ds) = 2 ^ (31 - d) + coefficients ds

-- what is left is multiplied by x: where x^32 stands in it then, the divisor is taken off
unfoldable pub times_x : ℕ → ℕ
times_x r = if r % 2 == 1 then bit_xor (r / 2) (coefficients degrees) else r / 2

unfoldable pub times_power : ℕ → ℕ → ℕ
times_power zero r = r
times_power (suc k) r = times_power k (times_x r)

-- the eight coefficients of a byte more
unfoldable pub behind_byte : ℕ → ℕ → ℕ
behind_byte r byte = times_power 8 (bit_xor r byte)

unfoldable pub behind_bytes : ℕ → List ℕ → ℕ
behind_bytes r [] = r
behind_bytes r (b ∷ bs) = behind_bytes (behind_byte r b) bs

-- the first 32 coefficients are inverted, and so is what is left
unfoldable pub crc32c : List ℕ → ℕ
crc32c bytes = bit_xor (behind_bytes 0xffff_ffff bytes) 0xffff_ffff

-- each number is a byte
abbrev pub AreBytes : List ℕ → Type 0
AreBytes [] = Unit {0}
AreBytes (b ∷ bs) = (b < 256) × AreBytes bs
