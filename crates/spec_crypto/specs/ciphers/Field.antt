-- The field of AES, GF(2^8) by the polynomial x^8 + x^4 + x^3 + x + 1, and its S-box (FIPS 197, sections 4 and 5.1.1).
-- An element is a byte; bit i is the coefficient of x^i. Addition is the exclusive or.
use Rattle.std.specs.Prelude.{ℕ, zero, suc, ◌+◌, ◌-◌, ◌*◌, ◌/◌, ◌%◌, ◌^◌, nat_lt, ◌==◌, if◌then◌else◌, bit_xor}

-- x times an element (4.2, XTIMES)
abbrev pub doubled : ℕ → ℕ
doubled a = if nat_lt a 128 then 2 * a else bit_xor (2 * a % 256) 27

-- the sum of a, x a, x^2 a .. at the bits set among the k low bits of b
abbrev pub product_by : ℕ → ℕ → ℕ → ℕ
product_by zero a b = 0
product_by (suc k) a b = bit_xor (if b % 2 == 1 then a else 0) (product_by k (doubled a) (b / 2))

-- the product of two elements (4.2)
abbrev pub product : ℕ → ℕ → ℕ
product a b = product_by 8 a b

-- a ^ (2 ^ (k + 1) - 2), by squares
abbrev pub power : ℕ → ℕ → ℕ
power zero a = 1
power (suc k) a = let s = product a a in product s (power k s)

-- the multiplicative inverse, which is a ^ 254, and 0 of 0 (4.4)
abbrev pub inverse : ℕ → ℕ
inverse a = power 7 a

-- a byte turned left by k bits
abbrev pub turned : ℕ → ℕ → ℕ
turned k a = a * 2 ^ k % 256 + a / 2 ^ (8 - k)

-- the affine map over GF(2), with the constant 63 hexadecimal (5.1.1)
abbrev pub affine : ℕ → ℕ
affine a = bit_xor (bit_xor (bit_xor (bit_xor (bit_xor a (turned 1 a)) (turned 2 a)) (turned 3 a)) (turned 4 a)) 99

-- SBOX (5.1.1)
unfoldable pub sbox : ℕ → ℕ
sbox a = affine (inverse a)
