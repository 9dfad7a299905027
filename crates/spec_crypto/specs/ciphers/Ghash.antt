-- GF(2^128) as GCM has it, and its hash (SP 800-38D, sections 6.3 and 6.4).
-- An element is a number of 128 bits, of which the highest is the coefficient of x^0; a block is its 16 bytes, the highest first.
use Rattle.std.specs.Prelude.{ℕ, zero, suc, ◌+◌, ◌*◌, ◌/◌, ◌%◌, ◌^◌, Bool, List, [], ◌∷◌, length, ◌==◌, if◌then◌else◌, bit_xor}
use Rattle.std.specs.Int.{w128, from_be_bytes}
use Rattle.spec_crypto.specs.ciphers.Blocks.{block_at, block_count}

-- x times an element: R is 11100001 and 120 zeros
unfoldable pub shifted : ℕ → ℕ
shifted v = bit_xor (v / 2) (if v % 2 == 1 then 225 * 2 ^ 120 else 0)

-- the n low bits, the highest first
unfoldable pub bits_of : ℕ → ℕ → List Bool
bits_of zero x = []
bits_of (suc n) x = (x / 2 ^ n % 2 == 1) ∷ bits_of n x

-- the sum of v, x v, x^2 v .. where the bits are set
unfoldable pub sum_at : List Bool → ℕ → ℕ
sum_at [] v = 0
sum_at (b ∷ bs) v = bit_xor (if b then v else 0) (sum_at bs (shifted v))

-- the product (6.3)
abbrev pub product : ℕ → ℕ → ℕ
product x v = sum_at (bits_of 128 x) v

-- the hash from y over the first n blocks (6.4)
unfoldable pub hashed : ℕ → ℕ → List ℕ → ℕ → ℕ
hashed h y m zero = y
hashed h y m (suc n) = product (bit_xor (hashed h y m n) (from_be_bytes w128 (block_at m n))) h

-- the hash over all blocks of m, the last filled with zeros
abbrev pub hashed_all : ℕ → ℕ → List ℕ → ℕ
hashed_all h y m = hashed h y m (block_count m)

-- the hash of the additional data, of the ciphertext, and of a block with the lengths of both in bits, 8 bytes each (7.1, step 5)
unfoldable pub ghash : ℕ → List ℕ → List ℕ → ℕ
ghash h added sealed =
    let behind_added = hashed_all h 0 added in
    let behind_sealed = hashed_all h behind_added sealed in
    product (bit_xor behind_sealed (8 * length added * 2 ^ 64 + 8 * length sealed)) h
