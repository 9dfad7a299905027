-- CMAC of SP 800-38B, section 6, over AES, with a tag of 16 bytes.
use Rattle.std.specs.Prelude.{ℕ, ◌+◌, ◌-◌, ◌*◌, ◌/◌, ◌%◌, ◌^◌, List, [], ◌∷◌, length, drop, slice_index, nat_lt, ◌==◌}
use Rattle.std.specs.Prelude.{if◌then◌else◌, bit_xor}
use Rattle.std.specs.Int.{w128, from_be_bytes, to_be_bytes}
use Rattle.spec_crypto.specs.ciphers.Aes.{sixteen, block_sum, cipher}
use Rattle.spec_crypto.specs.ciphers.Blocks.{chained}

abbrev pub zeros : List ℕ
zeros = sixteen (λ k. 0)

-- a block shifted left by one bit, and R128 = 135 added where a bit left it (5.3, 6.1)
unfoldable pub doubled_block : List ℕ → List ℕ
doubled_block b = let n = from_be_bytes w128 b in to_be_bytes w128 (bit_xor (n * 2 % 2 ^ 128) (if n / 2 ^ 127 == 1 then 135 else 0))

-- K1 and K2 (6.1)
unfoldable pub first_subkey : List (List ℕ) → List ℕ
first_subkey ws = doubled_block (cipher ws zeros)

unfoldable pub second_subkey : List (List ℕ) → List ℕ
second_subkey ws = doubled_block (first_subkey ws)

-- how many whole blocks stand before the last one, which is never empty but in the empty message (6.2, step 2)
abbrev pub before_last : List ℕ → ℕ
before_last m = (length m - 1) / 16

-- the bytes of the last block
abbrev pub rest_of : List ℕ → List ℕ
rest_of m = drop (16 * before_last m) m

-- the last bytes, a bit 1 and then zeros (6.2, step 4)
unfoldable pub padded : List ℕ → List ℕ
padded rest = sixteen (λ k. if nat_lt k (length rest) then slice_index rest k else if k == length rest then 128 else 0)

-- the last block: with K1 where it is whole, else padded and with K2 (6.2, step 4)
unfoldable pub last_block : List (List ℕ) → List ℕ → List ℕ
last_block ws m =
    if length (rest_of m) == 16 then block_sum (padded (rest_of m)) (first_subkey ws) else block_sum (padded (rest_of m)) (second_subkey ws)

-- CMAC (6.2)
unfoldable pub cmac : List (List ℕ) → List ℕ → List ℕ
cmac ws m = cipher ws (block_sum (chained ws zeros m (before_last m)) (last_block ws m))
