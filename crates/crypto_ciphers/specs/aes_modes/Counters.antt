-- CCM's counter blocks by their numbers alone.
use Rattle.std.specs.Prelude.{ℕ, ◌-◌, List, nat_lt, if◌then◌else◌}
use Rattle.spec_crypto.specs.ciphers.Aes.{sixteen}
use Rattle.spec_crypto.specs.ciphers.Blocks.{big_byte}

-- eight zeros and the number in 8 bytes
unfoldable pub number_block : ℕ → List ℕ
number_block i = sixteen (λ k. if nat_lt k 8 then 0 else big_byte 8 i (k - 8))
