-- A round of one block, with its key (FIPS 197, 5.1).
use Rattle.std.specs.Prelude.{ℕ, List}
use Rattle.spec_crypto.specs.ciphers.Aes.{replaced, mixed_columns, block_sum}

abbrev pub block_round : List ℕ → List ℕ → List ℕ
block_round v key = block_sum (mixed_columns (replaced v)) key

abbrev pub block_last : List ℕ → List ℕ → List ℕ
block_last v key = block_sum (replaced v) key
