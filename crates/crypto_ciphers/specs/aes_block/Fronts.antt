-- What two rounds have in common for the blocks that differ in their last byte alone.
use Rattle.std.specs.Prelude.{◌≡◌, ◌<◌, ℕ, List, nat_lt, if◌then◌else◌, slice_index, bit_xor}
use Rattle.spec_crypto.specs.ciphers.Aes.{sixteen, word, after}
use Rattle.crypto_ciphers.specs.aes_block.Columns.{row0, row1, row2, row3, state, IsMixedColumn}

-- a column whose bytes, 52 hexadecimal, the S-box replaces by zeros
abbrev pub block_nothing : ℕ
block_nothing = 1381126738

-- w is the column that v is, but with the byte x in a row where v had nothing
abbrev pub WithRow0 : ℕ → ℕ → ℕ → Type 0
WithRow0 v x w = (a b c d key : ℕ) → row0 a ≡ x → IsMixedColumn block_nothing b c d key v → IsMixedColumn a b c d key w

abbrev pub WithRow1 : ℕ → ℕ → ℕ → Type 0
WithRow1 v x w = (a b c d key : ℕ) → row1 b ≡ x → IsMixedColumn a block_nothing c d key v → IsMixedColumn a b c d key w

abbrev pub WithRow2 : ℕ → ℕ → ℕ → Type 0
WithRow2 v x w = (a b c d key : ℕ) → row2 c ≡ x → IsMixedColumn a b block_nothing d key v → IsMixedColumn a b c d key w

abbrev pub WithRow3 : ℕ → ℕ → ℕ → Type 0
WithRow3 v x w = (a b c d key : ℕ) → row3 d ≡ x → IsMixedColumn a b c block_nothing key v → IsMixedColumn a b c d key w

-- the columns that a front and the byte x make: x comes into the first word, and that word's bytes into the other four
pub record AreBehind (front : List ℕ) (x wa wb wc wd : ℕ) : Type 0 where
  pub a : ℕ
  pub first : WithRow3 (slice_index front 0) x a
  pub at_a : WithRow0 (slice_index front 1) (row0 a) wa
  pub at_b : WithRow3 (slice_index front 2) (row3 a) wb
  pub at_c : WithRow2 (slice_index front 3) (row2 a) wc
  pub at_d : WithRow1 (slice_index front 4) (row1 a) wd

-- the block with another last byte
unfoldable pub with_last : List ℕ → ℕ → List ℕ
with_last block y = sixteen (λ k. if nat_lt k 15 then slice_index block k else y)

-- whatever the block's last byte is, its sum with the key's and the front make the state behind two rounds
abbrev pub IsBlockFront : List (List ℕ) → List ℕ → List ℕ → Type 0
IsBlockFront ws block front = (y wa wb wc wd : ℕ) → y < 256 → AreBehind front (bit_xor y (slice_index (word ws 3) 3)) wa wb wc wd
    → state wa wb wc wd ≡ after ws (with_last block y) 2
