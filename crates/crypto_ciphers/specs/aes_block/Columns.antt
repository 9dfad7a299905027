-- A state as four words, one for each column, with row 0 in the lowest byte.
use Rattle.std.specs.Prelude.{◌≡◌, ℕ, ◌/◌, ◌%◌, List, [], ◌∷◌, ◌++◌, bit_xor}
use Rattle.spec_crypto.specs.ciphers.Field.{sbox}
use Rattle.spec_crypto.specs.ciphers.Aes.{mixed}

abbrev pub row0 : ℕ → ℕ
row0 w = w % 256

abbrev pub row1 : ℕ → ℕ
row1 w = w / 256 % 256

abbrev pub row2 : ℕ → ℕ
row2 w = w / 65536 % 256

abbrev pub row3 : ℕ → ℕ
row3 w = w / 16777216 % 256

abbrev pub column_rows : ℕ → List ℕ
column_rows w = row0 w ∷ row1 w ∷ row2 w ∷ row3 w ∷ []

-- the state's bytes, column after column
unfoldable pub state : ℕ → ℕ → ℕ → ℕ → List ℕ
state a b c d = column_rows a ++ (column_rows b ++ (column_rows c ++ column_rows d))

-- the column of a round whose rows come from these columns: each row mixes the four substituted bytes, and the key's is added
pub record IsMixedColumn (a b c d key w : ℕ) : Type 0 where
  pub at0 : row0 w ≡ bit_xor (mixed (sbox (row0 a)) (sbox (row1 b)) (sbox (row2 c)) (sbox (row3 d))) (row0 key)
  pub at1 : row1 w ≡ bit_xor (mixed (sbox (row1 b)) (sbox (row2 c)) (sbox (row3 d)) (sbox (row0 a))) (row1 key)
  pub at2 : row2 w ≡ bit_xor (mixed (sbox (row2 c)) (sbox (row3 d)) (sbox (row0 a)) (sbox (row1 b))) (row2 key)
  pub at3 : row3 w ≡ bit_xor (mixed (sbox (row3 d)) (sbox (row0 a)) (sbox (row1 b)) (sbox (row2 c))) (row3 key)

-- the column of the last round: the substituted bytes and the key's
pub record IsLastColumn (a b c d key w : ℕ) : Type 0 where
  pub at0 : row0 w ≡ bit_xor (sbox (row0 a)) (row0 key)
  pub at1 : row1 w ≡ bit_xor (sbox (row1 b)) (row1 key)
  pub at2 : row2 w ≡ bit_xor (sbox (row2 c)) (row2 key)
  pub at3 : row3 w ≡ bit_xor (sbox (row3 d)) (row3 key)
