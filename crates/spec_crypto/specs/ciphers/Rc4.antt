-- RC4, the stream cipher that MS-NLMP 3.4 uses (RFC 6229 has its test vectors): a table of 256 bytes that two places walk through.
use Rattle.std.specs.Prelude.{◌≡◌, ℕ, zero, suc, ◌+◌, ◌%◌, List, [], ◌∷◌, ◌++◌, length, slice_index, swap, bit_xor}
use Rattle.std.specs.List.{range_with_len}

pub record CipherState : Type 0 where
  pub table : List ℕ
  pub i : ℕ
  pub j : ℕ

-- The key schedule. The step n adds to the place the table's byte at n and the key's, which is repeated, and swaps the two bytes.
abbrev pub scheduled_place : List ℕ → List ℕ → ℕ → ℕ → ℕ
scheduled_place key table j n = (j + slice_index table n + slice_index key (n % length key)) % 256

abbrev pub schedule_step : List ℕ → ℕ → CipherState → CipherState
schedule_step key n s = record {
  table = swap s.table n (scheduled_place key s.table s.j n);
  i = n + 1;
  j = scheduled_place key s.table s.j n;
}

-- the state after n steps of the key schedule
unfoldable pub scheduled : List ℕ → ℕ → CipherState
scheduled key zero = record { table = range_with_len 0 256; i = 0; j = 0 }
scheduled key (suc n) = schedule_step key n (scheduled key n)

-- the state that a key gives
abbrev pub opened : List ℕ → CipherState
opened key = record { table = (scheduled key 256).table; i = 0; j = 0 }

-- The generation of one byte: i goes on by one, j by the table's byte at i, and the two bytes are swapped.
abbrev pub next_i : CipherState → ℕ
next_i s = (s.i + 1) % 256

abbrev pub next_j : CipherState → ℕ
next_j s = (s.j + slice_index s.table (next_i s)) % 256

abbrev pub advanced : CipherState → CipherState
advanced s = record { table = swap s.table (next_i s) (next_j s); i = next_i s; j = next_j s }

-- the byte of the stream at a state that has advanced
abbrev pub stream_byte : CipherState → ℕ
stream_byte s = slice_index s.table ((slice_index s.table s.i + slice_index s.table s.j) % 256)

-- the state after n bytes
abbrev pub advanced_by : CipherState → ℕ → CipherState
advanced_by s zero = s
advanced_by s (suc n) = advanced_by (advanced s) n

-- bytes joined with the stream
abbrev pub enciphered : CipherState → List ℕ → List ℕ
enciphered s [] = []
enciphered s (x ∷ xs) = bit_xor x (stream_byte (advanced s)) ∷ enciphered (advanced s) xs

-- Bytes in two pieces give what both in one give, and leave the same state.
abbrev pub PiecesJoin : Type 0
PiecesJoin = (s : CipherState) (xs ys : List ℕ) →
    (enciphered s (xs ++ ys) ≡ enciphered s xs ++ enciphered (advanced_by s (length xs)) ys)
    × (advanced_by s (length (xs ++ ys)) ≡ advanced_by (advanced_by s (length xs)) (length ys))

-- What was enciphered is deciphered from the same state.
abbrev pub Deciphers : Type 0
Deciphers = (s : CipherState) (xs : List ℕ) → enciphered s (enciphered s xs) ≡ xs
