-- What the modes share: blocks of a byte list, numbers with the highest byte first, chains, and streams of bytes from counter blocks.
use Rattle.std.specs.Prelude.{ℕ, zero, suc, ◌+◌, ◌-◌, ◌*◌, ◌/◌, ◌%◌, ◌^◌, List, [], ◌∷◌, ◌++◌, length, slice_index, bit_xor}
use Rattle.spec_crypto.specs.ciphers.Aes.{sixteen, block_sum, cipher}

-- byte k of n in w bytes, the highest first
abbrev pub big_byte : ℕ → ℕ → ℕ → ℕ
big_byte w n k = n / 256 ^ (w - 1 - k) % 256

-- block i, filled with zeros where the bytes end
unfoldable pub block_at : List ℕ → ℕ → List ℕ
block_at m i = sixteen (λ k. slice_index m (16 * i + k))

-- how many blocks the bytes fill, the last one perhaps in part
abbrev pub block_count : List ℕ → ℕ
block_count m = (length m + 15) / 16

-- the chain from y over the first n blocks: each is added, and the sum is enciphered
unfoldable pub chained : List (List ℕ) → List ℕ → List ℕ → ℕ → List ℕ
chained ws y m zero = y
chained ws y m (suc n) = cipher ws (block_sum (chained ws y m n) (block_at m n))

-- byte j of the stream: byte j % 16 of the enciphered counter block j / 16
unfoldable pub stream_byte : List (List ℕ) → (ℕ → List ℕ) → ℕ → ℕ
stream_byte ws counter j = slice_index (cipher ws (counter (j / 16))) (j % 16)

-- the first n bytes of the text, each with its byte of the stream
unfoldable pub masked : List (List ℕ) → (ℕ → List ℕ) → List ℕ → ℕ → List ℕ
masked ws counter text zero = []
masked ws counter text (suc j) = masked ws counter text j ++ bit_xor (slice_index text j) (stream_byte ws counter j) ∷ []
