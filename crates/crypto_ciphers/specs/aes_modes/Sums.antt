-- The table of a hash key: for each four bits of a factor the sums of the key's multiples there.
use Rattle.std.specs.Prelude.{◌≡◌, ◌<◌, ◌*◌, ℕ, zero, suc, List, [], slice_index, slice_index_or}
use Rattle.spec_crypto.specs.ciphers.Ghash.{shifted, bits_of, sum_at}

-- x^n times an element
unfoldable pub raised : ℕ → ℕ → ℕ
raised zero v = v
raised (suc n) v = shifted (raised n v)

-- entry n: the sum of v, x v, x^2 v and x^3 v at the four bits of n
abbrev pub IsProductRow : List ℕ → ℕ → Type 0
IsProductRow row v = (n : ℕ) → n < 16 → slice_index row n ≡ sum_at (bits_of 4 n) v

-- row j: the sums for the four bits of a factor that stand behind 4 j others
abbrev pub AreProductRows : List (List ℕ) → ℕ → Type 0
AreProductRows rows h = (j : ℕ) → j < 32 → IsProductRow (slice_index_or rows j []) (raised (4 * j) h)
