-- The cipher of FIPS 197, for keys of 4 and 8 words (AES-128 and AES-256).
-- A block and the state are 16 bytes, column after column: byte r + 4 c stands in row r and column c (3.4).
-- The expanded key is a list of words, each of 4 bytes.
use Rattle.std.specs.Prelude.{ℕ, zero, suc, ◌+◌, ◌-◌, ◌*◌, ◌/◌, ◌%◌, nat_lt, ◌==◌, ◌&&◌, if◌then◌else◌, List, [], ◌∷◌}
use Rattle.std.specs.Prelude.{◌++◌, length, map, slice_index, slice_index_or, bit_xor}
use Rattle.spec_crypto.specs.ciphers.Field.{doubled, sbox}

abbrev pub four : (ℕ → ℕ) → List ℕ
four f = f 0 ∷ f 1 ∷ f 2 ∷ f 3 ∷ []

abbrev pub sixteen : (ℕ → ℕ) → List ℕ
sixteen f = f 0 ∷ f 1 ∷ f 2 ∷ f 3 ∷ f 4 ∷ f 5 ∷ f 6 ∷ f 7 ∷ f 8 ∷ f 9 ∷ f 10 ∷ f 11 ∷ f 12 ∷ f 13 ∷ f 14 ∷ f 15 ∷ []

-- SUBBYTES and then SHIFTROWS: each byte replaced, and row r turned left by r (5.1.1, 5.1.2)
unfoldable pub replaced : List ℕ → List ℕ
replaced s = map (λ i. sbox (slice_index s i)) (0 ∷ 5 ∷ 10 ∷ 15 ∷ 4 ∷ 9 ∷ 14 ∷ 3 ∷ 8 ∷ 13 ∷ 2 ∷ 7 ∷ 12 ∷ 1 ∷ 6 ∷ 11 ∷ [])

-- 2 a + 3 b + c + d
abbrev pub mixed : ℕ → ℕ → ℕ → ℕ → ℕ
mixed a b c d = bit_xor (bit_xor (bit_xor (bit_xor (doubled a) (doubled b)) b) c) d

-- the column that begins at byte i
abbrev pub mixed_column : List ℕ → ℕ → List ℕ
mixed_column s i =
    mixed (slice_index s i) (slice_index s (i + 1)) (slice_index s (i + 2)) (slice_index s (i + 3))
    ∷ mixed (slice_index s (i + 1)) (slice_index s (i + 2)) (slice_index s (i + 3)) (slice_index s i)
    ∷ mixed (slice_index s (i + 2)) (slice_index s (i + 3)) (slice_index s i) (slice_index s (i + 1))
    ∷ mixed (slice_index s (i + 3)) (slice_index s i) (slice_index s (i + 1)) (slice_index s (i + 2))
    ∷ []

-- MIXCOLUMNS (5.1.3)
unfoldable pub mixed_columns : List ℕ → List ℕ
mixed_columns s = mixed_column s 0 ++ (mixed_column s 4 ++ (mixed_column s 8 ++ mixed_column s 12))

-- the sum of two blocks
unfoldable pub block_sum : List ℕ → List ℕ → List ℕ
block_sum s t = sixteen (λ i. bit_xor (slice_index s i) (slice_index t i))

abbrev pub word : List (List ℕ) → ℕ → List ℕ
word ws i = slice_index_or ws i []

-- the round key of round r: words 4 r to 4 r + 3 (5.1.4)
unfoldable pub round_key : List (List ℕ) → ℕ → List ℕ
round_key ws r = sixteen (λ i. slice_index (word ws (4 * r + i / 4)) (i % 4))

-- the number of rounds, 10 or 14: the words are four for each round and four before the first
unfoldable pub rounds : List (List ℕ) → ℕ
rounds ws = length ws / 4 - 1

-- the state behind n whole rounds (5.1, ADDROUNDKEY first)
unfoldable pub after : List (List ℕ) → List ℕ → ℕ → List ℕ
after ws block zero = block_sum block (round_key ws 0)
after ws block (suc n) = block_sum (mixed_columns (replaced (after ws block n))) (round_key ws (suc n))

-- CIPHER (5.1): the last round mixes no columns
unfoldable pub cipher : List (List ℕ) → List ℕ → List ℕ
cipher ws block = block_sum (replaced (after ws block (rounds ws - 1))) (round_key ws (rounds ws))

-- x ^ i
unfoldable pub constant : ℕ → ℕ
constant zero = 1
constant (suc i) = doubled (constant i)

-- SUBWORD (5.2)
abbrev pub sub_word : List ℕ → List ℕ
sub_word w = four (λ k. sbox (slice_index w k))

-- ROTWORD (5.2)
abbrev pub rot_word : List ℕ → List ℕ
rot_word w = slice_index w 1 ∷ slice_index w 2 ∷ slice_index w 3 ∷ slice_index w 0 ∷ []

abbrev pub word_sum : List ℕ → List ℕ → List ℕ
word_sum v w = four (λ k. bit_xor (slice_index v k) (slice_index w k))

-- RCON (5.2): x ^ (j - 1) and three zeros, j from 1
abbrev pub round_constant : ℕ → List ℕ
round_constant j = constant (j - 1) ∷ 0 ∷ 0 ∷ 0 ∷ []

-- what is added to the word nk places before word i (5.2)
unfoldable pub word_change : ℕ → List ℕ → ℕ → List ℕ
word_change nk before i =
    if i % nk == 0 then word_sum (sub_word (rot_word before)) (round_constant (i / nk))
    else if nat_lt 6 nk && (i % nk == 4) then sub_word before
    else before

-- word i, behind the words before it
unfoldable pub next_word : ℕ → List ℕ → List (List ℕ) → ℕ → List ℕ
next_word nk key ws i =
    if nat_lt i nk then four (λ k. slice_index key (4 * i + k))
    else word_sum (word ws (i - nk)) (word_change nk (word ws (i - 1)) i)

abbrev pub with_word : ℕ → List ℕ → List (List ℕ) → ℕ → List (List ℕ)
with_word nk key ws i = ws ++ next_word nk key ws i ∷ []

-- the first n words of the expanded key, for a key of nk words
unfoldable pub expanded : ℕ → List ℕ → ℕ → List (List ℕ)
expanded nk key zero = []
expanded nk key (suc i) = with_word nk key (expanded nk key i) i

-- KEYEXPANSION (5.2): nk + 6 rounds
abbrev pub schedule : ℕ → List ℕ → List (List ℕ)
schedule nk key = expanded nk key (4 * (nk + 7))
