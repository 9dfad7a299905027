-- Bytes by planes of bits: plane k has the bit k of each byte.
use Rattle.std.specs.Prelude.{◌≡◌, ◌≤◌, ◌<◌, ◌/◌, ◌%◌, ◌+◌, ◌-◌, ℕ, List, [], ◌∷◌, length, slice_index, slice_index_or, map, replicate}
use Rattle.std.specs.Prelude.{bit_xor, ◌==◌, if◌then◌else◌}
use Rattle.std.specs.Int.{bit_at}
use Rattle.std.specs.Simd.Lanes.{zip2}
use Rattle.spec_crypto.specs.ciphers.Field.{doubled}
use Rattle.spec_crypto.specs.ciphers.Aes.{rounds, round_key}

-- byte i of vector j
abbrev pub lane_at : List (List ℕ) → ℕ → ℕ → ℕ
lane_at s j i = slice_index (slice_index_or s j []) i

-- sixteen bytes
pub record IsVector (v : List ℕ) : Type 0 where
  pub len : length v ≡ 16
  pub bytes : (i : ℕ) → slice_index v i < 256

-- eight vectors
pub record AreVectors (s : List (List ℕ)) : Type 0 where
  pub count : length s ≡ 8
  pub each : (j : ℕ) → j < 8 → IsVector (slice_index_or s j [])

-- the bit j of byte i of plane k is the bit k of byte i of vector j
abbrev pub ArePlanes : List (List ℕ) → List (List ℕ) → Type 0
ArePlanes q s = (k j i : ℕ) → k < 8 → j < 8 → i < 16 → bit_at (lane_at q k i) j ≡ bit_at (lane_at s j i) k

-- the vector has, in bit j of byte i, what the table tells of the byte i of vector j
abbrev pub Tells : List (List ℕ) → List ℕ → ℕ → Type 0
Tells s v table = (j i : ℕ) → j < 8 → i < 16 → bit_at (slice_index v i) j ≡ bit_at table (lane_at s j i)

abbrev pub WiresTell : List (List ℕ) → List (List ℕ) → List ℕ → Type 0
WiresTell s vs tables = (n : ℕ) → n < length tables → Tells s (slice_index_or vs n []) (slice_index tables n)

-- where two vectors a and b were turned in steps of w bits: what stands in the first of them, and in the second
abbrev pub IsTurnedLow : ℕ → List ℕ → List ℕ → List ℕ → Type 0
IsTurnedLow w a b v = (j i : ℕ) → j < 8 → i < 16
    → bit_at (slice_index v i) j ≡ (if j / w % 2 == 0 then bit_at (slice_index a i) j else bit_at (slice_index b i) (j - w))

abbrev pub IsTurnedHigh : ℕ → List ℕ → List ℕ → List ℕ → Type 0
IsTurnedHigh w a b v = (j i : ℕ) → j < 8 → i < 16
    → bit_at (slice_index v i) j ≡ (if j / w % 2 == 0 then bit_at (slice_index a i) (j + w) else bit_at (slice_index b i) j)

-- the places that ShiftRows takes its bytes from, and those below in the same column
abbrev pub row_places : List ℕ
row_places =
    0 ∷ 5 ∷ 10 ∷ 15 ∷ 4 ∷ 9 ∷ 14 ∷ 3 ∷ 8 ∷ 13 ∷ 2 ∷ 7 ∷ 12 ∷ 1 ∷ 6 ∷ 11 ∷ []

abbrev pub next_places : List ℕ
next_places =
    1 ∷ 2 ∷ 3 ∷ 0 ∷ 5 ∷ 6 ∷ 7 ∷ 4 ∷ 9 ∷ 10 ∷ 11 ∷ 8 ∷ 13 ∷ 14 ∷ 15 ∷ 12 ∷ []

abbrev pub after_next_places : List ℕ
after_next_places =
    2 ∷ 3 ∷ 0 ∷ 1 ∷ 6 ∷ 7 ∷ 4 ∷ 5 ∷ 10 ∷ 11 ∷ 8 ∷ 9 ∷ 14 ∷ 15 ∷ 12 ∷ 13 ∷ []

abbrev pub picked : List ℕ → List ℕ → List ℕ
picked places v = map (λ k. slice_index v k) places

-- the sums of two vectors, and the bytes of one from other places
abbrev pub IsVectorSum : List ℕ → List ℕ → List ℕ → Type 0
IsVectorSum a b v = (i : ℕ) → i < 16 → slice_index v i ≡ bit_xor (slice_index a i) (slice_index b i)

abbrev pub IsPicked : List ℕ → List ℕ → List ℕ → Type 0
IsPicked places a v = (i : ℕ) → i < 16 → slice_index v i ≡ slice_index a (slice_index places i)

abbrev pub rows : List ℕ → List ℕ
rows v = picked row_places v

abbrev pub next : List ℕ → List ℕ
next v = picked next_places v

abbrev pub after_next : List ℕ → List ℕ
after_next v = picked after_next_places v

-- the columns mixed: with each byte and the one below it added first
abbrev pub mixed_by_pairs : List ℕ → List ℕ
mixed_by_pairs v =
    let pairs = zip2 bit_xor v (next v) in
    zip2 bit_xor (zip2 bit_xor (map doubled pairs) (next v)) (after_next pairs)

-- the planes of a round's key, for each of eight blocks
pub record ArePlanesOfKey (ws : List (List ℕ)) (r : ℕ) (key : List (List ℕ)) : Type 0 where
  pub bytes : IsVector (round_key ws r)
  pub planes : ArePlanes key (replicate 8 (round_key ws r))

abbrev pub ArePlaneKeys : List (List ℕ) → List (List (List ℕ)) → Type 0
ArePlaneKeys ws keys = (r : ℕ) → r ≤ rounds ws → ArePlanesOfKey ws r (slice_index_or keys r [])
