-- The fixed part of a message as a table of fields, and its variable parts.
use Rattle.std.specs.Prelude.{◌≡◌, ℕ, ◌+◌, ◌*◌, ◌^◌, ◌<◌, ◌≤◌, ◌⊎◌, ◌==◌, if◌then◌else◌, List, [], ◌∷◌, ◌++◌, length}
use Rattle.spec_wire.specs.messages.Places.{le, number, bytes_at}

-- A field: a number of so many bytes, so many bytes as they are, or bytes that a reader passes over and a
-- writer leaves 0.
pub data Field : Type 0 where
  Num : ℕ → ℕ → Field
  Raw : ℕ → List ℕ → Field
  Any : ℕ → Field

-- The fields stand in m one after another, the first at this place.
abbrev pub Stands : List ℕ → ℕ → List Field → Type 0
Stands m at [] = at ≤ length m
Stands m at (Num w n ∷ fs) = (number w m at ≡ n) × Stands m (at + w) fs
Stands m at (Raw w b ∷ fs) = (bytes_at w m at ≡ b) × Stands m (at + w) fs
Stands m at (Any w ∷ fs) = Stands m (at + w) fs

-- The fields written behind `out`.
abbrev pub with_fields : List ℕ → List Field → List ℕ
with_fields out [] = out
with_fields out (Num w n ∷ fs) = with_fields (out ++ le w n) fs
with_fields out (Raw w b ∷ fs) = with_fields (out ++ b) fs
with_fields out (Any w ∷ fs) = with_fields (out ++ le w 0) fs

-- Each number fits its width, and bytes have theirs.
abbrev pub AreWritable : List Field → Type 0
AreWritable [] = Unit {0}
AreWritable (Num w n ∷ fs) = (n < 256 ^ w) × AreWritable fs
AreWritable (Raw w b ∷ fs) = (length b ≡ w) × AreWritable fs
AreWritable (Any w ∷ fs) = AreWritable fs

-- the widths of the fields
abbrev pub widths : List Field → List ℕ
widths [] = []
widths (Num w n ∷ fs) = w ∷ widths fs
widths (Raw w b ∷ fs) = w ∷ widths fs
widths (Any w ∷ fs) = w ∷ widths fs

-- the fields without their values: two tables of one layout have the same kinds of fields, of the same widths
abbrev pub layout : List Field → List Field
layout [] = []
layout (Num w n ∷ fs) = Num w 0 ∷ layout fs
layout (Raw w b ∷ fs) = Raw w [] ∷ layout fs
layout (Any w ∷ fs) = Any w ∷ layout fs

-- A variable part of m, of which the fixed part tells place and length: these are its bytes, and where there
-- are any, they stand behind the fixed part and inside m.
pub record IsPart (m : List ℕ) (at len fixed : ℕ) (part : List ℕ) : Type 0 where
  pub bytes : part ≡ bytes_at len m at
  pub whole : length part ≡ len
  pub place : (len ≡ 0) ⊎ (fixed ≤ at) × (at + len ≤ length m)

-- A counted list of elements of one size behind the fixed part of m: these are its bytes, and there is one
-- element at least.
pub record IsCounted (m : List ℕ) (at count each : ℕ) (part : List ℕ) : Type 0 where
  pub bytes : part ≡ bytes_at (count * each) m at
  pub whole : length part ≡ count * each
  pub some : 0 < count
  pub place : at + count * each ≤ length m

-- the width of the one byte that stands for a part that must not be empty
abbrev pub filler : ℕ → ℕ
filler len = if len == 0 then 1 else 0
