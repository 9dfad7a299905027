-- What reading a script and writing a text do to a source and a sink.
use Rattle.std.specs.Prelude.{◌≡◌, ℕ, ◌<◌, ◌≤◌, List, ◌++◌, length, take, Option}
use Rattle.std.specs.Io.KnownBytes.{Appends, Consumes, IsAtEnd}
use Rattle.base_outside.specs.streams.Faults.{Rose}
use Rattle.base_outside.specs.declared.whole_texts.read_error.ReadError.{ReadError}
use Rattle.base_outside.specs.declared.whole_texts.read_error.ReadError.TheVariants.{Memory, Failed}

-- One read of so many bytes into so much room was added to a text.
pub record OutsideTakes (left left' : Option (List ℕ)) (text text' : List ℕ) (room count : ℕ) : Type 0 where
  pub bytes : List ℕ
  pub read : Consumes left left' bytes
  pub added : text' ≡ text ++ bytes
  pub counted : length bytes ≡ count
  pub fits : count ≤ room
  pub ended : count ≡ 0 → 0 < room → IsAtEnd left'

-- The text was read, to the source's end unless it passes the limit on a script's bytes.
pub record HasRead (left left' : Option (List ℕ)) (text : List ℕ) : Type 0 where
  pub read : Consumes left left' text
  pub ended : length text ≤ 268_435_456 → IsAtEnd left'

-- reading failed only where the count of faults rose, and where memory ran out it stayed
abbrev pub HasOutsideFailed : ℕ → ℕ → ReadError → Type 0
HasOutsideFailed old new Memory = new ≡ old
HasOutsideFailed old new Failed = Rose old new

-- a front of the text was written
abbrev pub AppendsFront : Option (List ℕ) → Option (List ℕ) → List ℕ → Type 0
AppendsFront written written' text = (count : ℕ) × Appends written written' (take count text)
