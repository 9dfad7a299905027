-- What keeps bytes from being a message: the first break in the order of the table.
use Rattle.std.specs.Prelude.{◌≡◌, ℕ, ◌+◌, ◌*◌, ◌||◌, ◌&&◌, ◌==◌, nat_lt, nat_le, if◌then◌else◌, List, [], ◌∷◌, length}
use Rattle.std.specs.Prelude.{Option, Some, None, Result, Ok, Err}
use Rattle.spec_wire.specs.messages.Places.{number}
use Rattle.spec_wire.specs.messages.Table.{Field, widths}
use Rattle.spec_wire.specs.declared.messages.error.Part.{Part}
use Rattle.spec_wire.specs.declared.messages.error.MessageError.{MessageError}
use Rattle.spec_wire.specs.declared.messages.error.MessageError.TheVariants.{Short, BadSize, BadOffset, BadCount}

-- the first of two breaks
infixl 10 ◌or_else◌
abbrev pub ◌or_else◌ : Option MessageError → Option MessageError → Option MessageError
(Some e) or_else f = Some e
None or_else f = f

-- the place of the first field, of those of these widths from `at` on, for which there are too few bytes
abbrev pub short_fault : List ℕ → ℕ → List ℕ → Option MessageError
short_fault m at [] = None
short_fault m at (w ∷ ws) = if nat_lt (length m) (at + w) then Some (Short at) else short_fault m (at + w) ws

-- the same for a message: its header is the first field, and the fields of the fixed part stand behind it
abbrev pub fields_fault : List ℕ → List Field → Option MessageError
fields_fault m fs = short_fault m 0 (64 ∷ widths fs)

-- the StructureSize, which stands behind the header, where it is another one
abbrev pub size_fault : List ℕ → ℕ → Option MessageError
size_fault m size = if number 2 m 64 == size then None else Some (BadSize (number 2 m 64))

-- a part that isn't empty, and isn't behind the fixed part and inside the message
unfoldable pub part_fault : List ℕ → ℕ → ℕ → ℕ → Part → Option MessageError
part_fault m at len fixed part = if (len == 0) || (nat_le fixed at && nat_le (at + len) (length m)) then None else Some (BadOffset part)

-- a list that is empty or doesn't fit
unfoldable pub count_fault : List ℕ → ℕ → ℕ → ℕ → Part → Option MessageError
count_fault m at count each part = if (count == 0) || nat_lt (length m) (at + count * each) then Some (BadCount part) else None

-- What a reader answered: where nothing breaks, a value that, as `view` sees it, the message spells; else the
-- first break.
abbrev pub Reads : {X V E : Type 0} → Option E → (V → Type 0) → (X → V) → Result X E → Type 0
Reads fault Spells view (Ok x) = (fault ≡ None) × Spells (view x)
Reads fault Spells view (Err e) = fault ≡ Some e
