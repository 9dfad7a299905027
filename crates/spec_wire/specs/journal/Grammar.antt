-- The parts of a journal: a magic, then for each body an open gate, the body's length in four bytes and the
-- body, and behind the last one a closed gate and any bytes.
use Rattle.std.specs.Prelude.{◌≢◌, ℕ, ◌^◌, ◌<◌, List, [], ◌∷◌, ◌++◌, length}
use Rattle.spec_wire.specs.messages.Places.{le}

-- the magic at the front: `smb311j1`
abbrev pub magic : List ℕ
magic = 115 ∷ 109 ∷ 98 ∷ 51 ∷ 49 ∷ 49 ∷ 106 ∷ 49 ∷ []

-- a gate is open exactly where it is 01, and else closed
abbrev pub IsClosed : ℕ → Type 0
IsClosed gate = gate ≢ 1

-- a body with its length in front
abbrev pub entry : List ℕ → List ℕ
entry body = le 4 (length body) ++ body

-- these bodies, each behind an open gate
abbrev pub opened : List (List ℕ) → List ℕ
opened [] = []
opened (body ∷ bodies) = 1 ∷ (entry body ++ opened bodies)

-- all that stands before the gate behind these bodies
abbrev pub front : List (List ℕ) → List ℕ
front bodies = magic ++ opened bodies

-- four bytes can tell each body's length
abbrev pub AllFit : List (List ℕ) → Type 0
AllFit [] = Unit {0}
AllFit (body ∷ bodies) = (length body < 2 ^ 32) × AllFit bodies
