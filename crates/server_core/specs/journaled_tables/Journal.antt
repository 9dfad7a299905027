-- The body that an event adds to a journal.
use Rattle.std.specs.Prelude.{◌≡◌, ◌⊎◌, ℕ, List, ◌++◌}
use Rattle.spec_exchange.specs.State as model
use Rattle.spec_journal.specs.Forms.{StandsFor}
use Rattle.journal_bytes.specs.record_bodies.Body.{IsBodyOf, bodies_of}

-- the bodies that an event's records make: none of none
abbrev pub OneBody : List model.Record → List (List ℕ) → Type 0
OneBody rs bodies = (body : List ℕ) × IsBodyOf body rs × (bodies ≡ bodies_of body)

-- ---- a crash while a body is written

-- it leaves the bodies before, or these and that of the records
abbrev pub LeavesBody : List (List ℕ) → List model.Record → List ℕ → Type 0
LeavesBody bodies records bytes = StandsFor bytes bodies
    ⊎ ((more : List (List ℕ)) × OneBody records more × StandsFor bytes (bodies ++ more))
