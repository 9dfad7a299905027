-- The bodies that records make in the journal.
use Rattle.std.specs.Prelude.{◌≡◌, ℕ, ◌+◌, ◌==◌, ◌||◌, nat_le, Bool, List, [], ◌∷◌, length}
use Rattle.spec_exchange.specs.State as model
use Rattle.journal_bytes.specs.record_bytes.Grammar.{AreWritableRecords, records_spelling}
use Rattle.journal_bytes.specs.record_bytes.Meaning.{records_of}
use Rattle.journal_bytes.specs.declared.record_bytes.value.Record.{Record}

-- the body of records, which read back; empty of none
abbrev pub IsBody : List ℕ → List Record → Type 0
IsBody body [] = body ≡ []
IsBody body (r ∷ rs) = AreWritableRecords (r ∷ rs) × (body ≡ records_spelling (r ∷ rs))

-- the same of the model's records
abbrev pub IsBodyOf : List ℕ → List model.Record → Type 0
IsBodyOf body rs = (front : List Record) × (records_of front ≡ rs) × IsBody body front

-- the bodies that one makes: none of an empty one
abbrev pub bodies_of : List ℕ → List (List ℕ)
bodies_of [] = []
bodies_of (c ∷ cs) = (c ∷ cs) ∷ []

-- how many bytes it adds to a journal: its length in 4, itself, and the next gate
abbrev pub added_by : List ℕ → ℕ
added_by [] = 0
added_by (c ∷ cs) = 5 + length (c ∷ cs)

-- a body of so many bytes fits below the lower limit
abbrev pub fits_by : ℕ → ℕ → Bool
fits_by journal n = (n == 0) || nat_le (journal + 5 + n) 939524096
