-- Message ids, as numbers and lists of numbers.
use Rattle.std.specs.Prelude.{ℕ, zero, suc, ◌+◌, ◌==◌, ◌&&◌, ◌||◌, max, nat_lt, nat_le, not, Bool, true, false, List}
use Rattle.std.specs.Prelude.{[], ◌∷◌, Some, None, filter, Option as Perhaps}

-- a charge of 0 counts as 1 (MS-SMB2 3.3.5.2.3)
abbrev pub counted : ℕ → ℕ
counted charge = max charge 1

-- this many ids, from the first upwards
abbrev pub ids_from : ℕ → ℕ → List ℕ
ids_from first zero = []
ids_from first (suc n) = first ∷ ids_from (first + 1) n

abbrev pub holds : List ℕ → ℕ → Bool
holds [] id = false
holds (x ∷ xs) id = (x == id) || holds xs id

abbrev pub times_if : Bool → ℕ
times_if true = 1
times_if false = 0

-- how often an id stands in a list
abbrev pub times : ℕ → List ℕ → ℕ
times id [] = 0
times id (x ∷ xs) = times_if (x == id) + times id xs

-- the id is one of the n from the first on
abbrev pub is_among : ℕ → ℕ → ℕ → Bool
is_among first n id = nat_le first id && nat_lt id (first + n)

-- what is held but the n ids from the first on
abbrev pub without : ℕ → ℕ → List ℕ → List ℕ
without first n held = filter (λ id. not (is_among first n id)) held

abbrev pub gap_if : Bool → ℕ → Perhaps ℕ → Perhaps ℕ
gap_if true first further = further
gap_if false first further = Some first

-- the least of the n ids from the first on that is not held, if there is one
abbrev pub outside : List ℕ → ℕ → ℕ → Perhaps ℕ
outside held first zero = None
outside held first (suc n) = gap_if (holds held first) first (outside held (first + 1) n)
