-- Tables as functions of one key or two, and the small lists beside them.
use Rattle.std.specs.Prelude.{ℕ, ◌==◌, nat_lt, Bool, true, false, if◌then◌else◌, List, [], ◌∷◌, Option, Some, None}

-- the table with v at k
abbrev pub put : {X : Type 0} → (ℕ → X) → ℕ → X → ℕ → X
put f k v q = if q == k then v else f q

-- the table with v at i and j
abbrev pub put2 : {X : Type 0} → (ℕ → ℕ → X) → ℕ → ℕ → X → ℕ → ℕ → X
put2 f i j v q r = if q == i then (if r == j then v else f q r) else f q r

abbrev pub has : ℕ → List ℕ → Bool
has n [] = false
has n (x ∷ xs) = if x == n then true else has n xs

-- the list without each n
abbrev pub without : ℕ → List ℕ → List ℕ
without n [] = []
without n (x ∷ xs) = if x == n then without n xs else x ∷ without n xs

-- an ascending list with n at its place
abbrev pub placed_in : ℕ → List ℕ → List ℕ
placed_in n [] = n ∷ []
placed_in n (x ∷ xs) = if nat_lt n x then n ∷ x ∷ xs else x ∷ placed_in n xs

-- the list isn't empty
unfoldable pub is_filled : {X : Type 0} → List X → Bool
is_filled [] = false
is_filled (x ∷ xs) = true

-- whether the option holds this number
abbrev pub is_at : ℕ → Option ℕ → Bool
is_at n None = false
is_at n (Some i) = i == n

-- the number that the option holds, or 0
abbrev pub number_or_zero : Option ℕ → ℕ
number_or_zero None = 0
number_or_zero (Some n) = n
