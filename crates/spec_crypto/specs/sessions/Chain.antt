-- The preauthentication integrity hash: a chain of SHA-512 over whole messages, each from its header on (MS-SMB2 3.3.5.4, 3.3.5.5).
use Rattle.std.specs.Prelude.{◌≡◌, ℕ, ◌≢◌, List, [], ◌∷◌, ◌++◌, replicate, Some, slice_get}
use Rattle.sha2.specs.Sha512.{sha512}

unfoldable pub hash : List ℕ → List ℕ
hash m = sha512 m

-- the value that the chain begins with
abbrev pub first_value : List ℕ
first_value = replicate 64 0

-- the value behind one more message
abbrev pub value_behind : List ℕ → List ℕ → List ℕ
value_behind value message = hash (value ++ message)

-- the value behind messages, the first of them first
abbrev pub chain_from : List ℕ → List (List ℕ) → List ℕ
chain_from value [] = value
chain_from value (m ∷ ms) = chain_from (value_behind value m) ms

abbrev pub chain : List (List ℕ) → List ℕ
chain messages = chain_from first_value messages

-- what is hashed for that
abbrev pub hashed_from : List ℕ → List (List ℕ) → List (List ℕ)
hashed_from value [] = []
hashed_from value (m ∷ ms) = (value ++ m) ∷ hashed_from (value_behind value m) ms

abbrev pub hashed : List (List ℕ) → List (List ℕ)
hashed messages = hashed_from first_value messages

-- one list of each of two lists of lists, which differ and have one hash
pub record Collide (xs ys : List (List ℕ)) : Type 0 where
  pub i : ℕ
  pub j : ℕ
  pub x : List ℕ
  pub y : List ℕ
  pub first : slice_get xs i ≡ Some x
  pub second : slice_get ys j ≡ Some y
  pub other : x ≢ y
  pub same : hash x ≡ hash y
