-- The chain of a longer list, from any value on.
use Rattle.std.proofs.Common.{◌≡◌, ℕ, List, [], ◌∷◌, ◌++◌, refl}
use Rattle.spec_crypto.specs.sessions.Chain.{chain_from, value_behind}

pub chain_from-last : (value : List ℕ) (ms : List (List ℕ)) (m : List ℕ) → chain_from value (ms ++ m ∷ []) ≡
    value_behind (chain_from value ms) m
chain_from-last value [] m = refl
chain_from-last value (x ∷ xs) m = chain_from-last (value_behind value x) xs m
