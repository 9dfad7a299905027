-- Bytes of a write.
use Rattle.std.proofs.Common.{◌≡◌, ℕ, ◌==◌, List, [], ◌∷◌, length, refl, arith}
use Rattle.spec_exchange.specs.Content.{is_empty}

pub empty_is : (xs : List ℕ) → (length xs == 0) ≡ is_empty xs
unfolding is_empty
empty_is [] = refl
empty_is (x ∷ xs) = grind arith
