-- Bytes of texts.
use Rattle.std.proofs.Common.{◌≡◌, ℕ, List, [], ◌∷◌, refl}
use Rattle.std.specs.Str.{bytes_eq}
use Rattle.spec_exchange.specs.Content.{same_bytes}

pub same_is : (a b : List ℕ) → same_bytes a b ≡ bytes_eq a b
unfolding same_bytes
same_is [] [] = refl
same_is [] (y ∷ ys) = refl
same_is (x ∷ xs) [] = refl
same_is (x ∷ xs) (y ∷ ys) = rw (same_is xs ys) refl
