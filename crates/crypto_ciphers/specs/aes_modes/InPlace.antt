-- What opening in place leaves: where it opens, the text; else it doesn't open, and the bytes are as before.
use Rattle.std.specs.Prelude.{◌≡◌, ℕ, ◌+◌, Bool, true, false, List, [], ◌∷◌, ◌++◌, drop, Option, Some, None}
use Rattle.spec_crypto.specs.ciphers.Aes.{cipher}
use Rattle.spec_crypto.specs.ciphers.Blocks.{masked}

abbrev pub OpensInPlace : (Option (List ℕ) → Type 0) → List ℕ → List ℕ → Bool → Type 0
OpensInPlace opens old new true = opens (Some new)
OpensInPlace opens old new false = opens None × (new ≡ old)

-- the first n bytes masked, and the others as they were
abbrev pub masked_to : List (List ℕ) → (ℕ → List ℕ) → List ℕ → ℕ → List ℕ
masked_to ws f old n = masked ws f old n ++ drop n old

-- four counter blocks under the key, from number n on
abbrev pub run_of : List (List ℕ) → (ℕ → List ℕ) → ℕ → List (List ℕ)
run_of ws f n = cipher ws (f n) ∷ cipher ws (f (n + 1)) ∷ cipher ws (f (n + 2)) ∷ cipher ws (f (n + 3)) ∷ []
