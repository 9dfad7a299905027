-- Information that is written alone reads back.
use Rattle.std.proofs.Common.{◌≡◌, ℕ, List, [], ◌++◌, Option, None, subst}
use Rattle.std.proofs.lemmas.List.{append-nil}
use Rattle.spec_wire.specs.declared.messages.error.MessageError.{MessageError}
use Rattle.law_commands.proofs.commands.ReadBack.{found}

module _ {V : Type 0} (Spells : List ℕ → V → Type 0) (fault : List ℕ → Option MessageError) (value : List ℕ → V) (Fits :
    V → Type 0) (spelling : V → List ℕ) where
  -- by the four laws of a class
  pub alone : ((m : List ℕ) (v w : V) → Spells m v → Spells m w → v ≡ w) → ((m : List ℕ) (v : V) → Spells m v → fault m
      ≡ None) → ((m : List ℕ) → fault m ≡ None → Spells m (value m))
      → ((rest : List ℕ) (v : V) → Fits v → Spells (spelling v ++ rest) v)
      → (v : V) → Fits v → (fault (spelling v) ≡ None) × (value (spelling v) ≡ v)
  alone one whole given again v fit = found Spells fault value one whole given (spelling v) v (subst (λ (m : List ℕ).
      Spells m v) (append-nil (spelling v)) (again [] v fit))
