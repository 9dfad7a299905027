-- What is spelled is what the reader's definition gives, and then the command that is made of it.
use Rattle.std.proofs.Common.{◌≡◌, ℕ, List, Option, None, ap, ◌∙◌}
use Rattle.spec_wire.specs.declared.messages.error.MessageError.{MessageError}
use Rattle.spec_exchange.specs.Commands.{Command}
use Rattle.spec_commands.specs.CommandOf.{unless}

module _ {V : Type 0} (Spells : List ℕ → V → Type 0) (fault : List ℕ → Option MessageError) (value : List ℕ → V) where
  -- by the three laws of a message
  pub found : ((m : List ℕ) (v w : V) → Spells m v → Spells m w → v ≡ w) → ((m : List ℕ) (v : V) → Spells m v → fault m
      ≡ None) → ((m : List ℕ) → fault m ≡ None → Spells m (value m))
      → (m : List ℕ) (v : V) → Spells m v → (fault m ≡ None) × (value m ≡ v)
  found one whole given m v s = let none = whole m v s in (none, one m (value m) v (given m none) s)

  pub read_as : (f : V → Command) (m : List ℕ) (v : V) → (fault m ≡ None) × (value m ≡ v) → unless (fault m) (f (value m)) ≡ f v
  read_as f m v is = ap (λ (e : Option MessageError). unless e (f (value m))) is.0 ∙ ap f is.1
