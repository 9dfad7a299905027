-- What is spelled of a response is what is heard of it.
use Rattle.std.proofs.Common.{◌≡◌, ℕ, List, Option, None, ap, ◌∙◌}
use Rattle.spec_wire.specs.declared.messages.error.MessageError.{MessageError}
use Rattle.spec_exchange.specs.State.{Body}
use Rattle.spec_commands.specs.ReplyOf.{unless}

pub unbroken : (e : Option MessageError) (b : Option Body) → e ≡ None → unless e b ≡ b
unbroken e b none = ap (λ (x : Option MessageError). unless x b) none

module _ {V : Type 0} (fault : List ℕ → Option MessageError) (value : List ℕ → V) where
  pub heard_as : (f : V → Option Body) (m : List ℕ) (v : V) → (fault m ≡ None) × (value m ≡ v) → unless (fault m) (f (value m)) ≡ f v
  heard_as f m v is = unbroken (fault m) (f (value m)) is.0 ∙ ap f is.1
