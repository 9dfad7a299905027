-- Whether a reply settled an operation from one state of a client to another.
use Rattle.std.specs.Prelude.{◌≡◌, ℕ, Bool, true, false, [], ◌∷◌, ◌++◌, Some, ◌⊎◌}
use Rattle.spec_exchange.specs.Table.{put}
use Rattle.spec_exchange.specs.Client.{Client}
use Rattle.spec_exchange.specs.ClientStep.{ClientEvent, Hears}

abbrev pub is_client_response : ClientEvent → Bool
is_client_response (Hears k g asking reply place) = true
is_client_response _ = false

pub record SettlesNone (c d : Client) : Type 0 where
  pub order : d.order ≡ c.order
  pub settled_by : d.settled_by ≡ c.settled_by

-- the reply of the message at this place settled this operation
pub record ClientSettles (c : Client) (g place : ℕ) (d : Client) : Type 0 where
  pub order : d.order ≡ c.order ++ g ∷ []
  pub settled_by : d.settled_by ≡ put c.settled_by g (Some place)

-- but for the place of the message whose reply settled an operation they are one
abbrev pub AreAlike : Client → Client → Type 0
AreAlike c d = (c ≡ d) ⊎ (c ≡ record d { settled_by = c.settled_by })
