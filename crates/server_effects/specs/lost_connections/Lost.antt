-- The first of connections that are lost.
use Rattle.std.specs.Prelude.{ℕ, Bool, false, List, [], ◌∷◌}
use Rattle.spec_exchange.specs.Effects.{acts_if_named}
use Rattle.spec_exchange.specs.State.{Server}
use Rattle.spec_exchange.specs.Step.{ends_with, take_out}

abbrev pub first_out : Server → List ℕ → ℕ → Bool → Server
first_out s [] now is_quiet = s
first_out s (k ∷ ks) now is_quiet = take_out s k now is_quiet

abbrev pub first_acts : Server → List ℕ → Bool
first_acts s [] = false
first_acts s (k ∷ ks) = acts_if_named s (ends_with s k)
