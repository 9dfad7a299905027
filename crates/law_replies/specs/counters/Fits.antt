-- What was taken keeps the limits at which it is taken, and the moment fits 8 bytes.
use Rattle.std.specs.Prelude.{◌≡◌, ℕ, ◌<◌, ◌≤◌, true, List}
use Rattle.spec_exchange.specs.State.{last_moment}
use Rattle.spec_exchange.specs.Operations.{keeps_limits}
use Rattle.spec_exchange.specs.Client.{Client}
use Rattle.spec_exchange.specs.Network.{Event, World, Settings, run, start}

abbrev pub AreKept : Client → Type 0
AreKept c = (g : ℕ) → 0 < g → g ≤ c.taken → keeps_limits (c.op g) ≡ true

pub record CounterFits (w : World) : Type 0 where
  pub kept : AreKept w.client
  pub moment : w.moment ≤ last_moment

abbrev pub OperationsFit : Type 0
OperationsFit = (z : Settings) (events : List Event) → CounterFits (run events (start z))
