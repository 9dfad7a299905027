-- What a client asks fits its fields: its operations keep their limits, and its lock slots and their numbers are low.
use Rattle.std.specs.Prelude.{◌≡◌, ℕ, ◌<◌, ◌≤◌, true}
use Rattle.spec_exchange.specs.Operations.{keeps_limits}
use Rattle.spec_exchange.specs.Client.{Client}

pub record AsksFit (c : Client) : Type 0 where
  pub kept : (g : ℕ) → 0 < g → g ≤ c.taken → keeps_limits (c.op g) ≡ true
  pub slots : (g : ℕ) → c.slot_of g ≤ 64
  pub numbers : (g : ℕ) → c.number_of g < 16
