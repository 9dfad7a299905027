-- Opens of a snapshot under way.
use Rattle.std.specs.Prelude.{◌≡◌, ℕ, List, true}
use Rattle.spec_exchange.specs.Table.{has}
use Rattle.spec_exchange.specs.State.{Server}

-- each is persistent
abbrev pub ArePersistent : Server → List ℕ → Type 0
ArePersistent s os = (o : ℕ) → has o os ≡ true → (s.opened o).persistent ≡ true
