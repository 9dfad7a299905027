-- A journal that is written anew in front of an event: what a server may show then.
use Rattle.std.specs.Prelude.{◌≡◌, ◌⊎◌, ℕ, List, [], Option, Some, None}
use Rattle.spec_exchange.specs.State as model
use Rattle.spec_world.specs.Ends.{Logons}
use Rattle.conn_core.specs.served.Serving.{Showing}

-- It goes on and shows what it showed; or the journal was written anew, so that it takes so many bytes and no records stand behind the base
-- that it begins with, and all else is as it was; or the server stopped.
abbrev pub RenewedTo : Showing → Option ℕ → model.Server → Logons → List model.Record → Type 0
RenewedTo shown stopped s L records = ((stopped ≡ None) × shown s L records)
    ⊎ (((stopped ≡ None) × (n : ℕ) × shown (record s { journal = n }) L []) ⊎ ((count : ℕ) × (stopped ≡ Some count)))
