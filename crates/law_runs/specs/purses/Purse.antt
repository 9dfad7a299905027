-- What the client's end of a ready channel holds while nothing is on its way, in a run without tampering.
use Rattle.std.specs.Prelude.{◌≡◌, ℕ, ◌+◌, ◌<◌, ◌^◌, true, List, [], ◌∷◌}
use Rattle.spec_exchange.specs.Network.{Event, Push}
use Rattle.spec_world.specs.Settings.{WorldSettings}
use Rattle.spec_world.specs.Ends.{ClientEnd}
use Rattle.spec_world.specs.Sending.{may_seal}
use Rattle.spec_world.specs.World.{World}
use Rattle.spec_world.specs.Statements.{plain_run}
use Rattle.law_ties.specs.wire_facts.Fitting.{IsFitting}
use Rattle.law_ties.specs.wire_facts.Steps.{restarts_in, submits_in}

unfoldable pub pushes_in : List Event → ℕ
pushes_in [] = 0
pushes_in (Push k slotless pick ∷ es) = 1 + pushes_in es
pushes_in (e ∷ es) = pushes_in es

-- a ready channel whose server's end is open, with nothing on its way
pub record IsStill (w : World) (k : ℕ) : Type 0 where
  pub ready : w.values.client.ready k ≡ true
  pub server_open : (w.values.conns k).server_open ≡ true
  pub up : (w.values.conns k).up ≡ []
  pub down : (w.values.conns k).down ≡ []

-- all credits, and a nonce where one is wanted
pub record HasAll (n : ClientEnd) : Type 0 where
  pub held : n.purse.held ≡ 512
  pub nonce : may_seal n ≡ true

abbrev pub StillChannelsHaveAll : Type 0
StillChannelsHaveAll =
    (z : WorldSettings) (events : List Event) → IsFitting z → restarts_in events < 4294967295 → submits_in events < 2 ^ 64
    → pushes_in events < 2 ^ 54 → (k : ℕ) → IsStill (plain_run z events) k → HasAll ((plain_run z events).wires k).client_end
