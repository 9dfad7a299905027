-- At each success of a binding that comes, a session has a number for one more channel.
use Rattle.std.specs.Prelude.{◌^◌, ◌<◌, List}
use Rattle.spec_exchange.specs.Network.{Event}
use Rattle.spec_world.specs.Settings.{WorldSettings}
use Rattle.spec_world.specs.Events.{bytes_start}
use Rattle.law_ties.specs.wire_facts.Fitting.{IsFitting}
use Rattle.law_ties.specs.wire_facts.Steps.{restarts_in, submits_in}
use Rattle.law_nonces.specs.client_nonces.Sent.{HasSealingRoom}

abbrev pub PlainRunsHaveRoom : Type 0
PlainRunsHaveRoom =
    (z : WorldSettings) (events : List Event) → IsFitting z → restarts_in events < 4294967295 → submits_in events < 2 ^ 64 →
    HasSealingRoom z events (bytes_start z)
