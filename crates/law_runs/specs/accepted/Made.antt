-- Each final response that a client accepted is one that a server made.
use Rattle.std.specs.Prelude.{◌^◌, ◌<◌, List}
use Rattle.spec_exchange.specs.Network.{Event}
use Rattle.spec_world.specs.Settings.{WorldSettings}
use Rattle.spec_world.specs.Statements.{plain_run, AcceptedIsMade}
use Rattle.law_ties.specs.wire_facts.Fitting.{IsFitting}
use Rattle.law_ties.specs.wire_facts.Steps.{restarts_in, submits_in}

abbrev pub PlainRunsAreMade : Type 0
PlainRunsAreMade =
    (z : WorldSettings) (events : List Event) → IsFitting z → restarts_in events < 4294967295 → submits_in events < 2 ^ 64 →
    AcceptedIsMade (plain_run z events)
