-- Each sealed frame that is on its way is noted among what the ends sealed.
use Rattle.std.specs.Prelude.{◌^◌, ◌<◌, List}
use Rattle.spec_exchange.specs.Network.{Event}
use Rattle.spec_world.specs.Settings.{WorldSettings}
use Rattle.spec_world.specs.Statements.{plain_run, SealsAreKept}
use Rattle.law_ties.specs.wire_facts.Fitting.{IsFitting}
use Rattle.law_ties.specs.wire_facts.Steps.{restarts_in, submits_in}

abbrev pub PlainSealsAreKept : Type 0
PlainSealsAreKept =
    (z : WorldSettings) (events : List Event) → IsFitting z → restarts_in events < 4294967295 → submits_in events < 2 ^ 64 →
    SealsAreKept (plain_run z events)
