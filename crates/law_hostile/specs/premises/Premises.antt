-- Of which repeat runs the premise on sizes holds.
use Rattle.std.specs.Prelude.{◌<◌, List, length}
use Rattle.spec_world.specs.Settings.{WorldSettings}
use Rattle.law_ties.specs.wire_facts.Fitting.{IsFitting}
use Rattle.spec_hostile.specs.RepeatRuns.{RepeatEvent}
use Rattle.spec_hostile.specs.HostileNetwork.{IsBounded}

-- of fewer than 2^32 - 1 events
abbrev pub ShortRunsAreBounded : Type 0
ShortRunsAreBounded = (z : WorldSettings) (es : List RepeatEvent) → IsFitting z → length es < 4294967295 → IsBounded z es
