-- The numbers of what the client sends in a repeat run, where nothing is forged.
use Rattle.std.specs.Prelude.{List}
use Rattle.spec_world.specs.Settings.{WorldSettings}
use Rattle.spec_hostile.specs.RepeatRuns.{RepeatEvent, repeat_start}
use Rattle.spec_hostile.specs.SignedFor.{watching}
use Rattle.spec_hostile.specs.HostileNetwork.{SignsAlone, IsBounded, repeated}
use Rattle.law_hostile.specs.unforged.Unforged.{AllSigned}
use Rattle.law_hostile.specs.replied.Awaited.{LinesFit}

-- of each request of a line that was put up
abbrev pub OwnLinesFit : Type 0
OwnLinesFit =
    (z : WorldSettings) (es : List RepeatEvent) → SignsAlone z → IsBounded z es → AllSigned z es (watching (repeat_start z))
    → LinesFit z (repeated z es)
