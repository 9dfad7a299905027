use Rattle.std.proofs.Common.{◌≡◌, length}
use Rattle.law_scripts.specs.generated.ReadsBack.{numbered}
use Rattle.script_words.specs.generator.Making.{lines_left}
use Rattle.law_scripts.specs.script_runs.Runs.{did_all}
use Rattle.spec_world.specs.Courses.{Course}
use Rattle.spec_world.specs.Settings.{WorldSettings}
use Rattle.world_ends.specs.Shown.{ShowsWorld}
use Rattle.drill_command.proofs.generating.run_made.Given as goal

abbrev pub invariant-loop-made : goal.invariant-loop-made
invariant-loop-made l = (z : WorldSettings) (c : Course) → ShowsWorld z l.initial.world c.world
    → (d : Course)
    × (did_all z 0 (numbered 0 (lines_left l.initial.maker)) c ≡ did_all z l.count (numbered l.before (lines_left l.maker)) d)
    × ShowsWorld z l.world d.world

abbrev pub decreases-loop-made : goal.decreases-loop-made
decreases-loop-made l = length (lines_left l.maker)
