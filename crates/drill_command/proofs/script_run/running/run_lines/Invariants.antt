use Rattle.std.proofs.Common.{◌≡◌, length}
use Rattle.spec_world.specs.Courses.{Course}
use Rattle.spec_world.specs.Settings.{WorldSettings}
use Rattle.world_ends.specs.Shown.{ShowsWorld}
use Rattle.law_scripts.specs.script_runs.Runs.{did_all}
use Rattle.drill_command.proofs.script_run.running.run_lines.Given as goal

abbrev pub invariant-loop-line : goal.invariant-loop-line
invariant-loop-line l = (z : WorldSettings) (c : Course) → ShowsWorld z l.initial.world c.world
    → (d : Course) × (did_all z 0 l.initial.lines.items c ≡ did_all z l.count l.lines.items d) × ShowsWorld z l.world d.world

abbrev pub decreases-loop-line : goal.decreases-loop-line
decreases-loop-line l = length l.lines.items
