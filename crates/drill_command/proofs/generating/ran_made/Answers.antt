use Rattle.script_words.specs.generator.Making.{lines_left}
use Rattle.law_scripts.specs.script_setup.Scripts.{drill_settings}
use Rattle.drill_command.specs.TopCall.{plain, run_left}
use Rattle.drill_command.proofs.Summed.{ran_left}
use Rattle.drill_command.proofs.generating.ran_made.Goals as goal

pub returns : goal.returns
returns c = λ connects.
    c.summed_behind.ensures (drill_settings plain c.args.seed) (run_left (lines_left c.args.maker) c.args.seed)
    (ran_left (lines_left c.args.maker) c.in_ok-settings.settings c.args.seed c.in_ok-world.world c.run_made-refused.new.world c.end.result
    c.run_made-refused.result c.in_ok-settings.ensures c.in_ok-world.ensures c.run_made-refused.ensures c.end.ensures connects)
