use Rattle.law_scripts.specs.script_setup.Scripts.{settings_in}
use Rattle.script_words.specs.text_lines.Views.{read_of}
use Rattle.drill_command.specs.Playing.{run_of}
use Rattle.drill_command.proofs.Played.{ran_by}
use Rattle.drill_command.proofs.running.ran.Goals as goal

pub returns : goal.returns
returns c = λ connects.
    let read = read_of c.args.read in
    c.told_behind.ensures (settings_in read c.args.seed) (run_of read c.args.seed)
    (ran_by read c.in_ok-settings.settings c.args.seed c.in_ok-world.world c.run_lines-refused.new.world c.end.result
    c.run_lines-refused.result c.in_ok-settings.ensures c.in_ok-world.ensures c.run_lines-refused.ensures c.end.ensures connects)
