use Rattle.drill_command.proofs.running.told_behind.Goals as goal

pub returns : goal.returns
returns c = c.told.ensures
