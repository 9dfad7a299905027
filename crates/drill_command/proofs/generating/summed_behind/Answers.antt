use Rattle.drill_command.proofs.generating.summed_behind.Goals as goal

pub returns : goal.returns
returns c = c.summed.ensures
