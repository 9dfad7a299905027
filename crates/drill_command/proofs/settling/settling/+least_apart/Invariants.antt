use Rattle.drill_command.proofs.settling.settling.+least_apart.Given as goal

abbrev pub decreases-least_apart : goal.decreases-least_apart
decreases-least_apart l = l.count
