use Rattle.drill_command.proofs.settling.settling.+least_ready.Given as goal

abbrev pub decreases-least_ready : goal.decreases-least_ready
decreases-least_ready l = l.count
