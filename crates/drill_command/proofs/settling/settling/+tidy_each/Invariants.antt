use Rattle.drill_command.proofs.settling.settling.+tidy_each.Given as goal

abbrev pub decreases-tidy_each : goal.decreases-tidy_each
decreases-tidy_each l = l.count
