use Rattle.drill_command.proofs.settling.settling.+drop_each.Given as goal

abbrev pub decreases-drop_each : goal.decreases-drop_each
decreases-drop_each l = l.count
