use Rattle.drill_command.proofs.settling.settling.+drain_each.Given as goal

abbrev pub decreases-drain_each : goal.decreases-drain_each
decreases-drain_each l = l.count
