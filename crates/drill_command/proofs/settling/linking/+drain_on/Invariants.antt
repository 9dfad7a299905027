use Rattle.drill_command.proofs.settling.linking.+drain_on.Given as goal

abbrev pub decreases-drain_on : goal.decreases-drain_on
decreases-drain_on l = l.turns
