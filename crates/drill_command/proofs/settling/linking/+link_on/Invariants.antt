use Rattle.drill_command.proofs.settling.linking.+link_on.Given as goal

abbrev pub decreases-link_on : goal.decreases-link_on
decreases-link_on l = l.turns
