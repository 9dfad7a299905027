use Rattle.drill_command.proofs.settling.linking.+take_on.Given as goal

abbrev pub decreases-take_on : goal.decreases-take_on
decreases-take_on l = l.most
