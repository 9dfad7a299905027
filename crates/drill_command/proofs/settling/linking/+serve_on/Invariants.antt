use Rattle.drill_command.proofs.settling.linking.+serve_on.Given as goal

abbrev pub decreases-serve_on : goal.decreases-serve_on
decreases-serve_on l = l.most
