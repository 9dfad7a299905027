use Rattle.drill_command.proofs.settling.linking.drain.Goals as goal

pub returns : goal.returns
returns c = λ z d h. c.drain_on.ensures z d h
