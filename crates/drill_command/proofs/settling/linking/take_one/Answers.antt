use Rattle.drill_command.proofs.settling.linking.take_one.Goals as goal

pub returns : goal.returns
returns c = λ z d h. c.go.ensures z d h
