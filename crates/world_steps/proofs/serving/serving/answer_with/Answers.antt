use Rattle.world_steps.proofs.serving.serving.answer_with.Goals as goal

pub returns-in-Some : goal.returns-in-Some
returns-in-Some c = rw c.in-Some.is c.go.ensures

pub returns-in-None : goal.returns-in-None
returns-in-None c = rw c.in-None.is c.end.ensures
