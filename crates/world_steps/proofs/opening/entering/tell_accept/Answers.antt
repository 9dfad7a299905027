use Rattle.world_steps.proofs.opening.entering.tell_accept.Goals as goal

pub returns-in-Some : goal.returns-in-Some
returns-in-Some c = rw c.in-Some.is c.accept.ensures
