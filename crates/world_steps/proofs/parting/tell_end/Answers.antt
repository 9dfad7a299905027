use Rattle.world_steps.proofs.parting.tell_end.Goals as goal

pub returns-in-Some : goal.returns-in-Some
returns-in-Some c = rw c.in-Some.is c.end.ensures
