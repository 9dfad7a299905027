use Rattle.server_effects.proofs.creates.asked.Goals as goal

pub returns-in-Create : goal.returns-in-Create
returns-in-Create c = rw c.in-Create.is c.asked_by.ensures
