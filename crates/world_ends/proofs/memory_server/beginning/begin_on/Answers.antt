use Rattle.world_ends.proofs.memory_server.beginning.begin_on.Goals as goal

pub returns-in-Ok : goal.returns-in-Ok
returns-in-Ok c = record { begins = c.in-Ok.ensures.holds; config = c.in-Ok.ensures.config }
