use Rattle.world_steps.proofs.opening.entering.place.Goals as goal

pub returns-in-Ok : goal.returns-in-Ok
returns-in-Ok c = record { channel = c.in-Ok.channel; opened = c.in-Ok.ensures; placed = c.put_channel.ensures }
