use Rattle.world_steps.proofs.dialogs.going.say_on.Goals as goal

pub returns-in-Ok : goal.returns-in-Ok
returns-in-Ok c = record { channel = c.in-Ok.channel; talks = c.in-Ok.ensures; placed = c.put_channel.ensures }
