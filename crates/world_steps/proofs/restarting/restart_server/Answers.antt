use Rattle.world_steps.proofs.restarting.restart_server.Goals as goal

pub returns-in-Ok : goal.returns-in-Ok
returns-in-Ok c = record { channels = c.close_servers.ensures; server = c.in-Ok.ensures }
