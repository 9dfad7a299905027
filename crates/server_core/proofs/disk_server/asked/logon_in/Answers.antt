use Rattle.server_core.proofs.disk_server.asked.logon_in.Goals as goal

pub returns-in_ok-logon-in-Setup : goal.returns-in_ok-logon-in-Setup
returns-in_ok-logon-in-Setup g c = λ base s L records h. rw c.in-Setup.is (c.in_ok-logon-in-Setup.ensures base s L records h)
