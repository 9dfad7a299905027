use Rattle.server_core.proofs.server.Server.signer.Goals as goal

pub returns : goal.returns
returns g c = λ base s L records h. c.signer_of.ensures s L h.shown.tables.sessions h.shown.logons
