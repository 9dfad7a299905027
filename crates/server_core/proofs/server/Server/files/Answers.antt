use Rattle.server_core.proofs.server.Server.files.Goals as goal

pub returns-in-Ok : goal.returns-in-Ok
returns-in-Ok g c = λ s L shown. c.in-Ok.ensures s shown.tables.files
