use Rattle.law_server.proofs.tables.Run.{fitting, sound}
use Rattle.law_server.proofs.tables.fits_law.Goals as goal

pub returns : goal.returns
returns c = record { fit = fitting; sound = sound }
