use Rattle.law_snapshots.proofs.restarts.Again.{entries, fits, goes_on, plain, stands}
use Rattle.law_snapshots.proofs.restarts.restart_over_law.Goals as goal

pub returns : goal.returns
returns c = record { stands = stands; entries = entries; goes_on = goes_on; fits = fits; plain = plain }
