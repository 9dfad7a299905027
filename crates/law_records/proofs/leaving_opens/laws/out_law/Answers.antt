use Rattle.law_records.proofs.leaving_opens.Out.{ends_there, stays_left, stand_yet, ended_there}
use Rattle.law_records.proofs.leaving_opens.laws.out_law.Goals as goal

pub returns : goal.returns
returns c = record { ends = ends_there; stays = stays_left; standing = stand_yet; ended = ended_there }
