use Rattle.law_server.proofs.tables.Folded.{shut_recorded_keeps}
use Rattle.law_records.proofs.fold.Created.{marked_fits}
use Rattle.law_records.proofs.fold.laws.shut_law.Goals as goal

pub returns : goal.returns
returns c = record { marked = marked_fits; shut = shut_recorded_keeps }
