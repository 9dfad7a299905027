use Rattle.server_core.proofs.logon_progress.Along.{lesser_ruled, refusal_status, ruled}
use Rattle.server_core.proofs.logon_progress.progress_law.Goals as goal

pub returns : goal.returns
returns c = record {
  ruled = ruled;
  lesser = lesser_ruled;
  refused = refusal_status;
}
