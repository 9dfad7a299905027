use Rattle.std.proofs.Common.{[]}
use Rattle.server_core.proofs.SnapshotBodies.{over_none}
use Rattle.server_core.proofs.restarts.Over.{never_refused}
use Rattle.server_core.proofs.restarts.Spelled.{same_records}
use Rattle.server_core.proofs.restarts.Stands.{files_again, stands_again}
use Rattle.server_core.proofs.restarts.restart_law.Goals as goal

pub returns : goal.returns
returns c = record {
  taken = λ bytes bodies records at stands spelled ok. never_refused c.records_law.ensures.one c.pieces_law.ensures.one
      c.pieces_law.ensures.apart c.records_law.ensures.whole c.pieces_law.ensures.whole c.one_meaning.ensures c.broken_means_nothing.ensures
      bytes bodies [] records at stands (over_none bodies records spelled) ok;
  same = same_records c.records_law.ensures.one c.one_meaning.ensures;
  stands = stands_again;
  entries = files_again;
}
