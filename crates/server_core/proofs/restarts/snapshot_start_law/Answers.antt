use Rattle.server_core.proofs.restarts.Over.{never_refused, same_over}
use Rattle.server_core.proofs.restarts.Starting.{starts_again}
use Rattle.server_core.proofs.restarts.snapshot_start_law.Goals as goal

pub returns : goal.returns
returns c = record {
  taken = never_refused c.records_law.ensures.one c.pieces_law.ensures.one c.pieces_law.ensures.apart c.records_law.ensures.whole
      c.pieces_law.ensures.whole c.one_meaning.ensures c.broken_means_nothing.ensures;
  same = same_over c.records_law.ensures.one c.pieces_law.ensures.one c.pieces_law.ensures.apart c.one_meaning.ensures;
  again = λ s bytes base found records kept others z count b stands spells.
      starts_again c.piece_fits_law.ensures.unfolded c.restart_over_law.ensures.stands c.restart_over_law.ensures.entries
      s base found records kept z count b.0 b.2
      (same_over c.records_law.ensures.one c.pieces_law.ensures.one c.pieces_law.ensures.apart c.one_meaning.ensures
      bytes b.0 others base found records kept b.1 b.2.spelled stands spells);
}
