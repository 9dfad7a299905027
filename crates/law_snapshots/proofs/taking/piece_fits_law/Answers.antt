use Rattle.law_snapshots.proofs.taking.Taken.{parts_joined, piece_ascends, piece_fits, unfolded_fits}
use Rattle.law_snapshots.proofs.taking.piece_fits_law.Goals as goal

pub returns : goal.returns
returns c = record {
  fits = piece_fits;
  ascends = piece_ascends;
  unfolded = unfolded_fits c.keeps_law.ensures.begins;
  joined = parts_joined;
}
