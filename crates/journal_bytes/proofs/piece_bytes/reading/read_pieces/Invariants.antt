use Rattle.std.specs.Prelude.{◌-◌, length}
use Rattle.journal_bytes.proofs.piece_bytes.Walk.{Walked}
use Rattle.journal_bytes.proofs.piece_bytes.reading.read_pieces.Given as goal

abbrev pub invariant-loop-at : goal.invariant-loop-at
invariant-loop-at l = Walked l.body l.at l.pieces

abbrev pub decreases-loop-at : goal.decreases-loop-at
decreases-loop-at l = length l.body - l.at
