use Rattle.journal_bytes.proofs.piece_bytes.Sizes.{written_size, largest}
use Rattle.journal_bytes.proofs.piece_bytes.laws.largest_law.Goals as goal

pub returns-clause-size : goal.returns-clause-size
returns-clause-size c = written_size

pub returns-clause-largest : goal.returns-clause-largest
returns-clause-largest c = largest
