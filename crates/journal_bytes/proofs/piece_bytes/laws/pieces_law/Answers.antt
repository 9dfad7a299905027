use Rattle.journal_bytes.proofs.piece_bytes.Again.{read_again}
use Rattle.journal_bytes.proofs.piece_bytes.One.{one_body, breaks_alone, breaks_once, apart}
use Rattle.journal_bytes.proofs.piece_bytes.laws.pieces_law.Goals as goal

pub returns-clause-one : goal.returns-clause-one
returns-clause-one c = λ m ps qs a b. one_body ps qs m 0 a b

pub returns-clause-whole : goal.returns-clause-whole
returns-clause-whole c = breaks_alone

pub returns-clause-first : goal.returns-clause-first
returns-clause-first c = breaks_once

pub returns-clause-again : goal.returns-clause-again
returns-clause-again c = read_again

pub returns-clause-apart : goal.returns-clause-apart
returns-clause-apart c = apart
