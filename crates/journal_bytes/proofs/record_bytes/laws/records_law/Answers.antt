use Rattle.journal_bytes.proofs.record_bytes.Again.{read_again}
use Rattle.journal_bytes.proofs.record_bytes.Allowed.{all_writable}
use Rattle.journal_bytes.proofs.record_bytes.One.{one_body, breaks_alone, breaks_once}
use Rattle.journal_bytes.proofs.record_bytes.Sizes.{written_size}
use Rattle.journal_bytes.proofs.record_bytes.laws.records_law.Goals as goal

pub returns-clause-one : goal.returns-clause-one
returns-clause-one c = λ v m rs ss a b. one_body rs ss v m 0 a b

pub returns-clause-whole : goal.returns-clause-whole
returns-clause-whole c = breaks_alone

pub returns-clause-first : goal.returns-clause-first
returns-clause-first c = breaks_once

pub returns-clause-again : goal.returns-clause-again
returns-clause-again c = read_again

pub returns-clause-size : goal.returns-clause-size
returns-clause-size c = written_size

pub returns-clause-fit : goal.returns-clause-fit
returns-clause-fit c = all_writable

pub returns-clause-fit_again : goal.returns-clause-fit_again
returns-clause-fit_again c = λ rs fit is. read_again rs (all_writable rs fit is)
