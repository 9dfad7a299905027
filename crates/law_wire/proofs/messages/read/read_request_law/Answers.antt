use Rattle.spec_wire.specs.messages.Read.{read_request_table}
use Rattle.law_wire.proofs.messages.Rows.{table_again}
use Rattle.law_wire.proofs.messages.read.read_request_law.Goals as goal

pub returns-clause-again : goal.returns-clause-again
returns-clause-again c = λ header rest v e fit. table_again (read_request_table v) header rest 64 e fit
