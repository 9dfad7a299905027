use Rattle.spec_wire.specs.messages.Flush.{flush_request_table}
use Rattle.law_wire.proofs.messages.Rows.{table_again}
use Rattle.law_wire.proofs.messages.flush.flush_request_law.Goals as goal

pub returns-clause-again : goal.returns-clause-again
returns-clause-again c = λ header rest v e fit. table_again (flush_request_table v) header rest 64 e fit
