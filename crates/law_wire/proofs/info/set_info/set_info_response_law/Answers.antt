use Rattle.spec_wire.specs.messages.SetInfo.{set_info_response_table}
use Rattle.law_wire.proofs.messages.Rows.{table_again}
use Rattle.law_wire.proofs.info.set_info.set_info_response_law.Goals as goal

pub returns-clause-again : goal.returns-clause-again
returns-clause-again c = λ header rest v e fit. table_again (set_info_response_table v) header rest 64 e fit
