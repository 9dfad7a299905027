use Rattle.std.proofs.Common.{[], refl}
use Rattle.spec_wire.specs.messages.Interfaces.{network_interface_table}
use Rattle.law_wire.proofs.messages.Rows.{table_again}
use Rattle.law_wire.proofs.info.interface.network_interface_law.Goals as goal

pub returns-clause-again : goal.returns-clause-again
returns-clause-again c = λ rest v fit. table_again (network_interface_table v) [] rest 0 refl fit
