use Rattle.std.proofs.Common.{[], refl}
use Rattle.spec_wire.specs.messages.ObjectIds.{object_id_buffer_table}
use Rattle.law_wire.proofs.messages.Rows.{table_again}
use Rattle.law_wire.proofs.info.object_id.object_id_buffer_law.Goals as goal

pub returns-clause-again : goal.returns-clause-again
returns-clause-again c = λ rest v fit. table_again (object_id_buffer_table v) [] rest 0 refl fit
