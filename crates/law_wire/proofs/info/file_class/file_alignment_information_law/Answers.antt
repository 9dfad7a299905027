use Rattle.std.proofs.Common.{[], refl}
use Rattle.spec_wire.specs.messages.FileClasses.{file_alignment_information_table}
use Rattle.law_wire.proofs.messages.Rows.{table_again}
use Rattle.law_wire.proofs.info.file_class.file_alignment_information_law.Goals as goal

pub returns-clause-again : goal.returns-clause-again
returns-clause-again c = λ rest v fit. table_again (file_alignment_information_table v) [] rest 0 refl fit
