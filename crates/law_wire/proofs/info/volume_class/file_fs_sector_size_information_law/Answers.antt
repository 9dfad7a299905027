use Rattle.std.proofs.Common.{[], refl}
use Rattle.spec_wire.specs.messages.VolumeClasses.{file_fs_sector_size_information_table}
use Rattle.law_wire.proofs.messages.Rows.{table_again}
use Rattle.law_wire.proofs.info.volume_class.file_fs_sector_size_information_law.Goals as goal

pub returns-clause-again : goal.returns-clause-again
returns-clause-again c = λ rest v fit. table_again (file_fs_sector_size_information_table v) [] rest 0 refl fit
