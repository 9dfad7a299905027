use Rattle.law_commands.proofs.commands.Fields.{own_halves, file_again}
use Rattle.law_commands.proofs.commands.Halves.{back, low, told, other}
use Rattle.law_commands.proofs.commands.file_ids.file_ids_law.Goals as goal

pub returns-clause-back : goal.returns-clause-back
returns-clause-back c = back

pub returns-clause-low : goal.returns-clause-low
returns-clause-low c = low

pub returns-clause-told : goal.returns-clause-told
returns-clause-told c = told

pub returns-clause-own : goal.returns-clause-own
returns-clause-own c = λ o fits. (own_halves o fits, file_again o fits)

pub returns-clause-other : goal.returns-clause-other
returns-clause-other c = other
