use Rattle.std.proofs.Common.{length, refl}
use Rattle.spec_wire.specs.messages.Lock.{lock_element_table}
use Rattle.law_wire.proofs.messages.Rows.{table_again}
use Rattle.law_wire.proofs.messages.lock.lock_element_law.Goals as goal

pub returns-clause-again : goal.returns-clause-again
returns-clause-again c = λ front rest e fit. table_again (lock_element_table e) front rest (length front) refl fit
