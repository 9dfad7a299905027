use Rattle.std.proofs.Common.{length, refl}
use Rattle.law_wire.proofs.messages.Rows.{same_fields, table_again}
use Rattle.law_wire.proofs.messages.Faults.{no_short_fault}
use Rattle.law_wire.proofs.messages.table.table_law.Goals as goal

pub returns-clause-one : goal.returns-clause-one
returns-clause-one c = same_fields

pub returns-clause-whole : goal.returns-clause-whole
returns-clause-whole c = no_short_fault

pub returns-clause-again : goal.returns-clause-again
returns-clause-again c = λ front rest fs fit. table_again fs front rest (length front) refl fit
