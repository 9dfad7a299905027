use Rattle.spec_wire.proofs.messages.Numbers.{length-le, number_of-le}
use Rattle.law_wire.proofs.messages.table.number_law.Goals as goal

pub returns-clause-width : goal.returns-clause-width
returns-clause-width c = length-le

pub returns-clause-again : goal.returns-clause-again
returns-clause-again c = number_of-le
