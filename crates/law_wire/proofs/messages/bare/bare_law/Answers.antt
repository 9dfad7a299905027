use Rattle.std.proofs.Common.{arith}
use Rattle.std.proofs.lemmas.Grind.{common_steps}
use Rattle.spec_wire.specs.messages.Bare.{bare_table}
use Rattle.law_wire.proofs.messages.Rows.{table_again}
use Rattle.law_wire.proofs.messages.bare.bare_law.Goals as goal

pub returns-clause-again : goal.returns-clause-again
returns-clause-again c = λ header rest e. table_again bare_table header rest 64 e (grind (arith, common_steps))
