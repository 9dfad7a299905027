use Rattle.std.proofs.Common.{refl}
use Rattle.examples_world.proofs.runs.Others.{no_credit}
use Rattle.examples_world.proofs.runs.no_credit_example.Goals as goal

pub returns : goal.returns
returns c = record { none = no_credit.0; one = no_credit.1; tree = no_credit.2; binding = refl }
