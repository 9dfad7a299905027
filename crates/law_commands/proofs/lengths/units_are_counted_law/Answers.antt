use Rattle.law_commands.proofs.lengths.Units.{units_are_counted}
use Rattle.law_commands.proofs.lengths.units_are_counted_law.Goals as goal

pub returns : goal.returns
returns c = record { counted = units_are_counted }
