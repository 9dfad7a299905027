use Rattle.law_commands.proofs.lengths.Listings.{standards_are_short}
use Rattle.law_commands.proofs.lengths.standards_are_short_law.Goals as goal

pub returns : goal.returns
returns c = record { short = standards_are_short }
