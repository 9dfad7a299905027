use Rattle.law_commands.proofs.lengths.Listings.{listings_are_short}
use Rattle.law_commands.proofs.lengths.listings_are_short_law.Goals as goal

pub returns : goal.returns
returns c = record { short = listings_are_short }
