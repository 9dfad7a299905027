use Rattle.law_hostile.proofs.placed.Requests.{signed_for_opening}
use Rattle.law_hostile.proofs.placed.signed_for_opening_law.Goals as goal

pub returns : goal.returns
returns c = record { placed = signed_for_opening }
