use Rattle.law_waiting.proofs.held.Staying.{files_stay, untouched_stays, waiter_stands}
use Rattle.law_waiting.proofs.held.untouched_law.Goals as goal

pub returns : goal.returns
returns c = record { held = untouched_stays; files = files_stay; stands = waiter_stands }
