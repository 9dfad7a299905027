use Rattle.law_hostile.proofs.meant.Telling.{requests_heard}
use Rattle.law_hostile.proofs.meant.requests_are_heard_law.Goals as goal

pub returns : goal.returns
returns c = record { heard = requests_heard c.headers_law.ensures.lawful c.commands_law.ensures.lawful c.trees_law.ensures.lawful }
