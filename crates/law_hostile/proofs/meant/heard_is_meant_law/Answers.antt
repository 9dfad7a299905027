use Rattle.law_hostile.proofs.meant.Telling.{heard_meant}
use Rattle.law_hostile.proofs.meant.heard_is_meant_law.Goals as goal

pub returns : goal.returns
returns c = record { meant = heard_meant c.headers_law.ensures.lawful c.commands_law.ensures.lawful c.trees_law.ensures.lawful }
