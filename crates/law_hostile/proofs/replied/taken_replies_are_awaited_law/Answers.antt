use Rattle.law_hostile.proofs.replied.Awaiting.{taken_are_awaited}
use Rattle.law_hostile.proofs.replied.taken_replies_are_awaited_law.Goals as goal

pub returns : goal.returns
returns c = record {
  awaited = taken_are_awaited c.headers_law.ensures.lawful c.commands_law.ensures.lawful c.trees_law.ensures.lawful;
}
