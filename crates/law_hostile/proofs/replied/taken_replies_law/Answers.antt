use Rattle.law_hostile.proofs.replied.Owning.{taken_replies_answer_own}
use Rattle.law_hostile.proofs.replied.taken_replies_law.Goals as goal

pub returns : goal.returns
returns c = record {
  own = taken_replies_answer_own c.headers_law.ensures.lawful c.commands_law.ensures.lawful c.trees_law.ensures.lawful;
}
