use Rattle.law_hostile.proofs.sends.Meaning.{taken_sends}
use Rattle.law_hostile.proofs.sends.taken_answers_send_law.Goals as goal

pub returns : goal.returns
returns c = record {
  answers = taken_sends c.headers_law.ensures.lawful c.commands_law.ensures.lawful c.trees_law.ensures.lawful;
}
