use Rattle.law_hostile.proofs.replied.Saying.{signed_replies_answer}
use Rattle.law_hostile.proofs.replied.signed_replies_law.Goals as goal

pub returns : goal.returns
returns c = record { answer = signed_replies_answer }
