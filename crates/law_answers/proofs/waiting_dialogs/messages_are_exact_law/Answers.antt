use Rattle.law_answers.proofs.waiting_dialogs.Exact.{messages_are_exact}
use Rattle.law_answers.proofs.waiting_dialogs.messages_are_exact_law.Goals as goal

pub returns : goal.returns
returns c = record { exact = messages_are_exact }
