use Rattle.law_crypto.proofs.ntlm.Again.{type1_again}
use Rattle.law_crypto.proofs.ntlm.messages.type1_law.Goals as goal

pub returns : goal.returns
returns c = λ v w. type1_again v w
