use Rattle.law_crypto.proofs.ntlm.Again.{type2_again}
use Rattle.law_crypto.proofs.ntlm.messages.type2_law.Goals as goal

pub returns : goal.returns
returns c = λ v w pairs. type2_again v w pairs
