use Rattle.law_crypto.proofs.ntlm.Again.{type3_again}
use Rattle.law_crypto.proofs.ntlm.messages.type3_law.Goals as goal

pub returns : goal.returns
returns c = λ v w pairs. type3_again v w pairs
