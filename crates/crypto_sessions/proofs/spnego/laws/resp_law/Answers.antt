use Rattle.crypto_sessions.proofs.spnego.Again.{resp_again}
use Rattle.crypto_sessions.proofs.spnego.laws.resp_law.Goals as goal

pub returns : goal.returns
returns c = λ v w. resp_again v w
