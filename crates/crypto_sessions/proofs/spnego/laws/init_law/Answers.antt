use Rattle.crypto_sessions.proofs.spnego.Again.{init_again}
use Rattle.crypto_sessions.proofs.spnego.laws.init_law.Goals as goal

pub returns : goal.returns
returns c = λ v w. init_again v w
