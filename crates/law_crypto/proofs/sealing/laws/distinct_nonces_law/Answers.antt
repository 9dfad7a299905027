use Rattle.law_crypto.proofs.sealing.Opening.{nonces_differ}
use Rattle.law_crypto.proofs.sealing.laws.distinct_nonces_law.Goals as goal

pub returns : goal.returns
returns c = λ a b fa fb ca cb e. nonces_differ a b fa fb ca cb e
