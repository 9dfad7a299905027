use Rattle.spec_crypto.specs.sessions.Chain.{first_value}
use Rattle.crypto_sessions.proofs.preauth_hash.Links.{chain_from-last}
use Rattle.crypto_sessions.proofs.preauth_hash.chain_law.Goals as goal

pub returns : goal.returns
returns c = λ messages message. chain_from-last first_value messages message
