use Rattle.spec_crypto.specs.sessions.Sealing.{key_for}
use Rattle.law_crypto.proofs.sealing.Opening.{opens}
use Rattle.law_crypto.proofs.sealing.laws.sealed_opens_law.Goals as goal

pub returns : goal.returns
returns c = λ keys from_client nonce text whole small id. opens keys.cipher (key_for keys from_client) keys.session
    nonce text whole small id
