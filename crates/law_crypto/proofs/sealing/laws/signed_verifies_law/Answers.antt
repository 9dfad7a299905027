use Rattle.law_crypto.proofs.sealing.Verifying.{verified}
use Rattle.law_crypto.proofs.sealing.laws.signed_verifies_law.Goals as goal

pub returns : goal.returns
returns c = λ signer message long. verified signer message long
