use Rattle.crypto_ciphers.proofs.aes_block.PlaneCipher.{byte_vector}
use Rattle.crypto_ciphers.proofs.aes_block.eight.held.Goals as goal

pub returns-clause-bytes : goal.returns-clause-bytes
returns-clause-bytes c = byte_vector c.args.a c.fits-a.0 c.fits-a.1
