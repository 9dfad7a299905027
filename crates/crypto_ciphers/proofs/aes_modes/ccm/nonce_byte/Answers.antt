use Rattle.std.proofs.Common.{arith}
use Rattle.crypto_ciphers.proofs.aes_modes.Bytewise.{nonce_number}
use Rattle.crypto_ciphers.proofs.aes_modes.ccm.nonce_byte.Goals as goal

pub returns-else-k-nonce : goal.returns-else-k-nonce
returns-else-k-nonce c = nonce_number c.args.n c.args.k c.args.first c.args.nonce.now c.requires.long (omega arith) c.requires.place
