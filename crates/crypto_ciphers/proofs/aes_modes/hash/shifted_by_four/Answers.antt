use Rattle.crypto_ciphers.proofs.aes_modes.ByFour.{shifted4_is}
use Rattle.crypto_ciphers.proofs.aes_modes.hash.shifted_by_four.Goals as goal

pub returns : goal.returns
returns c = shifted4_is c.args.z
