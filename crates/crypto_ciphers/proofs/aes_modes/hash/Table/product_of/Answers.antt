use Rattle.crypto_ciphers.proofs.aes_modes.ByFour.{halves}
use Rattle.crypto_ciphers.proofs.aes_modes.hash.Table.product_of.Goals as goal

pub returns : goal.returns
returns c = halves c.args.x c.args.self.now.h _ _ c.half_of.ensures c.half_of-2.ensures
