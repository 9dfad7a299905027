use Rattle.crypto_ciphers.proofs.aes_block.Wires.{even_told}
use Rattle.crypto_ciphers.proofs.aes_block.gates.even.Goals as goal

pub returns : goal.returns
returns c = λ s small p q ha hb. even_told s c.args.a c.args.b c.fits-a.0 c.fits-b.0 small p q ha hb
