use Rattle.crypto_ciphers.proofs.aes_block.Wires.{odd_told}
use Rattle.crypto_ciphers.proofs.aes_block.gates.odd.Goals as goal

pub returns : goal.returns
returns c = λ s p q ha hb. odd_told s c.args.a c.args.b p q c.fits-a.0 c.fits-b.0 ha hb
