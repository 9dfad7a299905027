use Rattle.crypto_ciphers.proofs.aes_block.Wires.{both_told}
use Rattle.crypto_ciphers.proofs.aes_block.gates.both.Goals as goal

pub returns : goal.returns
returns c = λ s p q ha hb. both_told s c.args.a c.args.b p q c.fits-a.0 c.fits-b.0 ha hb
