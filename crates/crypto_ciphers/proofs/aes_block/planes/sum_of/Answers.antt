use Rattle.crypto_ciphers.proofs.aes_block.PlaneSteps.{summed_at}
use Rattle.crypto_ciphers.proofs.aes_block.planes.sum_of.Goals as goal

pub returns : goal.returns
returns c = summed_at c.args.a c.args.b c.fits-a.0 c.fits-b.0
