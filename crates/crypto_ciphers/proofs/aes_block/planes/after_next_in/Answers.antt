use Rattle.std.proofs.Common.{refl}
use Rattle.crypto_ciphers.specs.aes_block.Planes.{after_next_places}
use Rattle.crypto_ciphers.proofs.aes_block.PlaneSteps.{swizzled_at}
use Rattle.crypto_ciphers.proofs.aes_block.planes.after_next_in.Goals as goal

pub returns : goal.returns
returns c = swizzled_at c.args.a after_next_places c.fits-a.0 refl tt
