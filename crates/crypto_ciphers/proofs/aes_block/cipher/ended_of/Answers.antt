use Rattle.std.proofs.Common.{refl}
use Rattle.spec_crypto.specs.ciphers.Aes.{rounds}
use Rattle.crypto_ciphers.proofs.aes_block.cipher.ended_of.Goals as goal

pub returns : goal.returns
unfolding rounds
returns c = rw (c.block_of.ensures, c.last_round_of.ensures, c.next_of-odd.ensures, c.key_of.ensures) refl
