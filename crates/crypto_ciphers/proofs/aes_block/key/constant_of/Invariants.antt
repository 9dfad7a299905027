use Rattle.std.proofs.Common.{◌≡◌}
use Rattle.spec_crypto.specs.ciphers.Aes.{constant}
use Rattle.crypto_ciphers.proofs.aes_block.key.constant_of.Given as goal

abbrev pub invariant-loop-i : goal.invariant-loop-i
invariant-loop-i l = l.power ≡ constant l.i
