use Rattle.std.proofs.Common.{◌≡◌}
use Rattle.spec_crypto.specs.ciphers.Ghash.{hashed}
use Rattle.crypto_ciphers.proofs.aes_modes.hash.Table.hashed_of.Given as goal

abbrev pub invariant-loop-i : goal.invariant-loop-i
invariant-loop-i l = l.z ≡ hashed l.self.h l.y l.m l.i
