use Rattle.std.proofs.Common.{◌≡◌, ◌++◌}
use Rattle.spec_crypto.specs.ciphers.Blocks.{chained}
use Rattle.crypto_ciphers.proofs.aes_modes.prefix.joined_chain_of.Given as goal

abbrev pub invariant-loop-i : goal.invariant-loop-i
invariant-loop-i l = l.s ≡ chained l.aes l.start (l.front ++ l.back) l.i
