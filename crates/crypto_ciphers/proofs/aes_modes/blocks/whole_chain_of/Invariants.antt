use Rattle.std.proofs.Common.{◌≡◌}
use Rattle.std.specs.Int.{w128, to_le_bytes}
use Rattle.spec_crypto.specs.ciphers.Blocks.{chained}
use Rattle.crypto_ciphers.proofs.aes_modes.blocks.whole_chain_of.Given as goal

abbrev pub invariant-loop-i : goal.invariant-loop-i
invariant-loop-i l = to_le_bytes w128 l.s ≡ chained l.aes l.start l.m l.i
