use Rattle.std.proofs.Common.{◌≡◌, ◌*◌}
use Rattle.spec_crypto.specs.ciphers.Aes.{after}
use Rattle.crypto_ciphers.specs.aes_block.Columns.{state}
use Rattle.crypto_ciphers.proofs.aes_block.cipher.after_pairs.Given as goal

abbrev pub invariant-loop-i : goal.invariant-loop-i
invariant-loop-i l = state l.s.a l.s.b l.s.c l.s.d ≡ after l.words l.block (2 * l.i)
