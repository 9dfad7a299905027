use Rattle.std.proofs.Common.{◌-◌, ◌<◌, ℕ, [], get_or, map}
use Rattle.spec_crypto.specs.ciphers.Aes.{after}
use Rattle.crypto_ciphers.specs.aes_block.Planes.{IsVector, ArePlanes}
use Rattle.crypto_ciphers.proofs.aes_block.eight.ciphered_planes.Given as goal

abbrev pub invariant-loop-r : goal.invariant-loop-r
invariant-loop-r l = record {
  planes : ArePlanes l.q (map (λ v. after l.words v (l.r - 1)) l.blocks);
  bytes : (j : ℕ) → j < 8 → IsVector (after l.words (get_or l.blocks j []) (l.r - 1));
}
