use Rattle.std.proofs.Common.{◌≡◌, ◌+◌, ◌*◌, min, length}
use Rattle.crypto_ciphers.specs.aes_block.Fronts.{IsBlockFront}
use Rattle.crypto_ciphers.specs.aes_modes.Counters.{number_block}
use Rattle.spec_crypto.specs.ciphers.Aes.{block_sum}
use Rattle.spec_crypto.specs.ciphers.Ccm.{counter_block}
use Rattle.crypto_ciphers.specs.aes_modes.InPlace.{masked_to}
use Rattle.crypto_ciphers.proofs.aes_modes.ccm.mask.Given as goal

abbrev pub invariant-loop-i : goal.invariant-loop-i
invariant-loop-i l = record {
  done : l.text ≡ masked_to l.aes (λ i. counter_block l.nonce (i + 1)) l.fn.text (min (16 * l.i) (length l.fn.text));
  front : IsBlockFront l.aes (block_sum l.zero (number_block l.i)) l.front;
}
