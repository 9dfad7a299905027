use Rattle.std.proofs.Common.{◌≡◌, ◌+◌, ◌*◌}
use Rattle.spec_crypto.specs.ciphers.Ccm.{counter_block}
use Rattle.crypto_ciphers.specs.aes_modes.InPlace.{masked_to}
use Rattle.crypto_ciphers.proofs.aes_modes.ccm.mask_runs.Given as goal

abbrev pub invariant-loop-i : goal.invariant-loop-i
invariant-loop-i l = l.text ≡ masked_to l.aes (λ i. counter_block l.nonce (i + 1)) l.initial.text (64 * (2 * l.i))
