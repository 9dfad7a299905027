use Rattle.std.proofs.Common.{List, ℕ, ap, ◌∙◌}
use Rattle.spec_crypto.specs.ciphers.Aes.{block_sum}
use Rattle.crypto_ciphers.proofs.aes_modes.Bytewise.{number_bytes}
use Rattle.crypto_ciphers.proofs.aes_modes.ccm.counted.Goals as goal

pub returns : goal.returns
returns c = c.block_sum_of.ensures ∙ ap (λ (x : List ℕ). block_sum c.args.zero.now x) (number_bytes c.to_be_bytes-n.result
    c.args.i c.to_be_bytes-n.ensures)
