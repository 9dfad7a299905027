use Rattle.std.proofs.Common.{◌∙◌, ap}
use Rattle.spec_crypto.specs.ciphers.Field.{doubled}
use Rattle.crypto_ciphers.proofs.aes_block.Steps.{constant_none, constant_more}
use Rattle.crypto_ciphers.proofs.aes_block.key.constant_of.Goals as goal

pub loop-i-init : goal.loop-i-init
loop-i-init c = constant_none

pub loop-i-preserved : goal.loop-i-preserved
loop-i-preserved c = c.doubled_of-power.ensures ∙ ap doubled c.loop-i.invariant ∙ constant_more c.loop-i.i
