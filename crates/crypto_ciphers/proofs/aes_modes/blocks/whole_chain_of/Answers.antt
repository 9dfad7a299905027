use Rattle.std.proofs.Common.{◌∙◌, rules}
use Rattle.crypto_ciphers.proofs.aes_modes.Chains.{chained_none, chained_more}
use Rattle.crypto_ciphers.proofs.aes_modes.Sixteen.{le_bytes_16}
use Rattle.crypto_ciphers.proofs.aes_modes.blocks.whole_chain_of.Goals as goal

pub loop-i-init : goal.loop-i-init
loop-i-init c = le_bytes_16 c.args.start.now _ (search rules) (search rules) c.from_le_bytes-s.ensures ∙ chained_none
    c.args.aes.now c.args.start.now c.args.m.now

pub loop-i-preserved : goal.loop-i-preserved
loop-i-preserved c =
    le_bytes_16 c.encrypt_block.result _ (search rules) (search rules) c.from_le_bytes-s-in-loop-i.ensures ∙ rw (
      c.encrypt_block.ensures,
      c.block_sum_of-sum.ensures,
      c.to_le_bytes.ensures,
      c.whole_block_of-block.ensures,
      c.loop-i.invariant,
    ) (chained_more c.args.aes.now c.args.start.now c.args.m.now c.loop-i.i)
