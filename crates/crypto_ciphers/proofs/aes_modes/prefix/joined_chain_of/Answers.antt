use Rattle.std.proofs.Common.{◌++◌}
use Rattle.crypto_ciphers.proofs.aes_modes.Chains.{chained_none, chained_more}
use Rattle.crypto_ciphers.proofs.aes_modes.prefix.joined_chain_of.Goals as goal

pub loop-i-init : goal.loop-i-init
loop-i-init c = chained_none c.args.aes.now c.args.start.now (c.args.front.now ++ c.args.back.now)

pub loop-i-preserved : goal.loop-i-preserved
loop-i-preserved c = rw (
  c.enciphered-s.ensures,
  c.block_sum_of.ensures,
  c.joined_block_of.ensures,
  c.loop-i.invariant,
) (chained_more c.args.aes.now c.args.start.now (c.args.front.now ++ c.args.back.now) c.loop-i.i)
