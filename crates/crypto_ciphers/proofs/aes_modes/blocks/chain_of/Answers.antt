use Rattle.std.proofs.Common.{◌≡◌, ◌/◌, ◌+◌, length, arith}
use Rattle.crypto_ciphers.proofs.aes_modes.Chains.{chained_more}
use Rattle.crypto_ciphers.proofs.aes_modes.blocks.chain_of.Goals as goal

pub returns : goal.returns
returns c =
    let last : c.args.blocks ≡ length c.args.m.now / 16 + 1 = omega arith in
    rw (
      last,
      c.enciphered.ensures,
      c.block_sum_of.ensures,
      c.part_of_block_of.ensures,
      c.whole_chain_of-s.ensures,
    ) (chained_more c.args.aes.now c.args.start.now c.args.m.now (length c.args.m.now / 16))
