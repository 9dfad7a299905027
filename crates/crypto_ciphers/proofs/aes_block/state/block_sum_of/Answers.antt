use Rattle.crypto_ciphers.proofs.aes_block.Rounds.{same_sums}
use Rattle.crypto_ciphers.proofs.aes_block.state.block_sum_of.Goals as goal

pub returns : goal.returns
returns c = rw (c.block_of.ensures, c.sum_of.ensures, c.columns_of.ensures, c.columns_of-2.ensures) (same_sums
    c.args.s.now c.args.t.now)
