use Rattle.crypto_ciphers.proofs.aes_block.Rounds.{same_sum, none_more, two_more}
use Rattle.crypto_ciphers.proofs.aes_block.cipher.after_pairs.Goals as goal

pub loop-i-init : goal.loop-i-init
loop-i-init c = rw (c.sum_of-s.ensures, c.columns_of.ensures, c.key_of.ensures, same_sum c.args.block.now _) (none_more
    c.args.words.now c.args.block.now)

pub loop-i-preserved : goal.loop-i-preserved
loop-i-preserved c = rw (c.next_of-s.ensures, c.next_of-between.ensures, c.loop-i.invariant) (two_more c.args.words.now
    c.args.block.now c.loop-i.i)
