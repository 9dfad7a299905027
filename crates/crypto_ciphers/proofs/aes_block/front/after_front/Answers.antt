use Rattle.std.proofs.Common.{◌∙◌, arith}
use Rattle.crypto_ciphers.proofs.aes_block.Fronts.{own_last}
use Rattle.crypto_ciphers.proofs.aes_block.Rounds.{two_more}
use Rattle.crypto_ciphers.proofs.aes_block.front.after_front.Goals as goal

pub loop-i-init : goal.loop-i-init
loop-i-init c = c.requires.front _ _ _ _ _ (omega arith) c.second_of-s.ensures ∙ own_last c.args.block.now c.args.words.now

pub loop-i-preserved : goal.loop-i-preserved
loop-i-preserved c = rw (c.next_of-s.ensures, c.next_of-between.ensures, c.loop-i.invariant) (two_more c.args.words.now
    c.args.block.now c.loop-i.i)
