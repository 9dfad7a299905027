use Rattle.std.proofs.Common.{refl, arith}
use Rattle.std.proofs.Math.ListN.{length-set}
use Rattle.crypto_ciphers.proofs.aes_block.Steps.{expanded_none, expanded_more}
use Rattle.crypto_ciphers.proofs.aes_block.key.expanded_of.Goals as goal

pub loop-i-init : goal.loop-i-init
loop-i-init c = record { known = expanded_none c.args.key_words c.args.key.now; len = refl }

pub loop-i-preserved : goal.loop-i-preserved
loop-i-preserved c = record {
  known = expanded_more c.args.key_words c.args.key.now c.loop-i.words c.loop-i.i c.next_word_of.result
      (omega (arith, c.loop-i.invariant.len)) c.loop-i.invariant.known c.next_word_of.ensures;
  len = simp length-set c.loop-i.invariant.len;
}
