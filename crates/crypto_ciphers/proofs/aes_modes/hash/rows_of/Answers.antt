use Rattle.std.proofs.Common.{refl, sym, ◌∙◌, arith}
use Rattle.std.proofs.Math.ListN.{length-set}
use Rattle.crypto_ciphers.proofs.aes_modes.ByFour.{raised_none, raised_four, rows_more}
use Rattle.crypto_ciphers.proofs.aes_modes.hash.rows_of.Goals as goal

pub loop-j-init : goal.loop-j-init
loop-j-init c = record { element = raised_none c.args.h; known = λ k lt. absurd (omega arith); len = refl }

pub loop-j-preserved : goal.loop-j-preserved
loop-j-preserved c = record {
  element = c.shifted_by_four-v.ensures ∙ rw c.loop-j.invariant.element (sym (raised_four c.loop-j.j c.args.h));
  known = rows_more c.loop-j.rows c.args.h c.loop-j.j c.row_of.result c.loop-j.invariant.len (omega arith)
      c.loop-j.invariant.known (rw (← c.loop-j.invariant.element) c.row_of.ensures);
  len = simp length-set c.loop-j.invariant.len;
}
