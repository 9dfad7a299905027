use Rattle.std.proofs.Common.{refl, arith}
use Rattle.crypto_ciphers.proofs.aes_modes.Compared.{compared_none, compared_same, compared_whole}
use Rattle.crypto_ciphers.proofs.aes_modes.blocks.is_same.Goals as goal

pub loop-i-init : goal.loop-i-init
loop-i-init c = record { none = λ e. refl; same = λ e. refl }

pub loop-i-preserved : goal.loop-i-preserved
loop-i-preserved c = record {
  none = compared_none c.args.a.now c.args.b.now c.loop-i.i c.loop-i.differing (omega arith) c.requires c.loop-i.invariant.none;
  same = compared_same c.args.a.now c.args.b.now c.loop-i.i c.loop-i.differing (omega arith) c.requires c.loop-i.invariant.same;
}

pub returns : goal.returns
returns c = compared_whole c.args.a.now c.args.b.now c.loop-i.i c.loop-i.differing c.loop-i-test.false c.requires
    c.loop-i.invariant.none c.loop-i.invariant.same
