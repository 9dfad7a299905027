use Rattle.std.proofs.Common.{arith}
use Rattle.world_steps.proofs.Flipping.{all_flipped}
use Rattle.world_steps.proofs.tampering.flip.Goals as goal

pub returns : goal.returns
returns c = all_flipped c.loop-m.place c.loop-m.m-index c.args.mask.now c.loop-m.bytes _ (let t = c.loop-m-test.false in omega arith)
    c.loop-m.invariant
