use Rattle.client_ends.proofs.ends.Awaited.{met, passed}
use Rattle.client_ends.proofs.ends.line.found_in.Goals as goal
use Rattle.client_ends.proofs.ends.line.found_in.Goals.{then-id-o, else-id-o}

pub loop-o-preserved : goal.loop-o-preserved
loop-o-preserved c = elim c.if-id-o.branch [
  | then-id-o w ↦ met c.args.awaited.now c.loop-o.o-index _ c.args.id c.if-id-o.found c.loop-o-test.true w.if-id-o.true w.found-is
  | else-id-o w ↦
      passed c.args.awaited.now c.loop-o.o-index _ c.args.id c.loop-o.found c.if-id-o.found c.loop-o-test.true w.if-id-o.false w.found-is
      c.loop-o.invariant
]
