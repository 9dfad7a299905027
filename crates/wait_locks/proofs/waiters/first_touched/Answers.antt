use Rattle.std.proofs.Common.{arith}
use Rattle.wait_locks.proofs.Firsts.{all_held, first_there}
use Rattle.wait_locks.proofs.Mild.{free_there}
use Rattle.wait_locks.proofs.waiters.first_touched.Goals as goal

pub returns-then-is_free-clause-exact : goal.returns-then-is_free-clause-exact
returns-then-is_free-clause-exact c = λ s f t but. (
  c.loop-place-test.true,
  λ d.
      first_there s c.args.waiters.now c.loop-place.place c.loop-place-test.true (c.loop-place.invariant s f t but)
      (free_there s c.args.waiters.now c.loop-place.place _ c.loop-place-test.true
      (c.if-is_free.ensures s f t (but c.loop-place.place c.loop-place-test.true _))) d,
)

pub returns-clause-exact : goal.returns-clause-exact
returns-clause-exact c = λ s f t but.
    all_held s c.args.waiters.now (λ k l d. c.loop-place.invariant s f t but k (let z = c.loop-place-test.false in omega arith) d)
