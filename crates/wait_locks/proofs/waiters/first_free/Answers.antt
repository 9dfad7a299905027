use Rattle.std.proofs.Common.{arith}
use Rattle.wait_locks.proofs.Firsts.{all_held, first_there}
use Rattle.wait_locks.proofs.Sends.{free_any}
use Rattle.wait_locks.proofs.waiters.first_free.Goals as goal

pub returns-then-is_none-clause-exact : goal.returns-then-is_none-clause-exact
returns-then-is_none-clause-exact c = λ s f t. (
  c.loop-place-test.true,
  λ d.
      first_there s c.args.waiters.now c.loop-place.place c.loop-place-test.true (c.loop-place.invariant s f t)
      (free_any s c.args.waiters.now c.loop-place.place _ c.held_up.result c.loop-place-test.true (c.held_up.ensures s f t) c.if-is_none.ensures) d,
)

pub returns-clause-exact : goal.returns-clause-exact
returns-clause-exact c = λ s f t.
    all_held s c.args.waiters.now (λ k l d. c.loop-place.invariant s f t k (let z = c.loop-place-test.false in omega arith) d)
