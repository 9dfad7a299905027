use Rattle.std.proofs.Common.{arith, sym}
use Rattle.wait_locks.proofs.Named.{again, any_index, none_again, one_again}
use Rattle.wait_locks.proofs.waiters.sent_before.Goals as goal

pub returns-then-is_again-clause-exact : goal.returns-then-is_again-clause-exact
returns-then-is_again-clause-exact c = λ d.
    one_again c.args.new.now c.args.waiters.now c.loop-place.place c.loop-place-test.true c.loop-place.invariant
    (any_index (again c.args.new.now) c.args.waiters.now c.loop-place.place c.loop-place-test.true _ (sym c.if-is_again.ensures)) d

pub returns-clause-exact : goal.returns-clause-exact
returns-clause-exact c =
    none_again c.args.new.now c.args.waiters.now (λ k l d. c.loop-place.invariant k (let z = c.loop-place-test.false in omega arith) d)
