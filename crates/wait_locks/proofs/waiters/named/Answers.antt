use Rattle.std.proofs.Common.{arith, sym}
use Rattle.wait_locks.proofs.Named.{any_index, nobody, somebody}
use Rattle.law_waiting.specs.wait_steps.WaitStep.{is_named}
use Rattle.wait_locks.specs.Shown.{target_of}
use Rattle.wait_locks.proofs.waiters.named.Goals as goal

pub returns-then-is_named-clause-exact : goal.returns-then-is_named-clause-exact
returns-then-is_named-clause-exact c = λ d.
    somebody c.args.connection (target_of c.args.target.now) c.args.waiters.now c.loop-place.place c.loop-place-test.true c.loop-place.invariant
    (any_index (is_named c.args.connection (target_of c.args.target.now)) c.args.waiters.now c.loop-place.place c.loop-place-test.true _
    (sym c.if-is_named.ensures)) d

pub returns-clause-exact : goal.returns-clause-exact
returns-clause-exact c =
    nobody c.args.connection (target_of c.args.target.now) c.args.waiters.now
    (λ k l d. c.loop-place.invariant k (let z = c.loop-place-test.false in omega arith) d)
