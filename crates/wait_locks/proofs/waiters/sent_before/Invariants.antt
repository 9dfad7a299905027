use Rattle.wait_locks.proofs.Named.{AreNotBelow, again}
use Rattle.wait_locks.proofs.waiters.sent_before.Given as goal

abbrev pub invariant-loop-place : goal.invariant-loop-place
invariant-loop-place l = AreNotBelow (again l.new) l.waiters l.place
