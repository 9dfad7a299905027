use Rattle.law_waiting.specs.wait_steps.WaitStep.{is_named}
use Rattle.wait_locks.proofs.Named.{AreNotBelow}
use Rattle.wait_locks.specs.Shown.{target_of}
use Rattle.wait_locks.proofs.waiters.named.Given as goal

abbrev pub invariant-loop-place : goal.invariant-loop-place
invariant-loop-place l = AreNotBelow (is_named l.connection (target_of l.target)) l.waiters l.place
