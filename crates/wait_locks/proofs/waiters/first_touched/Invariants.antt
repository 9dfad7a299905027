use Rattle.law_server.specs.tables.Fits.{Fits}
use Rattle.server_checks.specs.Shown.{TablesShown}
use Rattle.spec_exchange.specs.State.{Server}
use Rattle.wait_locks.proofs.Firsts.{AreHeldBelow}
use Rattle.wait_locks.specs.Settled.{SettledBut}
use Rattle.wait_locks.proofs.waiters.first_touched.Given as goal

abbrev pub invariant-loop-place : goal.invariant-loop-place
invariant-loop-place l = (s : Server) → Fits s → TablesShown l.tables s → SettledBut l.touched s l.waiters → AreHeldBelow s l.waiters l.place
