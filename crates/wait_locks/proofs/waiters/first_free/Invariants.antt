use Rattle.law_server.specs.tables.Fits.{Fits}
use Rattle.server_checks.specs.Shown.{TablesShown}
use Rattle.spec_exchange.specs.State.{Server}
use Rattle.wait_locks.proofs.Firsts.{AreHeldBelow}
use Rattle.wait_locks.proofs.waiters.first_free.Given as goal

abbrev pub invariant-loop-place : goal.invariant-loop-place
invariant-loop-place l = (s : Server) → Fits s → TablesShown l.tables s → AreHeldBelow s l.waiters l.place
