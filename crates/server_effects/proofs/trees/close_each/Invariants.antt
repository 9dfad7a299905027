use Rattle.std.proofs.Common.{◌≡◌, ℕ, take}
use Rattle.spec_exchange.specs.State.{Server}
use Rattle.law_server.specs.tables.Fits.{Fits}
use Rattle.server_checks.specs.Shown.{TablesShown}
use Rattle.server_checks.specs.session_table.Logons.{LogonsStay}
use Rattle.server_effects.proofs.ClosedOpens.{closed_each}
use Rattle.server_effects.specs.Closed.{AreClosable}
use Rattle.server_effects.proofs.trees.close_each.Given as goal

abbrev pub invariant-loop-id : goal.invariant-loop-id
invariant-loop-id l = record {
  config : l.t.config ≡ l.fn.t.config;
  logons : LogonsStay l.fn.t.sessions l.t.sessions;
  shown : (s : Server) (x : ℕ) → Fits s → TablesShown l.fn.t s → AreClosable s x l.opens
      → TablesShown l.t (closed_each s x (take l.id-index l.opens));
}
