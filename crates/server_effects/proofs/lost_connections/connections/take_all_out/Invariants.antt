use Rattle.std.proofs.Common.{◌≡◌}
use Rattle.spec_exchange.specs.State.{Server}
use Rattle.server_checks.specs.Shown.{TablesShown}
use Rattle.server_effects.proofs.lost_connections.Lost.{InTurn}
use Rattle.server_effects.proofs.lost_connections.connections.take_all_out.Given as goal
use Rattle.law_server.specs.tables.Fits.{Fits}
use Rattle.server_checks.specs.session_table.Logons.{LogonsStay}

abbrev pub invariant-loop-turn : goal.invariant-loop-turn
invariant-loop-turn l = record {
  config : l.t.config ≡ l.fn.t.config;
  logons : LogonsStay l.fn.t.sessions l.t.sessions;
  shown : (s : Server) → Fits s → TablesShown l.fn.t s → InTurn l.turn s l.t l.now l.is_quiet l.acted;
}
