use Rattle.std.proofs.Common.{◌≡◌}
use Rattle.spec_exchange.specs.State.{Server}
use Rattle.server_checks.specs.Shown.{TablesShown}
use Rattle.server_effects.proofs.session_ends.Turns.{InTurn}
use Rattle.law_server.specs.tables.Fits.{Fits}
use Rattle.server_effects.proofs.session_ends.leaving.leave_all.Given as goal

abbrev pub invariant-loop-turn : goal.invariant-loop-turn
invariant-loop-turn l = record {
  kept : l.t ≡ record l.fn.t { opens = l.t.opens; tree = l.t.tree };
  shown : (s : Server) → Fits s → TablesShown l.fn.t s → InTurn l.turn s l.t l.session l.is_quiet;
}
