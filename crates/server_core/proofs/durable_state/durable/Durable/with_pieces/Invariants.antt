use Rattle.std.proofs.Common.{drop}
use Rattle.spec_exchange.specs.State.{Server}
use Rattle.law_server.specs.tables.Fits.{Fits}
use Rattle.server_core.specs.durable_state.Durable.{DurableShown}
use Rattle.server_core.proofs.durable_state.ByPiece.{TakesOn}
use Rattle.server_core.proofs.durable_state.durable.Durable.with_pieces.Given as goal

abbrev pub invariant-loop-piece : goal.invariant-loop-piece
invariant-loop-piece l = (s : Server) → Fits s → DurableShown l.fn.self s → TakesOn l.self s l.pieces (drop l.piece-index l.pieces)
