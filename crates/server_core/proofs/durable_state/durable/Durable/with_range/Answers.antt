use Rattle.server_core.proofs.durable_state.ByPiece.{range_took}
use Rattle.std.proofs.Common.{refl}
use Rattle.server_core.proofs.durable_state.durable.Durable.with_range.Goals as goal

pub returns-in-Ok : goal.returns-in-Ok
returns-in-Ok c = λ s i h. range_took c.args.self.now c.push_range.new.self s _ c.args.range.now c.in-Ok.may refl h (c.in-Ok.ensures s i h.opens)
