use Rattle.server_core.proofs.durable_state.ByPiece.{bytes_took}
use Rattle.server_core.proofs.durable_state.durable.Durable.with_bytes.Goals as goal

pub returns-in-Ok : goal.returns-in-Ok
returns-in-Ok c = λ s h. bytes_took c.args.self.now c.restore_bytes.new.self s c.args.file c.args.at c.args.bytes.now c.in-Ok.may h
    (c.in-Ok.ensures.shown s h.files)
