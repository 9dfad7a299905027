use Rattle.server_core.proofs.durable_state.ByPiece.{file_took}
use Rattle.server_core.proofs.durable_state.durable.Durable.place_file.Goals as goal

pub returns-in-Ok : goal.returns-in-Ok
returns-in-Ok c = λ s i h noted. file_took c.args.self.now c.place.new.self s c.args.path.now _ c.in-Ok.may i h noted
    (λ q. c.piece_fits_law.ensures.ascends s q) (c.in-Ok.ensures.shown s h.files)
