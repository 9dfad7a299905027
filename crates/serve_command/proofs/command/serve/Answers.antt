use Rattle.std.proofs.Common.{inl, inr, refl}
use Rattle.serve_command.proofs.command.serve.Goals as goal

pub returns-in-Ok : goal.returns-in-Ok
returns-in-Ok g c = inr (c.in-Ok.setup, _, _, c.in-Ok.ensures, c.serve_with.ensures)

pub returns-in-Err : goal.returns-in-Err
returns-in-Err g c = inl (c.in-Err.ensures, refl, refl)
