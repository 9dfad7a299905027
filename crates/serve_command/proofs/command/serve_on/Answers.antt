use Rattle.std.proofs.Common.{inl, inr, refl}
use Rattle.std.proofs.KnownBytes.{Keeps-refl}
use Rattle.serve_command.proofs.command.serve_on.Goals as goal

pub returns-in-Ok : goal.returns-in-Ok
returns-in-Ok g c = λ from begins. inr (c.serve_book.ensures c.args.server from c.in-Ok.ensures.opens begins)

pub returns-in-Err : goal.returns-in-Err
returns-in-Err g c = λ from begins. inl ((refl, (refl, Keeps-refl _)), refl, refl)
