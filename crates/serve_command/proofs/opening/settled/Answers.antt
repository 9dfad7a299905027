use Rattle.std.proofs.Common.{inl, inr, refl}
use Rattle.std.proofs.KnownBytes.{Keeps-refl}
use Rattle.serve_command.proofs.Still.{memory_kept, failed_rose}
use Rattle.serve_command.proofs.opening.settled.Goals as goal

pub returns-in-Ok : goal.returns-in-Ok
returns-in-Ok g c = inr (
  c.in-Ok.ensures.calm,
  inr (c.in-Ok.text.items, c.in-Ok.ensures.read, rw c.as_slice.ensures.value at c.taken.ensures),
)

pub returns-in-Err-Memory : goal.returns-in-Err-Memory
returns-in-Err-Memory g c = inr (
  memory_kept _ _ _ c.in-Err-Memory.field-0-is c.in-Err-Memory.ensures.failed,
  inl (refl, (refl, Keeps-refl _)),
)

pub returns-in-Err-Failed : goal.returns-in-Err-Failed
returns-in-Err-Failed g c =
    inl (refl, failed_rose _ _ _ c.in-Err-Failed.field-0-is c.in-Err-Failed.ensures.failed, (refl, Keeps-refl _))
