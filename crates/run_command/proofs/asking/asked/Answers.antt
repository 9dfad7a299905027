use Rattle.std.proofs.Common.{refl}
use Rattle.std.proofs.KnownBytes.{Keeps-refl}
use Rattle.run_command.proofs.Taken.{asks_by, failed_rose, memory_kept}
use Rattle.run_command.proofs.asking.asked.Goals as goal

pub returns-in-Ok : goal.returns-in-Ok
returns-in-Ok g c =
    asks_by _ _ _ _ _ _ _ _ c.in-Ok.text.items c.taken.result c.in-Ok.ensures.read c.in-Ok.ensures.calm
    (rw c.as_slice.ensures.value at c.taken.ensures)

pub returns-in-Err-Memory : goal.returns-in-Err-Memory
returns-in-Err-Memory g c =
    (memory_kept _ _ _ c.in-Err-Memory.field-0-is c.in-Err-Memory.ensures.failed, (refl, Keeps-refl _))

pub returns-in-Err-Failed : goal.returns-in-Err-Failed
returns-in-Err-Failed g c =
    (failed_rose _ _ _ c.in-Err-Failed.field-0-is c.in-Err-Failed.ensures.failed, (refl, Keeps-refl _))
