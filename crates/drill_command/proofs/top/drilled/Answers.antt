use Rattle.drill_command.proofs.Ended.{drills}
use Rattle.drill_command.proofs.top.drilled.Goals as goal

pub returns-in-Ok : goal.returns-in-Ok
returns-in-Ok g c =
    drills _ _ _ _ _ _ _ _ _ c.in-Ok.script.items c.answered.result c.in-Ok.ensures.read c.in-Ok.ensures.calm
    (rw c.as_slice.ensures.value at c.answered.ensures)
