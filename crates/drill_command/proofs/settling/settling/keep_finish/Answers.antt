use Rattle.std.proofs.Common.{refl}
use Rattle.drill_command.proofs.settling.settling.keep_finish.Goals as goal

pub returns-then-is_watched : goal.returns-then-is_watched
returns-then-is_watched c = c.note.ensures

pub returns : goal.returns
returns c = refl
