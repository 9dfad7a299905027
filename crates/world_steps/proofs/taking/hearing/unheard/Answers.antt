use Rattle.std.proofs.Common.{refl}
use Rattle.world_steps.proofs.taking.hearing.unheard.Goals as goal

pub returns-in-BadReply : goal.returns-in-BadReply
returns-in-BadReply c = (c.in-BadReply.is, refl)
