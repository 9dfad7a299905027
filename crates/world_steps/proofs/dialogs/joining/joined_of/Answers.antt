use Rattle.std.proofs.Common.{refl}
use Rattle.world_steps.proofs.dialogs.joining.joined_of.Goals as goal

pub returns-in-Ready : goal.returns-in-Ready
returns-in-Ready c = c.in-Ready.is

pub returns-in-Say : goal.returns-in-Say
returns-in-Say c = rw c.not_ready.ensures refl

pub returns-in-Accepted : goal.returns-in-Accepted
returns-in-Accepted c = rw c.not_ready-in-Accepted.ensures refl

pub returns-in-Refused : goal.returns-in-Refused
returns-in-Refused c = refl
