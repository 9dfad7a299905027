use Rattle.std.proofs.Common.{Some, ap}
use Rattle.server_effects.proofs.logons.set_up_answer.Goals as goal

pub returns-clause-channel : goal.returns-clause-channel
returns-clause-channel c = λ h. ap Some (c.short.ensures h)
