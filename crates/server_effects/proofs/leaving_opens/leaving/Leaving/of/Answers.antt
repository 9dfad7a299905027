use Rattle.std.proofs.Common.{ap}
use Rattle.server_effects.specs.leaving_opens.Left.{left_of}
use Rattle.server_effects.proofs.leaving_opens.leaving.Leaving.of.Goals as goal

pub returns-in-Some : goal.returns-in-Some
returns-in-Some c = ap left_of c.in-Some.ensures.value

pub returns-in-None : goal.returns-in-None
returns-in-None c = ap left_of c.in-None.ensures.value
