use Rattle.std.proofs.Common.{◌∙◌}
use Rattle.server_effects.proofs.leaving_opens.Files.{left_put}
use Rattle.server_effects.proofs.leaving_opens.leaving.put_left.Goals as goal

pub returns-in-Ok : goal.returns-in-Ok
returns-in-Ok c = λ q. c.in-Ok.ensures.updates.0 q ∙ left_put c.args.file q _ _
