use Rattle.std.proofs.Common.{sym}
use Rattle.world_steps.proofs.Refusing.{result_with}
use Rattle.world_steps.proofs.sending.choosing.choose.Goals as goal

pub returns-in-Some : goal.returns-in-Some
returns-in-Some c = result_with c.choose_with.result
    (λ act h. record { held = c.in-Some.credits; credits = sym c.in-Some.ensures; chooses = h }) c.choose_with.ensures
