use Rattle.std.proofs.Common.{refl}
use Rattle.world_steps.proofs.Refusing.{result_with}
use Rattle.world_steps.proofs.sending.saying.say.Goals as goal

pub returns-in-Ok : goal.returns-in-Ok
returns-in-Ok c =
    result_with c.put_up.result
    (λ u put. record { said = c.in-Ok.up; client = c.in-Ok.ensures; server = refl; up = put; down = refl }) c.put_up.ensures
