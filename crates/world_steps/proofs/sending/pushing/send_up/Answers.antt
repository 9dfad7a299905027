use Rattle.world_steps.proofs.Refusing.{result_with}
use Rattle.world_steps.proofs.sending.pushing.send_up.Goals as goal

pub say_up-requires : goal.say_up-requires
say_up-requires c = c.in-Ok.ensures.sends

pub returns-in-Ok : goal.returns-in-Ok
returns-in-Ok c =
    result_with c.say_up.result (λ u says. record { request = c.in-Ok.request; asks = c.in-Ok.ensures; says = says }) c.say_up.ensures
