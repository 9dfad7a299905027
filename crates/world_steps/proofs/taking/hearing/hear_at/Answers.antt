use Rattle.std.proofs.Common.{refl}
use Rattle.world_steps.proofs.Refusing.{result_with}
use Rattle.world_steps.proofs.taking.hearing.hear_at.Goals as goal

pub returns-in-Some : goal.returns-in-Some
returns-in-Some c =
    result_with c.hear_short.result
    (λ o heard. record { front = c.in-Some.down; client = heard; server = refl; up = refl; down = c.in-Some.ensures.items })
    c.hear_short.ensures
