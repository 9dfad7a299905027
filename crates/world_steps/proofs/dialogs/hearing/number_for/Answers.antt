use Rattle.std.proofs.Common.{refl}
use Rattle.world_steps.proofs.Refusing.{result_with}
use Rattle.world_steps.proofs.dialogs.Refused.{no_way}
use Rattle.world_steps.proofs.dialogs.hearing.number_for.Goals as goal

pub returns-in-Some : goal.returns-in-Some
returns-in-Some c = rw c.in-Some.is (result_with c.next_number.result (λ n h. (h.0, λ some. h.1)) c.next_number.ensures)

pub returns-in-None : goal.returns-in-None
returns-in-None c = rw c.in-None.is (refl, λ some. no_way some)
