use Rattle.std.proofs.Common.{refl}
use Rattle.world_steps.proofs.Refusing.{result_with}
use Rattle.world_steps.proofs.taking.taking.go_on.Goals as goal

pub returns-in-Some : goal.returns-in-Some
returns-in-Some c = rw c.in-Some.is c.hear_response.ensures

pub returns-in-None : goal.returns-in-None
returns-in-None c = rw c.in-None.is (result_with c.cut_end.result (λ u cuts. record { cuts = cuts; rest = refl }) c.cut_end.ensures)
