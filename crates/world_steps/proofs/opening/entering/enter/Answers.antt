use Rattle.world_steps.proofs.Refusing.{result_with}
use Rattle.world_steps.proofs.opening.entering.enter.Goals as goal

pub returns-in-Ok : goal.returns-in-Ok
returns-in-Ok c = result_with c.place.result (λ u stands. record {
  status = c.in-Ok.status;
  stands = stands;
  server = c.in-Ok.ensures;
}) c.place.ensures
