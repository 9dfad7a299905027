use Rattle.world_steps.proofs.Refusing.{result_with}
use Rattle.world_steps.proofs.submitting.take_in.Goals as goal

pub returns-in-Ok : goal.returns-in-Ok
returns-in-Ok c = result_with c.mark.result
    (λ u m. record {
      shown = c.in-Ok.ensures.shown;
      marked = λ d s. rw (c.taken_by-taken.ensures d s) m;
    }) c.mark.ensures

pub returns-in-Err : goal.returns-in-Err
returns-in-Err c = c.in-Err.ensures.told
