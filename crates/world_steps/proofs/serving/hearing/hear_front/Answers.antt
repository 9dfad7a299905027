use Rattle.world_steps.proofs.serving.Passing.{result_on}
use Rattle.world_steps.specs.Parts.{IsWorldMemory}
use Rattle.world_steps.proofs.serving.hearing.hear_front.Goals as goal

pub returns-in-Some : goal.returns-in-Some
returns-in-Some c =
    result_on (λ e. IsWorldMemory e) c.hear.result (λ r h. record {
      front = c.in-Some.front;
      taken = c.in-Some.ensures;
      heard = h;
    }) c.hear.ensures
