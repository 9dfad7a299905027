use Rattle.std.proofs.Common.{refl}
use Rattle.world_steps.proofs.Refusing.{result_with}
use Rattle.world_steps.proofs.taking.hearing.hear_from.Goals as goal

pub returns-in-Ready : goal.returns-in-Ready
returns-in-Ready c =
    result_with c.hear_on.result
    (λ o hears. record {
      before = c.in-Ready.line;
      behind = c.hear_on.new.line;
      was = c.in-Ready.is;
      becomes = refl;
      hears = hears;
    }) c.hear_on.ensures
