use Rattle.std.proofs.Common.{refl}
use Rattle.world_steps.proofs.Refusing.{result_with}
use Rattle.world_steps.proofs.sending.saying.send_from.Goals as goal

pub returns-in-Ready : goal.returns-in-Ready
returns-in-Ready c =
    result_with c.send_on.result
    (λ u sends. record {
      before = c.in-Ready.line;
      behind = c.send_on.new.line;
      was = c.in-Ready.is;
      becomes = refl;
      sends = sends;
    }) c.send_on.ensures
