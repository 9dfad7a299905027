use Rattle.world_steps.proofs.Refusing.{result_with}
use Rattle.world_steps.proofs.taking.taking.reply_to.Goals as goal

pub returns-in-Ok : goal.returns-in-Ok
returns-in-Ok c =
    result_with c.respond.result (λ act answers. record {
      reply = c.in-Ok.reply;
      reads = c.in-Ok.ensures;
      answers = answers;
    }) c.respond.ensures
