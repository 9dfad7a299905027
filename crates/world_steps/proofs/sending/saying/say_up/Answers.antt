use Rattle.world_steps.specs.sending.Sending.{SendingSaysOn}
use Rattle.world_steps.proofs.Refusing.{result_with}
use Rattle.world_steps.proofs.Setting.{one_lent}
use Rattle.world_steps.proofs.sending.saying.say_up.Goals as goal

pub returns-then-within : goal.returns-then-within
returns-then-within c =
    result_with c.say.result
    (λ u says. one_lent (SendingSaysOn c.args.request.now) c.args.k c.args.channels.now.items c.say.new.channel c.index_mut.result.now
    c.index_mut.ensures.value says) c.say.ensures
