use Rattle.world_steps.specs.Changes.{ChangesFront, change_of}
use Rattle.world_steps.proofs.Refusing.{result_with}
use Rattle.world_steps.proofs.Setting.{one_lent}
use Rattle.world_steps.proofs.tampering.change_at.Goals as goal

pub returns-then-within : goal.returns-then-within
returns-then-within c = result_with c.change_front.result
    (λ u r. one_lent (ChangesFront c.args.up (change_of c.args.change)) c.args.k c.args.channels.now.items c.change_front.new.channel
    c.index_mut.result.now c.index_mut.ensures.value r) c.change_front.ensures
