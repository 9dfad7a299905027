use Rattle.world_steps.specs.taking.Replies.{HearsAt}
use Rattle.world_steps.proofs.Refusing.{result_with}
use Rattle.world_steps.proofs.Setting.{one_lent}
use Rattle.world_steps.proofs.taking.hearing.hear_front.Goals as goal

pub returns-then-within : goal.returns-then-within
returns-then-within c =
    result_with c.hear_at.result
    (λ o heard. one_lent (HearsAt o) c.args.k c.args.channels.now.items c.hear_at.new.channel c.index_mut.result.now
    c.index_mut.ensures.value
    heard) c.hear_at.ensures
