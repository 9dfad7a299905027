use Rattle.world_steps.specs.serving.Fronted.{FrontTaken}
use Rattle.world_steps.proofs.serving.Passing.{one_put, some_with}
use Rattle.world_steps.proofs.serving.fronts.front_of.Goals as goal

pub returns-then-within : goal.returns-then-within
returns-then-within c =
    some_with c.take_front.result
    (λ f r. one_put (λ x y. FrontTaken x f y) c.args.k c.args.channels.now.items c.index_mut.result.now c.take_front.new.channel
    c.index_mut.ensures.value r) c.take_front.ensures
