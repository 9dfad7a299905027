use Rattle.world_steps.specs.serving.Fronted.{FrontGoesOn}
use Rattle.world_steps.proofs.serving.Passing.{ok_with, one_put}
use Rattle.world_steps.proofs.serving.fronts.answer_on.Goals as goal

pub returns-then-within : goal.returns-then-within
returns-then-within c =
    ok_with c.go_on.result
    (λ r. one_put (λ x y. FrontGoesOn x c.args.conn c.args.place c.args.answer.now y) c.args.k c.args.channels.now.items
    c.index_mut.result.now
    c.go_on.new.channel c.index_mut.ensures.value r) c.go_on.ensures
