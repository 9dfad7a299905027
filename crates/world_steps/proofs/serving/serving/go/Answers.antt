use Rattle.std.proofs.Common.{ℕ, List, subst}
use Rattle.world_steps.specs.serving.Fronted.{FrontGoesOn}
use Rattle.world_steps.specs.Lists.{ChangedAt}
use Rattle.world_steps.proofs.serving.serving.go.Goals as goal

pub returns-in-Ok : goal.returns-in-Ok
returns-in-Ok c = record {
  mid = record c.args.world.now { channels = c.answer_on.new.channels };
  rest = c.later.ensures.rest;
  time = c.later.ensures.moment;
  channels = subst (λ (l : List ℕ). ChangedAt (λ u v. FrontGoesOn u c.args.conn c.args.place l v) c.args.k c.args.world.now.channels.items
      c.answer_on.new.channels.items) c.as_slice.ensures c.in-Ok.ensures;
}
