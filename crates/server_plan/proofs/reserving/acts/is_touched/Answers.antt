use Rattle.std.proofs.Common.{ap, ◌∙◌}
use Rattle.spec_exchange.specs.Commands.{Basic}
use Rattle.spec_exchange.specs.Effects.{is_touched_at}
use Rattle.server_plan.proofs.reserving.acts.is_touched.Goals as goal

pub returns : goal.returns
returns c = λ s h x. c.is_touched_at.ensures ∙ ap (λ (b : Basic). is_touched_at b c.args.now) (c.basic-basic.ensures s h x)
