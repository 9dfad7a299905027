use Rattle.std.proofs.Common.{not, ap, ◌∙◌}
use Rattle.world_steps.proofs.serving.Passing.{filled_by}
use Rattle.world_steps.proofs.serving.fronts.is_up.Goals as goal

pub returns : goal.returns
returns c = ap not c.is_empty.ensures ∙ filled_by c.args.channel.now.up.items _ c.args.channel.now.up.ok.0
