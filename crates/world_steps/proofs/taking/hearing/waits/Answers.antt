use Rattle.std.proofs.Common.{not, ap, ◌∙◌}
use Rattle.world_steps.proofs.taking.Heard.{filled_by}
use Rattle.world_steps.proofs.taking.hearing.waits.Goals as goal

pub returns : goal.returns
returns c = ap not c.is_empty.ensures ∙ filled_by c.args.list.now.items _ c.args.list.now.ok.0
