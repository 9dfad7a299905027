use Rattle.world_steps.proofs.dialogs.Refused.{filled_by}
use Rattle.world_steps.proofs.dialogs.refusing.comes_down.Goals as goal

pub returns : goal.returns
returns c = filled_by c.args.down.now.items _ c.is_empty.result c.args.down.now.ok.0 c.is_empty.ensures
