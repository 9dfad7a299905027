use Rattle.std.proofs.Common.{◌∙◌}
use Rattle.world_steps.proofs.Tampered.{some_filled}
use Rattle.world_steps.proofs.tampering.has_downs.Goals as goal

pub returns : goal.returns
returns c = c.is_some.ensures ∙ (c.front.ensures.item.0 ∙ some_filled c.args.down.now.items)
