use Rattle.std.proofs.Common.{sym, ◌∙◌}
use Rattle.server_plan.proofs.reserving.Differs.{same_is}
use Rattle.server_plan.proofs.reserving.acts.same_path.Goals as goal

pub returns : goal.returns
returns c = c.eq.ensures ∙ sym (same_is c.args.a.now c.args.b.now)
