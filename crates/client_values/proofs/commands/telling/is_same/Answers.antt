use Rattle.std.proofs.Common.{sym, ◌∙◌}
use Rattle.client_values.proofs.commands.Names.{same_is}
use Rattle.client_values.proofs.commands.telling.is_same.Goals as goal

pub returns : goal.returns
returns c = c.eq.ensures ∙ sym (same_is c.args.a.now c.args.b.now)
