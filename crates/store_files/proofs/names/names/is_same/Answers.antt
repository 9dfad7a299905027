use Rattle.std.proofs.Common.{sym, ◌∙◌}
use Rattle.store_files.proofs.names.Components.{same_is}
use Rattle.store_files.proofs.names.names.is_same.Goals as goal

pub returns : goal.returns
returns c = c.eq.ensures ∙ sym (same_is c.args.a.now c.args.b.now)
