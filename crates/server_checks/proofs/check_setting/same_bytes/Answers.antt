use Rattle.std.proofs.Common.{sym, ◌∙◌}
use Rattle.server_checks.proofs.Same.{same_is}
use Rattle.server_checks.proofs.check_setting.same_bytes.Goals as goal

pub returns : goal.returns
returns c = c.eq.ensures ∙ sym (same_is c.args.a.now c.args.b.now)
