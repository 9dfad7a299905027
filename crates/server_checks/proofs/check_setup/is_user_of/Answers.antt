use Rattle.std.proofs.Common.{ap, sym, ◌∙◌}
use Rattle.spec_exchange.specs.Texts.{same_name}
use Rattle.server_checks.proofs.check_setup.is_user_of.Goals as goal

pub returns : goal.returns
returns c = λ s x h. c.same_name.ensures ∙ ap (same_name c.args.user.now) (c.as_str.ensures ∙ sym h.1.user_is)
