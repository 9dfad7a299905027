use Rattle.std.proofs.Common.{sym, ◌∙◌}
use Rattle.client_ends.proofs.dialog_responses.Offered.{first_none, first_one}
use Rattle.client_ends.proofs.dialog_responses.choice.first_or.Goals as goal

pub returns-then-is_empty : goal.returns-then-is_empty
returns-then-is_empty c = sym (first_none c.args.other c.args.ids.now (sym c.is_empty.ensures ∙ c.if-is_empty.true))

pub returns : goal.returns
returns c = sym (first_one c.args.other c.args.ids.now (sym c.is_empty.ensures ∙ c.if-is_empty.false))
