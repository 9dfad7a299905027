use Rattle.std.proofs.Common.{sym, ◌∙◌}
use Rattle.client_ends.proofs.dialog_responses.Offered.{of_none, of_one, of_more}
use Rattle.client_ends.proofs.dialog_responses.choice.was_offered.Goals as goal

pub returns-then-is_empty : goal.returns-then-is_empty
returns-then-is_empty c = sym (of_none c.args.offered.now c.args.told.now (sym c.is_empty.ensures ∙ c.if-is_empty.true))

pub returns-then-told-ne1 : goal.returns-then-told-ne1
returns-then-told-ne1 c =
    sym (of_more c.args.offered.now c.args.told.now (sym c.is_empty.ensures ∙ c.if-is_empty.false) c.if-told-ne1.true)

pub returns : goal.returns
returns c = c.has_id.ensures ∙ sym (of_one c.args.offered.now c.args.told.now c.if-told-ne1.false)
