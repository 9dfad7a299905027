use Rattle.std.proofs.Common.{refl, sym, ◌∙◌}
use Rattle.client_ends.proofs.dialog_responses.negotiated.hinted.Goals as goal

pub returns-then-hints : goal.returns-then-hints
returns-then-hints c = (sym c.in_ok-hints.ensures ∙ c.if-hints.true, c.chosen_of.ensures)

pub returns-else-hints : goal.returns-else-hints
returns-else-hints c = (sym c.in_ok-hints.ensures ∙ c.if-hints.false, refl)
