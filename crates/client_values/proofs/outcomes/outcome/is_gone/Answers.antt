use Rattle.std.proofs.Common.{sym, ◌∙◌}
use Rattle.client_values.proofs.outcomes.Gone.{gone_by, gone_shut, of_other}
use Rattle.client_values.proofs.outcomes.outcome.is_gone.Goals as goal

pub returns-then-shut : goal.returns-then-shut
returns-then-shut c = λ d n e f g h. c.if-shut.true
    ∙ gone_shut d n c.args.outcome.now e (sym c.is_ok.ensures ∙ c.if-is_ok.true) (f ∙ c.if-shut.true)

pub returns-else-shut : goal.returns-else-shut
returns-else-shut c = λ d n e f g h. gone_by d n c.args.outcome.now c.args.persistent c.args.attached c.gives_none.result e
    (sym c.is_ok.ensures ∙ c.if-is_ok.true) (f ∙ c.if-shut.false) g h c.gives_none.ensures

pub returns-else-is_ok : goal.returns-else-is_ok
returns-else-is_ok c = λ d n e f g h. sym (of_other d n c.args.outcome.now e (sym c.is_ok.ensures ∙ c.if-is_ok.false))
