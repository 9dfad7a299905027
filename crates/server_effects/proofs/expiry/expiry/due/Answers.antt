use Rattle.std.proofs.Common.{Bool, None, if◌then◌else◌, sym, ap, ◌∙◌}
use Rattle.spec_exchange.specs.Step.{due, with_deadlines}
use Rattle.server_effects.proofs.expiry.expiry.due.Goals as goal

pub returns-then-has_all_guids-clause-due : goal.returns-then-has_all_guids-clause-due
returns-then-has_all_guids-clause-due c = λ s f o.
    ap (λ (b : Bool). if b then None else due (with_deadlines s c.args.now) c.args.now)
    (sym c.if-has_all_guids.true ∙ c.has_all_guids.ensures s o)

pub returns-clause-due : goal.returns-clause-due
returns-clause-due c = λ s f o.
    c.due.ensures.due s f o ∙ ap (λ (b : Bool). if b then None else due (with_deadlines s c.args.now) c.args.now)
    (sym c.if-has_all_guids.false ∙ c.has_all_guids.ensures s o)

pub returns-clause-rest : goal.returns-clause-rest
returns-clause-rest c = c.due.ensures.rest
