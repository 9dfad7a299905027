use Rattle.std.proofs.Common.{sym, ap, ◌∙◌}
use Rattle.std.proofs.lemmas.List.{get_or_default}
use Rattle.client_values.specs.declared.outcomes.outcome.Outcome.TheVariants as outcomes
use Rattle.client_values.specs.outcomes.Meaning.{outcome_of}
use Rattle.client_steps.proofs.hearing.giving.is_gone_at.Goals as goal

pub returns : goal.returns
returns c = λ d create o shut persist at.
    let settled = c.args.settled.now in
    let own = c.index-settled-place.result in
    c.is_gone.ensures d create
    (o ∙ ap (λ z. outcome_of z) (get_or_default settled c.args.place (outcomes.NoOpen 0) own c.requires
    ∙ sym c.index-settled-place.is)) shut
    persist at
