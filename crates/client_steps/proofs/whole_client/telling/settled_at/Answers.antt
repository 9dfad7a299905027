use Rattle.std.proofs.Common.{◌∙◌}
use Rattle.std.proofs.lemmas.List.{get_or_default}
use Rattle.client_values.specs.declared.outcomes.outcome.Outcome.TheVariants as outcomes
use Rattle.client_steps.proofs.whole_client.telling.settled_at.Goals as goal

pub returns : goal.returns
returns c = c.index-settled-place.is
    ∙ get_or_default c.args.settled.now c.args.place c.index-settled-place.result (outcomes.NoOpen 0) c.requires
