use Rattle.std.proofs.Common.{◌+◌, ◌∷◌, drop, sym, ap, ◌∙◌}
use Rattle.std.proofs.lemmas.List.{drop_more}
use Rattle.client_values.specs.declared.outcomes.outcome.Outcome.{Outcome as Item}
use Rattle.drill_command.proofs.summing.outcome_at.Goals as goal

pub returns : goal.returns
returns c =
    let items = c.args.settled.now in
    let own = c.index-settled-place.result in
    drop_more items c.args.place own c.requires ∙ ap (λ (o : Item). o ∷ drop (c.args.place + 1) items) (sym c.index-settled-place.is)
