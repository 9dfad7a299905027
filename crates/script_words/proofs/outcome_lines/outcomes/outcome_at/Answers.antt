use Rattle.std.proofs.Common.{◌+◌, ◌∷◌, drop, sym, ap, ◌∙◌}
use Rattle.std.proofs.lemmas.List.{drop_more}
use Rattle.client_values.specs.declared.outcomes.outcome.Outcome.{Outcome}
use Rattle.script_words.proofs.outcome_lines.outcomes.outcome_at.Goals as goal

pub returns : goal.returns
returns c =
    let settled = c.args.settled.now in
    let own = c.index-settled-place.result in
    drop_more settled c.args.place own c.requires
    ∙ ap (λ (o : Outcome). o ∷ drop (c.args.place + 1) settled) (sym c.index-settled-place.is)
