use Rattle.std.proofs.Common.{List, map, sym, ap, ◌∙◌}
use Rattle.client_values.specs.declared.outcomes.outcome.RefusedDialog.{RefusedDialog}
use Rattle.client_values.specs.outcomes.Meaning.{dialog_of}
use Rattle.client_steps.proofs.whole_client.client.Client.refusals.Goals as goal

pub returns : goal.returns
returns c = λ d s. s.table.refusals ∙ ap (λ (xs : List RefusedDialog). map dialog_of xs) (sym c.as_slice.ensures.value)
