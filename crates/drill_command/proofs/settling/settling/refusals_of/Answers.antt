use Rattle.std.proofs.Common.{length, ap, ◌∙◌}
use Rattle.std.proofs.lemmas.List.{length-map}
use Rattle.client_values.specs.outcomes.Meaning.{dialog_of}
use Rattle.drill_command.proofs.settling.settling.refusals_of.Goals as goal

pub returns : goal.returns
returns c = λ d s. ap length (c.refusals.ensures d s) ∙ length-map c.refusals.result.now dialog_of
