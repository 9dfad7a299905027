use Rattle.std.proofs.Common.{sym, ap, ◌∙◌, option_map, option_copied}
use Rattle.client_values.specs.outcomes.Meaning.{refusal_of}
use Rattle.client_values.specs.declared.outcomes.outcome.RefusedDialog.{RefusedDialog}
use Rattle.spec_exchange.specs.Schedules.{last_refusal}
use Rattle.drill_command.proofs.settling.Rounds.{last_told}
use Rattle.drill_command.proofs.settling.settling.last_of.Goals as goal

pub returns-in-Some : goal.returns-in-Some
returns-in-Some c = λ d s.
    ap (option_map (λ (x : RefusedDialog). refusal_of x.refusal)) (ap option_copied (sym c.in-Some.is) ∙ c.last.ensures.value)
    ∙ (sym (last_told c.refusals.result.now) ∙ ap last_refusal (sym (c.refusals.ensures d s)))

pub returns-in-None : goal.returns-in-None
returns-in-None c = λ d s.
    ap (option_map (λ (x : RefusedDialog). refusal_of x.refusal)) (ap option_copied (sym c.in-None.is) ∙ c.last.ensures.value)
    ∙ (sym (last_told c.refusals.result.now) ∙ ap last_refusal (sym (c.refusals.ensures d s)))
