use Rattle.std.proofs.Common.{subst}
use Rattle.std.specs.String.{string_bytes}
use Rattle.law_scripts.specs.generated.ReadsBack.{made_script}
use Rattle.script_words.specs.declared.text_lines.line.Refusal.{Refusal}
use Rattle.script_words.specs.Outcome.{Fails}
use Rattle.script_words.specs.declared.values.Fault.{Fault}
use Rattle.drill_command.specs.Playing.{run_of}
use Rattle.drill_command.proofs.Ended.{sums_line, sums_text}
use Rattle.drill_command.proofs.generating.summed_up.Goals as goal

pub returns-in-Ok : goal.returns-in-Ok
returns-in-Ok g c =
    sums_text c.args.key c.args.operations c.args.seed (string_bytes c.in-Ok.text) _ _ _ _ c.done.result c.in-Ok.ensures
    (rw c.as_str.ensures.value at c.done.ensures)

pub returns-in-Err-Refused : goal.returns-in-Err-Refused
returns-in-Err-Refused g c =
    sums_line c.args.key c.args.operations c.args.seed c.in-Err-Refused.refusal _ _ _ _ c.refused.result
    (subst (λ (f : Fault Refusal). Fails f (run_of (made_script c.args.key c.args.operations) c.args.seed)) c.in-Err-Refused.field-0-is
    c.in-Err-Refused.ensures) c.refused.ensures
