use Rattle.std.proofs.Common.{subst}
use Rattle.std.specs.String.{string_bytes}
use Rattle.script_words.specs.declared.text_lines.line.Refusal.{Refusal}
use Rattle.script_words.specs.Outcome.{Fails}
use Rattle.script_words.specs.declared.values.Fault.{Fault}
use Rattle.drill_command.specs.Playing.{played}
use Rattle.drill_command.proofs.Ended.{refuses, wrote_text}
use Rattle.drill_command.proofs.top.answered.Goals as goal

pub returns-in-Ok : goal.returns-in-Ok
returns-in-Ok g c =
    wrote_text c.args.script.now c.args.seed (string_bytes c.in-Ok.text) _ _ _ _ c.done.result c.in-Ok.ensures
    (rw c.as_str.ensures.value at c.done.ensures)

pub returns-in-Err-Refused : goal.returns-in-Err-Refused
returns-in-Err-Refused g c =
    refuses c.args.script.now c.args.seed c.in-Err-Refused.refusal _ _ _ _ c.refused.result
    (subst (λ (f : Fault Refusal). Fails f (played c.args.script.now c.args.seed)) c.in-Err-Refused.field-0-is c.in-Err-Refused.ensures)
    c.refused.ensures
