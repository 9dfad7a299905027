use Rattle.std.proofs.Common.{Result, subst}
use Rattle.std.specs.String.{string_bytes}
use Rattle.script_words.specs.declared.text_lines.line.Refusal.{Refusal}
use Rattle.script_words.specs.declared.values.Fault.{Fault}
use Rattle.drill_command.specs.Playing.{DrillEnds}
use Rattle.drill_command.proofs.Played.{told_ok}
use Rattle.drill_command.proofs.running.told.Goals as goal

pub returns-in-Ok : goal.returns-in-Ok
returns-in-Ok c = λ z due h.
    told_ok string_bytes z due c.args.ended.now c.text_behind.result c.text_behind.ensures
    (subst (λ (r : Result Unit (Fault Refusal)). DrillEnds z due c.args.ended.now r) c.in-Ok.is h)

pub returns-in-Err : goal.returns-in-Err
returns-in-Err c = λ z due h. subst (λ (r : Result Unit (Fault Refusal)). DrillEnds z due c.args.ended.now r) c.in-Err.is h
