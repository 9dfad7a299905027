use Rattle.drill_command.proofs.script_run.Driven.{done_line, refused_line}
use Rattle.script_words.specs.Outcome.{Fails}
use Rattle.script_words.specs.declared.text_lines.line.Refusal.{Refusal}
use Rattle.script_words.specs.declared.values.Fault.{Fault}
use Rattle.std.proofs.Common.{sym, subst}
use Rattle.law_scripts.specs.script_setup.Scripts.{lines_of_statement}
use Rattle.law_scripts.specs.script_runs.Runs.{did}
use Rattle.drill_command.proofs.script_run.running.drive_behind.Goals as goal

pub returns-in-Ok-clause-state : goal.returns-in-Ok-clause-state
returns-in-Ok-clause-state c = λ z d before h e.
    done_line z c.args.line before c.args.behind c.args.statement d c.args.world.now c.drive.new.world tt e c.in-Ok.ensures h

pub returns-in-Err-clause-state : goal.returns-in-Err-clause-state
returns-in-Err-clause-state c = λ z d before h e.
    subst (λ (f : Fault Refusal). Fails f (did z c.args.line (lines_of_statement before c.args.statement) d)) (sym c.fault_of.ensures)
    (refused_line z c.args.line before c.args.behind c.args.statement d c.args.world.now c.drive.new.world c.in-Err.why
    e c.in-Err.ensures h)
