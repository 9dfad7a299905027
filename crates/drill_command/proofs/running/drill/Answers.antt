use Rattle.std.proofs.lemmas.Result.{err_from_is_err_and}
use Rattle.std.specs.String.{string_bytes}
use Rattle.script_words.specs.text_lines.Views.{read_of}
use Rattle.drill_command.proofs.Played.{drilled_by, failed_text}
use Rattle.drill_command.proofs.running.drill.Goals as goal

pub returns-in_err-read : goal.returns-in_err-read
returns-in_err-read c =
    let p = err_from_is_err_and c.from_residual.result c.from_residual.ensures.1 in
    rw (p.1, p.2) (failed_text c.args.text.now c.args.seed _ c.in_err-read.ensures)

pub returns : goal.returns
returns c =
    drilled_by string_bytes c.args.text.now c.args.seed (read_of c.in_ok-read.read) c.ran.result c.script_headline_law.ensures.holds
    c.script_settings_law.ensures.fit c.run_course_law.ensures.courses c.in_ok-read.ensures c.ran.ensures
