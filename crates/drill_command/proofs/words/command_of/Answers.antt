use Rattle.std.proofs.Common.{◌∙◌}
use Rattle.std.specs.String.{string_bytes}
use Rattle.drill_command.specs.Asking.{asked_in}
use Rattle.drill_command.proofs.Said.{behind_first, behind_none}
use Rattle.drill_command.proofs.words.command_of.Goals as goal

pub returns-in-Some : goal.returns-in-Some
returns-in-Some c =
    c.asked_by.ensures
    ∙ behind_first string_bytes asked_in c.args.words.now c.in-Some.word.now c.in-Some.more.now c.as_str.result.now c.as_str.ensures.value
    c.in-Some.ensures.cases.0

pub returns-in-None : goal.returns-in-None
returns-in-None c = behind_none string_bytes asked_in c.args.words.now c.in-None.ensures.cases
