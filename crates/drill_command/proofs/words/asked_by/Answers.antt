use Rattle.std.proofs.Common.{◌∙◌}
use Rattle.std.specs.String.{string_bytes}
use Rattle.drill_command.specs.Asking.{asked_behind}
use Rattle.drill_command.proofs.Said.{behind_first, behind_none}
use Rattle.drill_command.proofs.words.asked_by.Goals as goal

pub returns-in-Some : goal.returns-in-Some
returns-in-Some c =
    c.asked_by_two.ensures
    ∙ behind_first string_bytes (λ l. asked_behind c.args.word.now l) c.args.more.now c.in-Some.seed.now
    c.in-Some.more.now c.as_str.result.now
    c.as_str.ensures.value c.in-Some.ensures.cases.0

pub returns-in-None : goal.returns-in-None
returns-in-None c = c.drill_of.ensures ∙ behind_none string_bytes (λ l. asked_behind c.args.word.now l) c.args.more.now
    c.in-None.ensures.cases
