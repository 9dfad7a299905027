use Rattle.std.proofs.Common.{◌∙◌}
use Rattle.std.specs.String.{string_bytes}
use Rattle.drill_command.proofs.Said.{behind_first, behind_none}
use Rattle.smb311.specs.command.Top.{asks_client}
use Rattle.smb311.proofs.command.words.asks_client.Goals as goal

pub returns-in-Some : goal.returns-in-Some
returns-in-Some c =
    c.is_run.ensures
    ∙ behind_first string_bytes asks_client c.args.words.now c.in-Some.word.now _ c.as_str.result.now c.as_str.ensures.value
    c.in-Some.ensures.cases.0

pub returns-in-None : goal.returns-in-None
returns-in-None c = behind_none string_bytes asks_client c.args.words.now c.in-None.ensures.cases
