use Rattle.std.proofs.Common.{◌∷◌, ◌∙◌, refl, None}
use Rattle.std.specs.String.{string_bytes}
use Rattle.drill_command.specs.Asking.{asked_behind}
use Rattle.drill_command.proofs.Said.{behind_more, behind_none}
use Rattle.drill_command.proofs.words.asked_by_three.Goals as goal

pub returns-in-Some : goal.returns-in-Some
returns-in-Some c =
    behind_more string_bytes (λ l. asked_behind c.args.word.now (c.args.seed.now ∷ c.args.operations.now ∷ l))
    c.args.more.now _ _ None refl c.in-Some.ensures.cases.0

pub returns-in-None : goal.returns-in-None
returns-in-None c =
    c.gen_named.ensures
    ∙ behind_none string_bytes (λ l. asked_behind c.args.word.now (c.args.seed.now ∷ c.args.operations.now ∷ l))
    c.args.more.now c.in-None.ensures.cases
