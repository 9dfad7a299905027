use Rattle.std.proofs.Common.{refl, ap, ◌∙◌}
use Rattle.drill_command.specs.TopCall.{command_reads}
use Rattle.drill_command.proofs.Ended.{ends_as}
use Rattle.drill_command.proofs.top.command.Goals as goal

pub returns-in-Some-clause-ends : goal.returns-in-Some-clause-ends
returns-in-Some-clause-ends g c =
    ends_as _ _ _ _ _ _ _ _ _ _ _ _ c.commanded.result c.in-Some.ensures c.seed_from.ensures c.commanded.ensures.ends

pub returns-in-Some-clause-words_first : goal.returns-in-Some-clause-words_first
returns-in-Some-clause-words_first g c = λ e. c.commanded.ensures.words_first (ap command_reads c.in-Some.ensures ∙ e)

pub returns-in-None-clause-ends : goal.returns-in-None-clause-ends
returns-in-None-clause-ends g c = ends_as _ _ _ _ _ _ _ _ _ _ _ _ c.usage.result c.in-None.ensures refl c.usage.ensures

pub returns-in-None-clause-words_first : goal.returns-in-None-clause-words_first
returns-in-None-clause-words_first g c = λ e. refl
