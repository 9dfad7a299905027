use Rattle.law_answers.proofs.answers.Bare.{refusals_are_bare}
use Rattle.law_answers.proofs.answers.refusals_are_bare_law.Goals as goal

pub returns : goal.returns
returns c = record { bare = refusals_are_bare }
