use Rattle.law_replies.proofs.counters.Bounds.{runs_are_bounded}
use Rattle.law_replies.proofs.counters.runs_are_bounded_law.Goals as goal

pub returns : goal.returns
returns c = record { bounded = runs_are_bounded }
