use Rattle.law_answers.proofs.completeness.Runs.{drain_suffices, link_suffices}
use Rattle.law_answers.proofs.completeness.bounds_law.Goals as goal

pub returns : goal.returns
returns c = record { drain = drain_suffices; link = link_suffices }
