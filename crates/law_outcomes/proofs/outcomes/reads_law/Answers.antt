use Rattle.law_outcomes.proofs.outcomes.Waiting.{success_reads}
use Rattle.law_outcomes.proofs.outcomes.Causes.{never_unread}
use Rattle.law_outcomes.proofs.outcomes.reads_law.Goals as goal

pub returns : goal.returns
returns c = record { reads = success_reads; unread = never_unread }
