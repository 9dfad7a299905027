use Rattle.law_outcomes.proofs.invariant.Law.{own_always, gone_always, creates_always, locks_always, edits_always, newest_always}
use Rattle.law_outcomes.proofs.invariant.invariant_law.Goals as goal

pub returns : goal.returns
returns c = record {
  own = own_always;
  gone = gone_always;
  creates = creates_always;
  locks = locks_always;
  edits = edits_always;
  newest = newest_always;
}
