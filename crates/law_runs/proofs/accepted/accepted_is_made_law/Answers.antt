use Rattle.law_runs.proofs.accepted.Runs.{accepted_is_made}
use Rattle.law_runs.proofs.accepted.accepted_is_made_law.Goals as goal

pub returns : goal.returns
returns c = record {
  made = accepted_is_made c.nothing_is_refused_law.ensures c.wire_facts_law.ensures.lawful c.runs_law.ensures.runs;
}
