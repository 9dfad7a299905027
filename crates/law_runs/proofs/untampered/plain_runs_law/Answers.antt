use Rattle.law_runs.proofs.untampered.Plain.{plain_runs}
use Rattle.law_runs.proofs.untampered.plain_runs_law.Goals as goal

pub returns : goal.returns
returns c = record {
  runs = plain_runs c.nothing_is_refused_law.ensures c.wire_facts_law.ensures.lawful c.runs_law.ensures.runs
      c.plain_nonces_law.ensures.once;
}
