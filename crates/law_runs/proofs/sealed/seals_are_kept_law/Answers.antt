use Rattle.law_runs.proofs.sealed.Runs.{seals_are_kept}
use Rattle.law_runs.proofs.sealed.seals_are_kept_law.Goals as goal

pub returns : goal.returns
returns c = record {
  kept = seals_are_kept c.nothing_is_refused_law.ensures c.wire_facts_law.ensures.lawful c.runs_law.ensures.runs;
}
