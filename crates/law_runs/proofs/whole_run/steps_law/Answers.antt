use Rattle.law_runs.proofs.whole_run.Together.{together}
use Rattle.law_runs.proofs.whole_run.steps_law.Goals as goal

pub returns : goal.returns
returns c = record {
  steps = together c.plain_runs_law.ensures.runs c.accepted_is_made_law.ensures.made c.seals_are_kept_law.ensures.kept
      c.room_law.ensures.room;
}
