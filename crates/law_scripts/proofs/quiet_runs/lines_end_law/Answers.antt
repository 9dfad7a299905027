use Rattle.law_scripts.proofs.quiet_runs.Ends.{lines_end}
use Rattle.law_scripts.proofs.quiet_runs.lines_end_law.Goals as goal

pub returns : goal.returns
returns c = record {
  end = lines_end (record {
    held = c.nothing_is_refused_law.ensures;
    plain = c.plain_runs_law.ensures.runs;
    purse = c.purse_law.ensures.full;
    along = c.lists_law.ensures.along;
  });
}
