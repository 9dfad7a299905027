use Rattle.law_scripts.proofs.settling.Lines.{lines_settle}
use Rattle.law_scripts.proofs.settling.lines_settle_law.Goals as goal

pub returns : goal.returns
returns c = record {
  settle = lines_settle (record {
    held = c.nothing_is_refused_law.ensures;
    plain = c.plain_runs_law.ensures.runs;
    purse = c.purse_law.ensures.full;
    along = c.lists_law.ensures.along;
  });
}
