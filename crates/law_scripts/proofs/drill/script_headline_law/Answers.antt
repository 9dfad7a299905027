use Rattle.law_scripts.proofs.drill.Holding.{scripts_hold}
use Rattle.law_scripts.proofs.drill.script_headline_law.Goals as goal

pub returns : goal.returns
returns c = record {
  holds = scripts_hold c.headline_law.ensures.holds c.script_settings_law.ensures.fit c.script_counts_law.ensures.few
      c.scripts_settle_law.ensures.settle c.scripts_end_law.ensures.end;
}
