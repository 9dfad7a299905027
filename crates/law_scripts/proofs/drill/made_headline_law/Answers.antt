use Rattle.law_scripts.proofs.drill.Made.{made_hold}
use Rattle.law_scripts.proofs.drill.made_headline_law.Goals as goal

pub returns : goal.returns
returns c = record {
  holds = made_hold c.headline_law.ensures.holds c.default_settings_law.ensures.fit c.made_lines_law.ensures.few;
}
