use Rattle.law_hostile.proofs.sends.Lines.{own_lines_fit}
use Rattle.law_hostile.proofs.sends.own_lines_fit_law.Goals as goal

pub returns : goal.returns
returns c = record {
  fit = own_lines_fit c.headers_law.ensures.lawful c.commands_law.ensures.lawful c.trees_law.ensures.lawful;
}
