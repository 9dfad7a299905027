use Rattle.spec_world.specs.Hearing.{check_frame}
use Rattle.law_ties.proofs.lone_server.Befell.{befell_of}
use Rattle.law_ties.proofs.lone_server.nothing_befell_law.Goals as goal

pub returns : goal.returns
returns c = record {
  none = λ z k now fresh s L f mishaps frame m lacked never. befell_of z k now fresh s L f mishaps (check_frame f frame) m lacked never;
}
