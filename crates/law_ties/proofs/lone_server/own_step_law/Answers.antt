use Rattle.spec_world.specs.Hearing.{check_frame}
use Rattle.law_ties.proofs.lone_server.Own.{own_of}
use Rattle.law_ties.proofs.lone_server.own_step_law.Goals as goal

pub returns : goal.returns
returns c = record { own = λ z k now fresh s L f mishaps frame none m. own_of z k now fresh s L f mishaps (check_frame f frame) none m }
