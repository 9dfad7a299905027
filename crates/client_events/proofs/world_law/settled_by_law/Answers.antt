use Rattle.client_events.proofs.world_law.Others.{others}
use Rattle.client_events.proofs.world_law.Settling.{responds}
use Rattle.client_events.proofs.world_law.settled_by_law.Goals as goal

pub returns : goal.returns
returns c = record { response = responds; other = others }
