use Rattle.client_events.proofs.world_law.Picking.{pick_goes_out}
use Rattle.client_events.proofs.world_law.pick_law.Goals as goal

pub returns : goal.returns
returns c = pick_goes_out
