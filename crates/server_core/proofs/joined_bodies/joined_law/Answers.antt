use Rattle.server_core.proofs.joined_bodies.Joined.{joined}
use Rattle.server_core.proofs.joined_bodies.joined_law.Goals as goal

pub returns : goal.returns
returns c = joined
