use Rattle.examples_world.proofs.connections.Computed.{nothing_taken}
use Rattle.examples_world.proofs.connections.absent_reply_example.Goals as goal

pub returns : goal.returns
returns c = nothing_taken
