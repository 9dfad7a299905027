use Rattle.examples_world.proofs.connections.Computed.{begun_again, counts_on}
use Rattle.examples_world.proofs.connections.begun_again_example.Goals as goal

pub returns : goal.returns
returns c = record { making = begun_again; counter = counts_on }
