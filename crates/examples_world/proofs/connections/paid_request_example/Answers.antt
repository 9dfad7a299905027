use Rattle.examples_world.proofs.connections.Computed.{request_paid, too_poor, rich_enough}
use Rattle.examples_world.proofs.connections.paid_request_example.Goals as goal

pub returns : goal.returns
returns c = record { spent = request_paid; poor = too_poor; rich = rich_enough }
