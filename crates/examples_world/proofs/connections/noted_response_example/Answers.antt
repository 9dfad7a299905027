use Rattle.examples_world.proofs.connections.Computed.{session_noted, channel_noted, noted_over}
use Rattle.examples_world.proofs.connections.noted_response_example.Goals as goal

pub returns : goal.returns
returns c = record { session = session_noted; channel = channel_noted; over = noted_over }
