use Rattle.examples_world.proofs.connections.Computed.{reply_noted, reply_sealed, request_noted, request_sealed}
use Rattle.examples_world.proofs.connections.noted_seal_example.Goals as goal

pub returns : goal.returns
returns c = record { reply = reply_noted; told = reply_sealed; request = request_noted; asked = request_sealed }
