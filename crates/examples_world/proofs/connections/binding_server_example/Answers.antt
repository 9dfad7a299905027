use Rattle.examples_world.proofs.connections.Computed.{signed_verified, unsigned_refused}
use Rattle.examples_world.proofs.connections.binding_server_example.Goals as goal

pub returns : goal.returns
returns c = record { signed = signed_verified; unsigned = unsigned_refused }
