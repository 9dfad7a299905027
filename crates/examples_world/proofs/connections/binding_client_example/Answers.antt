use Rattle.examples_world.proofs.connections.Computed.{binding_signed, binding_keys}
use Rattle.examples_world.proofs.connections.binding_client_example.Goals as goal

pub returns : goal.returns
returns c = record { signed = binding_signed; keys = binding_keys }
