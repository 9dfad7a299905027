use Rattle.examples_world.proofs.connections.Computed.{unknown_session, session_told}
use Rattle.examples_world.proofs.connections.session_id_example.Goals as goal

pub returns : goal.returns
returns c = record { unknown = unknown_session; told = session_told }
