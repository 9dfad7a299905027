use Rattle.examples_world.proofs.connections.Computed.{session_sealed, session_plain}
use Rattle.examples_world.proofs.connections.accepted_session_example.Goals as goal

pub returns : goal.returns
returns c = record { sealed = session_sealed; plain = session_plain }
