use Rattle.examples_world.proofs.connections.Computed.{no_guest, not_nobody, not_unsealable, usual_session}
use Rattle.examples_world.proofs.connections.session_flags_example.Goals as goal

pub returns : goal.returns
returns c = record { guest = no_guest; nobody = not_nobody; no_cipher = not_unsealable; usual = usual_session }
