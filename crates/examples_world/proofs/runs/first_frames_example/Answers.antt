use Rattle.examples_world.proofs.runs.Probes.{first_frames}
use Rattle.examples_world.proofs.runs.first_frames_example.Goals as goal

pub returns : goal.returns
returns c = record { long = first_frames.0; refused = first_frames.1; whole = first_frames.2; later = first_frames.3 }
