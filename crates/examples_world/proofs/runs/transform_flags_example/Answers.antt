use Rattle.examples_world.proofs.runs.Probes.{transform_flags}
use Rattle.examples_world.proofs.runs.transform_flags_example.Goals as goal

pub returns : goal.returns
returns c = record { none = transform_flags.0; two = transform_flags.1; one = transform_flags.2 }
