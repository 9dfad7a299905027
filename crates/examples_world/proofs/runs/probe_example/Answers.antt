use Rattle.examples_world.proofs.runs.Probes.{probes_answered}
use Rattle.examples_world.proofs.runs.probe_example.Goals as goal

pub returns : goal.returns
returns c = record { keyless = probes_answered.0; signing = probes_answered.1; sealing = probes_answered.2; related = probes_answered.3; barred = probes_answered.4 }
