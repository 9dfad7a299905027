use Rattle.examples_world.proofs.runs.Mishaps.{no_memory}
use Rattle.examples_world.proofs.runs.no_memory_example.Goals as goal

pub returns : goal.returns
returns c = record { last = no_memory.0; behind = no_memory.1; lacked = no_memory.2 }
