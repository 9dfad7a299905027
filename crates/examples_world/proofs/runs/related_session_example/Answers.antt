use Rattle.examples_world.proofs.runs.Trees.{related_session}
use Rattle.examples_world.proofs.runs.related_session_example.Goals as goal

pub returns : goal.returns
returns c = related_session
