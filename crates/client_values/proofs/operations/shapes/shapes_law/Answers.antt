use Rattle.client_values.proofs.operations.Agreeing.{shapes_same}
use Rattle.client_values.proofs.operations.shapes.shapes_law.Goals as goal

pub returns : goal.returns
returns c = shapes_same
