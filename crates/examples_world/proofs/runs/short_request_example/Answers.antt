use Rattle.examples_world.proofs.runs.Others.{short_request}
use Rattle.examples_world.proofs.runs.short_request_example.Goals as goal

pub returns : goal.returns
returns c = record { place = short_request.0; short = short_request.1; whole = short_request.2 }
