use Rattle.examples_world.proofs.runs.Opened.{between_are}
use Rattle.examples_world.proofs.runs.between_example.Goals as goal

pub returns : goal.returns
returns c = record {
  echo = between_are.0;
  echo_opens = between_are.1;
  cancel = between_are.2;
  cancel_opens = between_are.3;
  notify = between_are.4;
  notify_opens = between_are.5;
}
