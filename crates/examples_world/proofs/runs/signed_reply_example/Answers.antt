use Rattle.examples_world.proofs.runs.Owed.{signed_replies}
use Rattle.examples_world.proofs.runs.signed_reply_example.Goals as goal

pub returns : goal.returns
returns c = signed_replies
