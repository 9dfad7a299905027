use Rattle.examples_world.proofs.runs.Replies.{sealed_replies}
use Rattle.examples_world.proofs.runs.sealed_reply_example.Goals as goal

pub returns : goal.returns
returns c = record { frames = sealed_replies.0; counter = sealed_replies.1 }
