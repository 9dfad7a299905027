use Rattle.std.proofs.Common.{length}
use Rattle.world_steps.specs.serving.Said.{SaysSoFar}
use Rattle.world_steps.proofs.serving.saying.say_frames.Given as goal

abbrev pub invariant-loop-parted : goal.invariant-loop-parted
invariant-loop-parted l = SaysSoFar l.initial.down.items l.place l.answer l.rest l.down.items

abbrev pub decreases-loop-parted : goal.decreases-loop-parted
decreases-loop-parted l = length l.rest
