use Rattle.std.proofs.Common.{◌≡◌, ℕ, ◌++◌, ◌≤◌, List, length, Option, subst}
use Rattle.conn_core.specs.reply_sealing.Saying.{framed}
use Rattle.world_steps.specs.serving.Said.{PartsIn}
use Rattle.world_steps.specs.declared.serving.parting.Parted.{Parted}
use Rattle.world_steps.proofs.serving.Downs.{all_said, first_left, next_left}
use Rattle.world_steps.proofs.serving.saying.say_frames.Goals as goal

pub loop-parted-init : goal.loop-parted-init
loop-parted-init c = first_left c.args.down.now.items c.args.place c.args.answer.now

pub loop-parted-preserved : goal.loop-parted-preserved
loop-parted-preserved c =
    next_left c.args.down.now.items c.loop-parted.down.items _ c.args.place c.args.answer.now c.loop-parted.rest.now c.in-Some.parted
    c.in-Some.ensures.parts c.in-Some.ensures.shorter c.loop-parted.invariant c.in_ok-say_frame.ensures

-- no frame is in front
pub returns : goal.returns
returns c =
    all_said c.args.down.now.items c.loop-parted.down.items c.args.place c.args.answer.now c.loop-parted.rest.now
    (subst (λ (o : Option Parted). (m rest : List ℕ) → length m ≤ 1114112 → c.loop-parted.rest.now ≡ framed m ++ rest → PartsIn m rest o)
    c.in_default.is c.next_frame.ensures.parts) c.loop-parted.invariant
