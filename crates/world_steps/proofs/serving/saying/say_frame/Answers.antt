use Rattle.std.proofs.Common.{ℕ, List, subst}
use Rattle.std.specs.Prelude.{OnOk}
use Rattle.world_steps.specs.serving.Said.{SaysOne}
use Rattle.world_steps.proofs.serving.saying.say_frame.Goals as goal

pub returns-in-Ok : goal.returns-in-Ok
returns-in-Ok c =
    subst (λ (l : List ℕ). OnOk c.push_down.result (SaysOne c.args.down.now.items c.args.place l
    c.push_down.new.down.items)) c.in-Ok.ensures.items
    c.push_down.ensures
