use Rattle.world_steps.proofs.Refusing.{result_with}
use Rattle.world_steps.proofs.taking.taking.take_front.Goals as goal

pub returns-in-Ok : goal.returns-in-Ok
returns-in-Ok c =
    let x = c.args.world.now in
    result_with c.go_on.result
    (λ u goes. record {
      heard = c.in-Ok.heard;
      mid = record x { channels = c.hear_front.new.channels };
      hears = c.in-Ok.ensures;
      goes = goes;
    }) c.go_on.ensures
