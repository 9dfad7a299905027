use Rattle.std.proofs.Common.{refl}
use Rattle.world_steps.proofs.Refusing.{result_with}
use Rattle.world_steps.proofs.dialogs.turning.take_there.Goals as goal

pub returns-in-Ok : goal.returns-in-Ok
returns-in-Ok c = result_with c.talk_at.result (λ u turns. record {
  talk = c.in-Ok.talk;
  mid = record c.args.world.now { channels = c.take_out.new.channels };
  mid_is = refl;
  out = c.in-Ok.ensures;
  turns = turns;
}) c.talk_at.ensures
