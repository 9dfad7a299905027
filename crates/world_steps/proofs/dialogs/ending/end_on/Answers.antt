use Rattle.std.proofs.Common.{Bool, subst}
use Rattle.world_steps.specs.dialogs.Turned.{IsTalkLeft}
use Rattle.world_steps.proofs.dialogs.ending.end_on.Goals as goal

pub returns-in-Ok : goal.returns-in-Ok
returns-in-Ok c = record {
  told = c.in-Ok.act;
  shown = c.in-Ok.ensures.shown;
  tells = c.in-Ok.ensures.told;
  channel = c.left.result;
  left = subst (λ (b : Bool). IsTalkLeft c.args.rest c.args.line b c.left.result) c.fails.ensures c.left.ensures;
  placed = c.put_channel.ensures;
}

pub returns-in-Err : goal.returns-in-Err
returns-in-Err c = c.in-Err.ensures.told
