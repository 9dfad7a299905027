use Rattle.std.proofs.Common.{Bool, subst}
use Rattle.world_steps.specs.Parts.{ClosedBy}
use Rattle.world_steps.proofs.cutting.cut_line.Goals as goal

pub returns-in-Ok : goal.returns-in-Ok
returns-in-Ok c = record {
  told = c.in-Ok.act;
  shown = c.in-Ok.ensures.shown;
  tells = c.in-Ok.ensures.told;
  closed = subst (λ (b : Bool). ClosedBy c.args.making.now c.args.channels.now.items c.args.k b c.close_by.new.making
      c.close_by.new.channels.items) c.closes_all-all.ensures c.close_by.ensures;
}

pub returns-in-Err : goal.returns-in-Err
returns-in-Err c = c.in-Err.ensures.told
