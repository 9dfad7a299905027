use Rattle.std.proofs.Common.{Bool, refl, subst}
use Rattle.world_steps.specs.taking.Replies.{ClosesBy}
use Rattle.world_steps.proofs.taking.taking.hear_response.Goals as goal

pub returns-in-Ok : goal.returns-in-Ok
returns-in-Ok c =
    let x = c.args.world.now in
    record {
      told = c.in-Ok.act;
      replies = c.in-Ok.ensures;
      closes = subst (λ (b : Bool). ClosesBy b x.making x.channels.items c.close_told.new.making c.close_told.new.channels.items)
          c.closes_all-all.ensures c.close_told.ensures;
      rest = refl;
    }
