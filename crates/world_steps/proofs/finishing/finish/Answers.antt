use Rattle.std.proofs.Common.{sym, ◌∙◌}
use Rattle.world_steps.proofs.Finished.{finished, goes_on}
use Rattle.world_steps.proofs.finishing.finish.Goals as goal

pub returns-then-is_live : goal.returns-then-is_live
returns-then-is_live c = λ z w h.
    goes_on z c.args.world.now w c.args.refusal (sym (c.is_live.ensures w.values.client h.own.client) ∙ c.if-is_live.true) h

pub returns-in-Ok : goal.returns-in-Ok
returns-in-Ok c = λ z w h.
    let x = c.args.world.now in
    finished z x (record x { client = c.happen.new.client }) c.later.new.world w c.args.refusal c.in-Ok.ensures.shown
    (sym (c.is_live.ensures w.values.client h.own.client) ∙ c.if-is_live.false) c.later.ensures.rest c.later.ensures.moment h

pub returns-in-Err : goal.returns-in-Err
returns-in-Err c = λ z w h. c.in-Err.ensures.told
