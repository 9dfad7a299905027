use Rattle.world_ends.specs.Tests.{opened_in}
use Rattle.world_steps.proofs.CutOff.{cut_off_at, not_open}
use Rattle.world_steps.proofs.Refusing.{memory, passed_by, refused_by}
use Rattle.world_steps.proofs.cutting.cut.Goals as goal

pub returns-then-not-is_open : goal.returns-then-not-is_open
returns-then-not-is_open c = λ z w h.
    let x = c.args.world.now in
    not_open z x w c.args.k
    (refused_by opened_in c.is_open.result _ x.channels.items c.args.k c.is_open.ensures c.deref.ensures.value c.if-not-is_open.true) h

pub returns-in-Ok : goal.returns-in-Ok
returns-in-Ok c = λ z w h.
    let x = c.args.world.now in
    let e = c.cut_end.new in
    cut_off_at z x (record x { client = e.client; making = e.making; channels = e.channels }) c.later.new.world w c.args.k c.in-Ok.ensures
    (passed_by opened_in c.is_open.result _ x.channels.items c.args.k c.is_open.ensures c.deref.ensures.value c.if-not-is_open.false)
    c.later.ensures.rest c.later.ensures.moment h

pub returns-in-Err : goal.returns-in-Err
returns-in-Err c = λ z w h. memory z _ w _ _ c.in-Err.ensures
