use Rattle.world_steps.specs.Changes.{change_of, coming_in, has_open_end}
use Rattle.world_steps.proofs.Refusing.{memory, passed_by, refused_by}
use Rattle.world_steps.proofs.Tampered.{not_heard, nothing_there, tampers}
use Rattle.world_steps.proofs.tampering.tamper.Goals as goal

pub returns-then-not-is_hearing : goal.returns-then-not-is_hearing
returns-then-not-is_hearing c = λ z w h.
    let x = c.args.world.now in
    not_heard z x w c.args.k c.args.up (change_of c.args.change)
    (refused_by (has_open_end c.args.up) c.is_hearing.result _ x.channels.items c.args.k c.is_hearing.ensures c.deref.ensures.value
    c.if-not-is_hearing.true) h

pub returns-then-not-is_coming : goal.returns-then-not-is_coming
returns-then-not-is_coming c = λ z w h.
    let x = c.args.world.now in
    nothing_there z x w c.args.k c.args.up (change_of c.args.change)
    (passed_by (has_open_end c.args.up) c.is_hearing.result _ x.channels.items c.args.k c.is_hearing.ensures c.deref.ensures.value
    c.if-not-is_hearing.false)
    (refused_by (coming_in c.args.up) c.is_coming.result _ x.channels.items c.args.k c.is_coming.ensures c.deref-2.ensures.value
    c.if-not-is_coming.true) h

pub returns-in-Ok : goal.returns-in-Ok
returns-in-Ok c = λ z w h.
    let x = c.args.world.now in
    tampers z x (record x { channels = c.change_at.new.channels }) c.later.new.world w c.args.k c.args.up (change_of c.args.change)
    c.in-Ok.ensures
    (passed_by (has_open_end c.args.up) c.is_hearing.result _ x.channels.items c.args.k c.is_hearing.ensures c.deref.ensures.value
    c.if-not-is_hearing.false)
    (passed_by (coming_in c.args.up) c.is_coming.result _ x.channels.items c.args.k c.is_coming.ensures c.deref-2.ensures.value
    c.if-not-is_coming.false)
    c.later.ensures.rest c.later.ensures.moment h

pub returns-in-Err : goal.returns-in-Err
returns-in-Err c = λ z w h. memory z _ w _ _ c.in-Err.ensures
