use Rattle.std.proofs.Common.{Option, sym, subst, ◌∙◌}
use Rattle.std.specs.Prelude.{IfSome}
use Rattle.spec_exchange.specs.State as model
use Rattle.server_core.proofs.journaled_tables.Behind.{stands_still}
use Rattle.server_checks.specs.event_heard.Heard.{event_of, heard_event}
use Rattle.server_core.specs.behind_expiry.Behind.{BothReady}
use Rattle.server_core.specs.declared.behind_expiry.behind.Both.{Both}
use Rattle.server_core.proofs.event_step.Moments.{same_faults, since_same}
use Rattle.server_core.proofs.event_step.Refused.{ends_from, lack_still, none_from}
use Rattle.server_core.proofs.event_step.Without.{apart_still, both_apart}
use Rattle.server_core.proofs.event_step.expiring.event_without.Goals as goal
use Rattle.server_core.specs.journaled_tables.Counted.{front_of}
use Rattle.server_core.specs.journaled_tables.Holds.{EventLeavesBodies}
use Rattle.server_core.specs.journaled_tables.Rooms.{HasRoomToWrite}
use Rattle.law_server.specs.tables.Fits.{Fits}
use Rattle.server_effects.specs.prepared_event.Prepared.{RoomToCarry}
use Rattle.server_plan.specs.logon_steps.Steps.{PreparedStep}

pub carry_behind-requires : goal.carry_behind-requires
carry_behind-requires g c =
    subst (λ (v : Option Both). IfSome v (λ z. RoomToCarry c.ready_behind.new.server.tables c.args.asked.now z.prepared
    × HasRoomToWrite c.ready_behind.new.server z.body)) c.in-Ok-Some.field-0-is c.in-Ok-Some.ensures.room

pub none_behind-requires : goal.none_behind-requires
none_behind-requires g c = (c.ready_behind.ensures.kept.room c.requires.0, c.ready_behind.ensures.front c.requires.1)

pub lack_behind-requires : goal.lack_behind-requires
lack_behind-requires g c = (c.ready_behind.ensures.kept.room c.requires.0, c.ready_behind.ensures.front c.requires.1)

pub returns-in-Ok-Some : goal.returns-in-Ok-Some
returns-in-Ok-Some g c =
    let old = c.args.server.now in
    let mid = c.ready_behind.new.server in
    let x = event_of c.args.asked.now in
    let told = g.D.Disk.told in
    let seen = g.D.Disk.seen in
    let may_leave = g.D.Disk.may_leave in
    let room = c.ready_behind.ensures.journal.0 in
    let stops = c.ready_behind.ensures.journal.1 in
    let kept = c.ready_behind.ensures.kept in
    let both = c.in-Ok-Some.both in record {
      step = λ base users s L records e o y w may f.
          let stands = c.keeps_law.ensures.due s c.args.now o w.apart.held.fits may.is_due in
          let fits = subst (λ (u : model.Server). Fits u) (sym w.apart.state_is)
          (c.keeps_law.ensures.expired s o stands.0 w.apart.held.fits) in
          let m = apart_still told seen may_leave base old mid users s L records c.args.now e c.args.asked.now o
          c.args.expired y w.apart room stops
          kept in
          ends_from told seen may_leave base g.D.Disk.faults old mid c.carry_behind.new.server users s L records c.args.now e
          c.args.asked.now
          c.carry_behind.result w.apart.held.goes_on stops (same_faults g.D.Disk.faults old.journal mid.journal room)
          (c.carry_behind.ensures.step base users s y L records e o
          (both_apart told seen may_leave base mid users s y L records c.args.now e c.args.asked.now o c.args.expired both m fits
          (subst (λ (v : Option Both). BothReady mid y c.args.now x (front_of s x o) v) c.in-Ok-Some.field-0-is
          (c.in-Ok-Some.ensures.shown y (front_of s x o) fits w.tables w.apart.heard.agrees f.body))
          (subst (λ (v : Option Both). IfSome v (λ z. PreparedStep L c.args.asked.now c.args.now z.prepared)) c.in-Ok-Some.field-0-is
          (c.in-Ok-Some.ensures.step L w.apart.logons))) may);
      any_moment = λ tells base users s L records bodies e o y w may f goes.
          let stands = c.keeps_law.ensures.due s c.args.now o w.apart.held.fits may.is_due in
          let fits = subst (λ (u : model.Server). Fits u) (sym w.apart.state_is)
          (c.keeps_law.ensures.expired s o stands.0 w.apart.held.fits) in
          let m = apart_still told seen may_leave base old mid users s L records c.args.now e c.args.asked.now o
          c.args.expired y w.apart room stops
          kept in
          since_same g.D.Disk.moment g.D.Disk.left_since old.journal mid.journal c.carry_behind.new.server.journal.disk
          (EventLeavesBodies s c.args.now (heard_event users L s e) bodies) room
          (c.carry_behind.ensures.any_moment tells base users s y L records bodies e o
          (both_apart told seen may_leave base mid users s y L records c.args.now e c.args.asked.now o c.args.expired both m fits
          (subst (λ (v : Option Both). BothReady mid y c.args.now x (front_of s x o) v) c.in-Ok-Some.field-0-is
          (c.in-Ok-Some.ensures.shown y (front_of s x o) fits w.tables w.apart.heard.agrees f.body))
          (subst (λ (v : Option Both). IfSome v (λ z. PreparedStep L c.args.asked.now c.args.now z.prepared)) c.in-Ok-Some.field-0-is
          (c.in-Ok-Some.ensures.step L w.apart.logons))) may
          (stops ∙ goes.0, stands_still seen may_leave base old.journal mid.journal s records bodies room goes.1));
      none = none_from old mid c.carry_behind.new.server c.carry_behind.result room stops c.carry_behind.ensures.none;
      config = c.carry_behind.ensures.config ∙ kept.config;
    }

pub returns-in-Ok-None : goal.returns-in-Ok-None
returns-in-Ok-None g c =
    let old = c.args.server.now in
    let mid = c.ready_behind.new.server in
    let x = event_of c.args.asked.now in
    let told = g.D.Disk.told in
    let seen = g.D.Disk.seen in
    let may_leave = g.D.Disk.may_leave in
    let room = c.ready_behind.ensures.journal.0 in
    let stops = c.ready_behind.ensures.journal.1 in
    let kept = c.ready_behind.ensures.kept in record {
      step = λ base users s L records e o y w may f.
          let stands = c.keeps_law.ensures.due s c.args.now o w.apart.held.fits may.is_due in
          let fits = subst (λ (u : model.Server). Fits u) (sym w.apart.state_is)
          (c.keeps_law.ensures.expired s o stands.0 w.apart.held.fits) in
          let r = subst (λ (v : Option Both). BothReady mid y c.args.now x (front_of s x o) v) c.in-Ok-None.field-0-is
          (c.in-Ok-None.ensures.shown y (front_of s x o) fits w.tables w.apart.heard.agrees f.body) in
          ends_from told seen may_leave base g.D.Disk.faults old mid c.none_behind.new.server users s L records c.args.now e
          c.args.asked.now c.none_behind.result
          w.apart.held.goes_on stops (same_faults g.D.Disk.faults old.journal mid.journal room)
          (c.none_behind.ensures.step base users s L records e o y (record {
            apart = apart_still told seen may_leave base old mid users s L records c.args.now e c.args.asked.now o
                c.args.expired y w.apart room stops kept;
            tables = r.0;
          }) may f r.1);
      any_moment = λ tells base users s L records bodies e o y w may f goes.
          let stands = c.keeps_law.ensures.due s c.args.now o w.apart.held.fits may.is_due in
          let fits = subst (λ (u : model.Server). Fits u) (sym w.apart.state_is)
          (c.keeps_law.ensures.expired s o stands.0 w.apart.held.fits) in
          let r = subst (λ (v : Option Both). BothReady mid y c.args.now x (front_of s x o) v) c.in-Ok-None.field-0-is
          (c.in-Ok-None.ensures.shown y (front_of s x o) fits w.tables w.apart.heard.agrees f.body) in
          since_same g.D.Disk.moment g.D.Disk.left_since old.journal mid.journal c.none_behind.new.server.journal.disk
          (EventLeavesBodies s c.args.now (heard_event users L s e) bodies) room
          (c.none_behind.ensures.any_moment tells base users s L records bodies e o y (record {
            apart = apart_still told seen may_leave base old mid users s L records c.args.now e c.args.asked.now o
                c.args.expired y w.apart room stops kept;
            tables = r.0;
          }) may f
          (stops ∙ goes.0, stands_still seen may_leave base old.journal mid.journal s records bodies room goes.1));
      none = none_from old mid c.none_behind.new.server c.none_behind.result room stops c.none_behind.ensures.none;
      config = c.none_behind.ensures.config ∙ kept.config;
    }

pub returns-in-Err : goal.returns-in-Err
returns-in-Err g c =
    let old = c.args.server.now in
    let mid = c.ready_behind.new.server in
    let x = event_of c.args.asked.now in
    let told = g.D.Disk.told in
    let seen = g.D.Disk.seen in
    let may_leave = g.D.Disk.may_leave in
    let room = c.ready_behind.ensures.journal.0 in
    let stops = c.ready_behind.ensures.journal.1 in
    let kept = c.ready_behind.ensures.kept in record {
      step = λ base users s L records e o y w may f.
          let stands = c.keeps_law.ensures.due s c.args.now o w.apart.held.fits may.is_due in
          let fits = subst (λ (u : model.Server). Fits u) (sym w.apart.state_is)
          (c.keeps_law.ensures.expired s o stands.0 w.apart.held.fits) in
          let r = c.in-Err.ensures.shown y (front_of s x o) fits w.tables w.apart.heard.agrees f.body in
          ends_from told seen may_leave base g.D.Disk.faults old mid c.lack_behind.new.server users s L records c.args.now e
          c.args.asked.now c.lack_behind.result
          w.apart.held.goes_on stops (same_faults g.D.Disk.faults old.journal mid.journal room)
          (c.lack_behind.ensures.step base users s L records e o y (record {
            apart = apart_still told seen may_leave base old mid users s L records c.args.now e c.args.asked.now o
                c.args.expired y w.apart room stops kept;
            tables = r.0;
          }) may f
          (lack_still old.journal mid.journal c.in-Err.lack room r.1));
      any_moment = λ tells base users s L records bodies e o y w may f goes.
          let stands = c.keeps_law.ensures.due s c.args.now o w.apart.held.fits may.is_due in
          let fits = subst (λ (u : model.Server). Fits u) (sym w.apart.state_is)
          (c.keeps_law.ensures.expired s o stands.0 w.apart.held.fits) in
          let r = c.in-Err.ensures.shown y (front_of s x o) fits w.tables w.apart.heard.agrees f.body in
          since_same g.D.Disk.moment g.D.Disk.left_since old.journal mid.journal c.lack_behind.new.server.journal.disk
          (EventLeavesBodies s c.args.now (heard_event users L s e) bodies) room
          (c.lack_behind.ensures.any_moment tells base users s L records bodies e o y (record {
            apart = apart_still told seen may_leave base old mid users s L records c.args.now e c.args.asked.now o
                c.args.expired y w.apart room stops kept;
            tables = r.0;
          }) may f
          (stops ∙ goes.0, stands_still seen may_leave base old.journal mid.journal s records bodies room goes.1));
      none = none_from old mid c.lack_behind.new.server c.lack_behind.result room stops c.lack_behind.ensures.none;
      config = c.lack_behind.ensures.config ∙ kept.config;
    }
