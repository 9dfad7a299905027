use Rattle.std.proofs.Common.{List, refl, sym, subst, ◌∙◌}
use Rattle.spec_exchange.specs.State as model
use Rattle.server_core.proofs.journaled_tables.Lone.{expires, lone}
use Rattle.server_checks.specs.event_heard.Heard.{event_of, heard_event}
use Rattle.journal_bytes.specs.record_bodies.Body.{IsBodyOf}
use Rattle.server_checks.specs.Shown.{TablesShown}
use Rattle.server_core.proofs.event_step.Carried.{back_holds}
use Rattle.server_core.proofs.event_step.Moments.{by_expiry, leaves_more, room_back}
use Rattle.server_core.proofs.event_step.Out.{due_front, none_fits}
use Rattle.server_core.proofs.event_step.Refused.{same_room}
use Rattle.server_core.proofs.event_step.back.none_behind.Goals as goal
use Rattle.server_core.specs.journaled_tables.Holds.{EventLeavesBodies}
use Rattle.server_core.specs.body_writing.Bodies.{LeavesOf}
use Rattle.server_checks.specs.session_table.Logons.{LogonsShown}
use Rattle.server_checks.specs.declared.session_table.table.Sessions.{Sessions}
use Rattle.spec_world.specs.Lacking.{expired_alone}

pub returns-in-Ok : goal.returns-in-Ok
returns-in-Ok g c =
    let old = c.args.server.now in
    let new = c.take_back.new.server in
    let back = c.take_back.ensures in
    record {
      step = λ base users s L records e o y w may f h.
          let stands = c.keeps_law.ensures.due s c.args.now o w.apart.held.fits may.is_due in
          let shown = subst (λ (u : model.Server). TablesShown old.tables u) w.apart.state_is w.tables in
          let k = c.in-Ok.ensures in
          let x = event_of c.args.asked.now in (
            back_holds g.D.Disk.told g.D.Disk.seen g.D.Disk.may_leave base old old new s L records w.apart.held (same_room old.journal) refl
                k.back.0 k.back.1 (k.shown s o w.apart.held.fits stands.0 stands.1 w.apart.out shown) back.sessions w.apart.logons,
            w.apart.said ∙ c.expiring_law.ensures.unfit s c.args.now o x may.is_due
                (none_fits s c.args.now o x y w.apart.state_is c.expiring_law.ensures.counted h),
          );
      any_moment = λ told base users s L records bodies e o y w may f goes.
          let ev = heard_event users L s e in
          let due = due_front c.dated_law.ensures.front users L s c.args.now e c.args.asked.now o c.args.front.now
          w.apart.heard.said may f in
          leaves_more g.D.Disk.moment g.D.Disk.left_since old.journal.disk new.journal.disk (LeavesOf bodies c.args.front.now)
          (EventLeavesBodies s c.args.now ev bodies) (by_expiry s c.args.now ev bodies c.args.front.now o (expired_alone s c.args.now ev o)
          (expires s c.args.now ev o c.args.front.now due)
          (subst (λ (rs : List model.Record). IsBodyOf c.args.front.now rs) (sym due.front_is) due.body))
          (back.any_moment told bodies goes.1.settled);
      none = (room_back old.journal old.journal new.journal (same_room old.journal) c.in-Ok.ensures.back.0, c.in-Ok.ensures.back.1);
      config = back.config;
    }

pub returns-in-Err : goal.returns-in-Err
returns-in-Err g c =
    let old = c.args.server.now in
    let new = c.take_back.new.server in
    let back = c.take_back.ensures in
    record {
      step = λ base users s L records e o y w may f h.
          let stands = c.keeps_law.ensures.due s c.args.now o w.apart.held.fits may.is_due in
          let shown = subst (λ (u : model.Server). TablesShown old.tables u) w.apart.state_is w.tables in
          let k = c.in-Err.ensures in
          lone g.D.Disk.told g.D.Disk.seen g.D.Disk.may_leave base g.D.Disk.faults old old new s L _ records c.args.now
          (heard_event users L s e) o
          c.args.front.now c.in-Err.error (record { added = c.body_law.ensures.added; spelled = c.behind_law.ensures.over }) (record {
            fits_alone = c.stands_law.ensures.fits_alone;
            sound_alone = c.keeps_law.ensures.sound_alone;
            version_alone = c.keeps_law.ensures.version_alone;
            alone = c.stands_law.ensures.alone;
            over_alone = c.behind_law.ensures.alone;
          }) w.apart.held.goes_on refl w.apart.held
          (due_front c.dated_law.ensures.front users L s c.args.now e c.args.asked.now o c.args.front.now w.apart.heard.said may f)
          (subst (λ (t : Sessions). LogonsShown t L.keys L.pending) (sym back.sessions) w.apart.logons)
          (k.shown s o w.apart.held.fits stands.0 stands.1 w.apart.out shown) k.writes k.acknowledged;
      any_moment = λ told base users s L records bodies e o y w may f goes.
          let ev = heard_event users L s e in
          let due = due_front c.dated_law.ensures.front users L s c.args.now e c.args.asked.now o c.args.front.now
          w.apart.heard.said may f in
          leaves_more g.D.Disk.moment g.D.Disk.left_since old.journal.disk new.journal.disk (LeavesOf bodies c.args.front.now)
          (EventLeavesBodies s c.args.now ev bodies) (by_expiry s c.args.now ev bodies c.args.front.now o (expired_alone s c.args.now ev o)
          (expires s c.args.now ev o c.args.front.now due)
          (subst (λ (rs : List model.Record). IsBodyOf c.args.front.now rs) (sym due.front_is) due.body))
          (back.any_moment told bodies goes.1.settled);
      none = tt;
      config = back.config;
    }
