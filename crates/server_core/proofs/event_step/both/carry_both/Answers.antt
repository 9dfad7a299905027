use Rattle.std.proofs.Common.{List, ℕ, refl, subst, sym}
use Rattle.spec_wire.specs.journal.Moments.{LeavesOnly}
use Rattle.server_checks.specs.event_heard.Heard.{event_of, heard_event}
use Rattle.server_core.proofs.first_deadlines.Kept.{prepared_opens}
use Rattle.server_core.proofs.event_step.Again.{prepared_again}
use Rattle.server_core.proofs.event_step.Committed.{Committing}
use Rattle.server_core.proofs.event_step.Beyond.{body_at, carried_apart, undated_at}
use Rattle.server_core.proofs.event_step.Moments.{by_event, leaves_more}
use Rattle.server_core.proofs.event_step.Out.{OutLaws, room_yet}
use Rattle.server_core.proofs.event_step.Refused.{same_room}
use Rattle.server_core.specs.journaled_tables.Holds.{EventLeavesBodies}
use Rattle.server_core.specs.journaled_tables.Rooms.{HasRoomToWrite}
use Rattle.server_core.specs.body_writing.Bodies.{LeavesOf}
use Rattle.server_core.proofs.event_step.both.carry_both.Goals as goal

pub commit-requires : goal.commit-requires
commit-requires g c = (
  c.dated_effects_law.ensures.room c.args.server.now.tables c.give_up.new.opens c.args.asked.now c.args.both.prepared
      (room_yet c.args.server.now.tables.opens c.give_up.new.opens c.give_up.ensures.rest) c.requires.0,
  subst (λ (b : List ℕ). HasRoomToWrite c.args.server.now b) (sym c.as_slice.ensures) c.requires.1,
)

pub returns-clause-step : goal.returns-clause-step
returns-clause-step g c = λ base users s y L records e o f may.
    let old = c.args.server.now in
    let mid = record old { tables = record old.tables { opens = c.give_up.new.opens } } in
    let x = event_of c.args.asked.now in
    carried_apart g.D.Disk.told g.D.Disk.seen g.D.Disk.may_leave base g.D.Disk.faults old mid c.commit.new.server users s y L
    records c.args.now e
    c.args.asked.now o c.args.expired c.args.both c.commit.result (record {
      added = c.body_law.ensures.added;
      spelled = c.behind_law.ensures.over;
    })
    (record {
      stepped = c.keeps_law.ensures.stepped;
      sound = c.keeps_law.ensures.sound;
      version = c.keeps_law.ensures.version;
      stands = c.stands_law.ensures.stepped;
      over = c.behind_law.ensures.stepped;
    }) (record {
      behind = c.expiring_law.ensures.behind;
      fits_same = c.expiring_law.ensures.counted;
      counts = c.carried_law.ensures.counts;
      expired = c.carried_law.ensures.expired;
    }) (subst (λ (b : List ℕ). Committing g.D.Disk.told g.D.Disk.seen g.D.Disk.may_leave g.D.Disk.faults mid c.commit.new.server
    c.args.asked.now c.args.both.prepared b c.args.now c.commit.result) c.as_slice.ensures (record {
      shown = c.commit.ensures.shown;
      beside = c.commit.ensures.beside;
      writes = c.commit.ensures.writes;
      acknowledged = c.commit.ensures.acknowledged;
      config = c.commit.ensures.config;
    })) f may (c.ruling_law.ensures.able y x f.fits) (same_room old.journal) refl refl refl
    (prepared_again old.tables c.give_up.new.opens y c.args.now x c.args.both.prepared f.ready.0
    (c.give_up.ensures.shows y (prepared_opens old.tables y c.args.now x c.args.both.prepared f.ready.0)
    (undated_at s y o c.args.expired.taken.id f.out f.taken)))

pub returns-clause-any_moment : goal.returns-clause-any_moment
returns-clause-any_moment g c = λ told base users s y L records bodies e o f may goes.
    let old = c.args.server.now in
    let ev = heard_event users L s e in
    let laws : OutLaws = record {
      behind = c.expiring_law.ensures.behind;
      fits_same = c.expiring_law.ensures.counted;
      counts = c.carried_law.ensures.counts;
      expired = c.carried_law.ensures.expired;
    } in
    leaves_more g.D.Disk.moment g.D.Disk.left_since old.journal.disk c.commit.new.server.journal.disk (LeavesOf bodies c.args.both.body)
    (EventLeavesBodies s c.args.now ev bodies) (by_event s c.args.now ev bodies c.args.both.body
    (body_at laws s y c.args.now o ev (event_of c.args.asked.now) c.args.both.body f.out f.said may f.ready.2 f.ready.3))
    (subst (λ (b : List ℕ). LeavesOnly g.D.Disk.moment g.D.Disk.left_since old.journal.disk c.commit.new.server.journal.disk
    (LeavesOf bodies b)) c.as_slice.ensures (c.commit.ensures.any_moment told bodies goes.1.settled))

pub returns-clause-config : goal.returns-clause-config
returns-clause-config g c = c.commit.ensures.config
