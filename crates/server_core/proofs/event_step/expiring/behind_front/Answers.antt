use Rattle.std.proofs.Common.{ℕ, ap, length, refl, sym, ◌∙◌}
use Rattle.spec_exchange.specs.Step.{step}
use Rattle.server_core.proofs.journaled_tables.Behind.{held, held_still, holds_shown, stands_still}
use Rattle.server_checks.specs.event_heard.Heard.{event_of, heard_event}
use Rattle.journal_bytes.specs.record_bodies.Body.{fits_by}
use Rattle.server_core.proofs.event_step.Moments.{since_same}
use Rattle.server_core.proofs.event_step.Refused.{asks_room, below_limit, ends_from, lacked, none_from, none_leaves, same_disk, same_room}
use Rattle.server_core.proofs.event_step.expiring.behind_front.Goals as goal
use Rattle.server_checks.specs.setups.Setups.{progress_of}
use Rattle.server_core.specs.journaled_tables.Beside.{logons_behind}
use Rattle.server_core.specs.journaled_tables.Holds.{EventLeavesBodies}

pub returns-then-not-fits-clause-step : goal.returns-then-not-fits-clause-step
returns-then-not-fits-clause-step g c = λ base users s L records e a m b. (
  a.holds,
  a.said ∙ c.expiring_law.ensures.unfit s c.args.now c.args.id (event_of c.args.asked.now) m.is_due
      (c.expiring_law.ensures.front s c.args.now c.args.id (event_of c.args.asked.now)
      (c.body_law.ensures.fits s c.args.front.now _ a.holds.fits.limit b
      ∙ (ap (λ (j : ℕ). fits_by j (length c.args.front.now)) a.holds.shown.tables.journal_is
      ∙ (sym c.fits.ensures ∙ c.if-not-fits.true)))),
)

pub returns-then-not-fits-clause-any_moment : goal.returns-then-not-fits-clause-any_moment
returns-then-not-fits-clause-any_moment g c = λ told base users s L records bodies e a m b n.
    none_leaves g.D.Disk.seen g.D.Disk.may_leave base g.D.Disk.moment g.D.Disk.left_since g.met.D.Disk.only_now c.args.server.now.journal
    c.args.server.now.journal s records c.args.now (heard_event users L s e) bodies refl n.1

pub returns-then-not-fits-clause-none : goal.returns-then-not-fits-clause-none
returns-then-not-fits-clause-none g c = (same_room c.args.server.now.journal, refl)

pub reserve_body-requires : goal.reserve_body-requires
reserve_body-requires g c =
    below_limit c.args.server.now.tables.journal (length c.args.front.now) (sym c.fits.ensures ∙ c.if-not-fits.false)

pub take_out-requires : goal.take_out-requires
take_out-requires g c = (c.in-Ok.ensures.room, sym c.fits.ensures ∙ c.if-not-fits.false)

pub returns-in-Ok-clause-step : goal.returns-in-Ok-clause-step
returns-in-Ok-clause-step g c = λ base users s L records e a m b.
    let old = c.args.server.now in let mid = record old { journal = c.reserve_body.new.journal } in
    let o = c.reserve_body.ensures.kept in
    ends_from g.D.Disk.told g.D.Disk.seen g.D.Disk.may_leave base g.D.Disk.faults old mid c.take_out.new.server users s L records
    c.args.now e
    c.args.asked.now c.take_out.result a.goes_on refl (ap g.D.Disk.faults (same_disk old.journal mid.journal o))
    (c.take_out.ensures.step base users s L records e
    (asks_room g.D.Disk.told g.D.Disk.seen g.D.Disk.may_leave base old c.reserve_body.new.journal users s L records
    c.args.now e c.args.asked.now o a) m
    (record {
      body = b;
      room = c.body_law.ensures.fits s c.args.front.now _ a.holds.fits.limit b
          ∙ (ap (λ (j : ℕ). fits_by j (length c.args.front.now)) a.holds.shown.tables.journal_is
          ∙ (sym c.fits.ensures ∙ c.if-not-fits.false));
    }))

pub returns-in-Ok-clause-any_moment : goal.returns-in-Ok-clause-any_moment
returns-in-Ok-clause-any_moment g c = λ told base users s L records bodies e a m b n.
    let old = c.args.server.now in let o = c.reserve_body.ensures.kept in
    since_same g.D.Disk.moment g.D.Disk.left_since old.journal c.reserve_body.new.journal c.take_out.new.server.journal.disk
    (EventLeavesBodies s c.args.now (heard_event users L s e) bodies) o
    (c.take_out.ensures.any_moment told base users s L records bodies e
    (asks_room g.D.Disk.told g.D.Disk.seen g.D.Disk.may_leave base old c.reserve_body.new.journal users s L records
    c.args.now e c.args.asked.now o a) m
    (record {
      body = b;
      room = c.body_law.ensures.fits s c.args.front.now _ a.holds.fits.limit b
          ∙ (ap (λ (j : ℕ). fits_by j (length c.args.front.now)) a.holds.shown.tables.journal_is
          ∙ (sym c.fits.ensures ∙ c.if-not-fits.false));
    }) (n.0, stands_still g.D.Disk.seen g.D.Disk.may_leave base old.journal c.reserve_body.new.journal s records bodies o n.1))

pub returns-in-Ok-clause-none : goal.returns-in-Ok-clause-none
returns-in-Ok-clause-none g c =
    let old = c.args.server.now in
    none_from old (record old { journal = c.reserve_body.new.journal }) c.take_out.new.server c.take_out.result
    c.reserve_body.ensures.kept refl
    c.take_out.ensures.none

pub returns-in-Err-clause-step : goal.returns-in-Err-clause-step
returns-in-Err-clause-step g c = λ base users s L records e a m b.
    let old = c.args.server.now in let new = record old { journal = c.reserve_body.new.journal } in
    let ev = heard_event users L s e in
    lacked g.D.Disk.told g.D.Disk.seen g.D.Disk.may_leave base g.D.Disk.faults old new s L records c.args.now ev
    (logons_behind users L e c.args.now (progress_of ev (step s c.args.now ev).reply)) c.in-Err.error
    (holds_shown g.D.Disk.told g.D.Disk.seen g.D.Disk.may_leave base new s L records
    (held_still g.D.Disk.told g.D.Disk.seen g.D.Disk.may_leave base old new s records c.reserve_body.ensures.kept refl
    (held g.D.Disk.told g.D.Disk.seen g.D.Disk.may_leave base old s L records a.holds a.goes_on)) a.holds.shown)
    a.goes_on a.holds.stopped_is refl c.in-Err.ensures.lack

pub returns-in-Err-clause-any_moment : goal.returns-in-Err-clause-any_moment
returns-in-Err-clause-any_moment g c = λ told base users s L records bodies e a m b n.
    none_leaves g.D.Disk.seen g.D.Disk.may_leave base g.D.Disk.moment g.D.Disk.left_since g.met.D.Disk.only_now c.args.server.now.journal
    c.reserve_body.new.journal s records c.args.now (heard_event users L s e) bodies
    (same_disk c.args.server.now.journal c.reserve_body.new.journal c.reserve_body.ensures.kept) n.1

pub returns-then-not-fits-clause-config : goal.returns-then-not-fits-clause-config
returns-then-not-fits-clause-config g c = refl

pub returns-in-Ok-clause-config : goal.returns-in-Ok-clause-config
returns-in-Ok-clause-config g c = c.take_out.ensures.config

pub returns-in-Err-clause-none : goal.returns-in-Err-clause-none
returns-in-Err-clause-none g c = tt

pub returns-in-Err-clause-config : goal.returns-in-Err-clause-config
returns-in-Err-clause-config g c = refl
