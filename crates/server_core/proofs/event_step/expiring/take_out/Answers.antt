use Rattle.std.proofs.Common.{inl, refl, subst, Option}
use Rattle.server_core.proofs.event_step.Refused.{below_all, ends_from, holds_both, none_from, none_leaves, same_room}
use Rattle.server_core.proofs.event_step.Without.{without}
use Rattle.server_core.proofs.event_step.expiring.take_out.Goals as goal
use Rattle.server_checks.specs.event_heard.Heard.{heard_event}
use Rattle.spec_exchange.specs.Step.{expire, max_expired_guids}
use Rattle.server_effects.specs.expiry.Expired.{ExpiredFor, HasRoomBack}
use Rattle.server_effects.specs.declared.expiry.expiry.Expired.{Expired}

pub event_without-requires : goal.event_without-requires
event_without-requires g c = (
  subst (λ (x : Option Expired). HasRoomBack c.take_expired.new.opens x) c.in-Ok-Some.field-0-is c.in-Ok-Some.ensures.room,
  c.requires,
)

pub returns-in-Ok-Some-clause-step : goal.returns-in-Ok-Some-clause-step
returns-in-Ok-Some-clause-step g c = λ base users s L records e a m b.
    let old = c.args.server.now in let t = old.tables in
    let mid = record old { tables = record t { opens = c.take_expired.new.opens; tree = c.take_expired.new.tree } } in
    let d = c.keeps_law.ensures.due s c.args.now c.args.id a.holds.fits m.is_due in
    let k = c.in-Ok-Some.ensures.shows s a.holds.fits (a.holds.shown.tables.opens, a.holds.shown.tables.files) d.0 d.1
    (below_all s.expired_count max_expired_guids m.kept) in
    let x = subst (λ (v : Option Expired). ExpiredFor c.take_expired.new.opens v s c.args.id) c.in-Ok-Some.field-0-is k.0 in
    ends_from g.D.Disk.told g.D.Disk.seen g.D.Disk.may_leave base g.D.Disk.faults old mid c.event_without.new.server users s
    L records c.args.now e
    c.args.asked.now c.event_without.result a.goes_on refl refl
    (c.event_without.ensures.step base users s L records e c.args.id (expire s c.args.id)
    (without g.D.Disk.told g.D.Disk.seen g.D.Disk.may_leave base old c.take_expired.new.opens c.take_expired.new.tree users s
    L records c.args.now e
    c.args.asked.now c.args.id c.in-Ok-Some.expired a k.1.0 k.1.1 x) m b)

pub returns-in-Ok-Some-clause-any_moment : goal.returns-in-Ok-Some-clause-any_moment
returns-in-Ok-Some-clause-any_moment g c = λ told base users s L records bodies e a m b n.
    let old = c.args.server.now in
    let d = c.keeps_law.ensures.due s c.args.now c.args.id a.holds.fits m.is_due in
    let k = c.in-Ok-Some.ensures.shows s a.holds.fits (a.holds.shown.tables.opens, a.holds.shown.tables.files) d.0 d.1
    (below_all s.expired_count max_expired_guids m.kept) in
    let x = subst (λ (v : Option Expired). ExpiredFor c.take_expired.new.opens v s c.args.id) c.in-Ok-Some.field-0-is k.0 in
    c.event_without.ensures.any_moment told base users s L records bodies e c.args.id (expire s c.args.id)
    (without g.D.Disk.told g.D.Disk.seen g.D.Disk.may_leave base old c.take_expired.new.opens c.take_expired.new.tree users s
    L records c.args.now e
    c.args.asked.now c.args.id c.in-Ok-Some.expired a k.1.0 k.1.1 x) m b n

pub returns-in-Ok-Some-clause-none : goal.returns-in-Ok-Some-clause-none
returns-in-Ok-Some-clause-none g c =
    let old = c.args.server.now in
    none_from old (record old { tables = record old.tables { opens = c.take_expired.new.opens; tree = c.take_expired.new.tree } })
    c.event_without.new.server c.event_without.result (same_room old.journal) refl c.event_without.ensures.none

pub returns-in-Ok-None-clause-step : goal.returns-in-Ok-None-clause-step
returns-in-Ok-None-clause-step g c = λ base users s L records e a m b.
    let d = c.keeps_law.ensures.due s c.args.now c.args.id a.holds.fits m.is_due in
    let k = c.in-Ok-None.ensures.shows s a.holds.fits (a.holds.shown.tables.opens, a.holds.shown.tables.files) d.0 d.1
    (below_all s.expired_count max_expired_guids m.kept) in
    absurd (subst (λ (v : Option Expired). ExpiredFor c.take_expired.new.opens v s c.args.id) c.in-Ok-None.field-0-is k.0)

pub returns-in-Ok-None-clause-any_moment : goal.returns-in-Ok-None-clause-any_moment
returns-in-Ok-None-clause-any_moment g c = λ told base users s L records bodies e a m b n.
    none_leaves g.D.Disk.seen g.D.Disk.may_leave base g.D.Disk.moment g.D.Disk.left_since g.met.D.Disk.only_now c.args.server.now.journal
    c.args.server.now.journal s records c.args.now (heard_event users L s e) bodies refl n.1

pub returns-in-Ok-None-clause-none : goal.returns-in-Ok-None-clause-none
returns-in-Ok-None-clause-none g c = (same_room c.args.server.now.journal, refl)

pub returns-in-Err-clause-step : goal.returns-in-Err-clause-step
returns-in-Err-clause-step g c = λ base users s L records e a m b.
    let d = c.keeps_law.ensures.due s c.args.now c.args.id a.holds.fits m.is_due in
    let k = c.in-Err.ensures.shows s a.holds.fits (a.holds.shown.tables.opens, a.holds.shown.tables.files) d.0 d.1
    (below_all s.expired_count max_expired_guids m.kept) in (
      a.goes_on,
      inl (holds_both g.D.Disk.told g.D.Disk.seen g.D.Disk.may_leave base c.args.server.now c.take_expired.new.opens
          c.take_expired.new.tree s L records a.holds a.goes_on k.0 k.1),
    )

pub returns-in-Err-clause-any_moment : goal.returns-in-Err-clause-any_moment
returns-in-Err-clause-any_moment g c = λ told base users s L records bodies e a m b n.
    none_leaves g.D.Disk.seen g.D.Disk.may_leave base g.D.Disk.moment g.D.Disk.left_since g.met.D.Disk.only_now c.args.server.now.journal
    c.args.server.now.journal s records c.args.now (heard_event users L s e) bodies refl n.1

pub returns-in-Ok-Some-clause-config : goal.returns-in-Ok-Some-clause-config
returns-in-Ok-Some-clause-config g c = c.event_without.ensures.config

pub returns-in-Ok-None-clause-config : goal.returns-in-Ok-None-clause-config
returns-in-Ok-None-clause-config g c = refl

pub returns-in-Err-clause-none : goal.returns-in-Err-clause-none
returns-in-Err-clause-none g c = tt

pub returns-in-Err-clause-config : goal.returns-in-Err-clause-config
returns-in-Err-clause-config g c = refl
