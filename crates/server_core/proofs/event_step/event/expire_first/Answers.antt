use Rattle.std.proofs.Common.{ap, subst, ◌∙◌}
use Rattle.server_core.proofs.journaled_tables.Behind.{stands_still}
use Rattle.server_checks.specs.event_heard.Heard.{heard_event}
use Rattle.server_core.proofs.event_step.Moments.{since_same}
use Rattle.server_core.proofs.event_step.Refused.{answers_from, asks_on, same_disk}
use Rattle.server_core.proofs.event_step.event.expire_first.Goals as goal
use Rattle.server_core.specs.event_step.Behind.{BehindAnswers, StaysWhereNone}
use Rattle.server_core.specs.declared.event_step.expiring.Behind.{Behind}
use Rattle.server_core.specs.journaled_tables.Holds.{EventLeavesBodies}

pub returns-in-Ok-Answered-clause-step : goal.returns-in-Ok-Answered-clause-step
returns-in-Ok-Answered-clause-step g c = λ base users s L records e a m.
    subst (λ (b : Behind). BehindAnswers g.D.Disk.told g.D.Disk.seen g.D.Disk.may_leave base c.event_behind_expiry.new.server
    s L records c.args.now e
    (heard_event users L s e) c.args.asked.now b) c.in-Ok-Answered.field-0-is (c.in-Ok-Answered.ensures.step base users s L records e a m)

pub returns-in-Ok-Answered-clause-any_moment : goal.returns-in-Ok-Answered-clause-any_moment
returns-in-Ok-Answered-clause-any_moment g c = λ told base users s L records bodies e a m n.
    c.event_behind_expiry.ensures.any_moment told base users s L records bodies e a m n

pub returns-in-Ok-NoneExpires-clause-step : goal.returns-in-Ok-NoneExpires-clause-step
returns-in-Ok-NoneExpires-clause-step g c = λ base users s L records e a m.
    let old = c.args.server.now in let mid = c.event_behind_expiry.new.server in
    let x = subst (λ (b : Behind). BehindAnswers g.D.Disk.told g.D.Disk.seen g.D.Disk.may_leave base mid s L records c.args.now e
    (heard_event users L s e) c.args.asked.now b) c.in-Ok-NoneExpires.field-0-is
    (c.in-Ok-NoneExpires.ensures.step base users s L records e a m) in
    let y = subst (λ (b : Behind). StaysWhereNone old mid b) c.in-Ok-NoneExpires.field-0-is c.in-Ok-NoneExpires.ensures.none in
    answers_from g.D.Disk.told g.D.Disk.seen g.D.Disk.may_leave base g.D.Disk.faults old mid c.event_alone.new.server users s
    L records c.args.now e
    c.event_alone.result a.goes_on y.1 (ap g.D.Disk.faults (same_disk old.journal mid.journal y.0))
    (c.event_alone.ensures.step base users s L records e (asks_on g.D.Disk.told g.D.Disk.seen g.D.Disk.may_leave base old mid
    users s L records c.args.now e
    c.args.asked.now a x.0 y.1 c.event_behind_expiry.ensures.config) x.1)

pub returns-in-Ok-NoneExpires-clause-any_moment : goal.returns-in-Ok-NoneExpires-clause-any_moment
returns-in-Ok-NoneExpires-clause-any_moment g c = λ told base users s L records bodies e a m n.
    let old = c.args.server.now in let mid = c.event_behind_expiry.new.server in
    let x = subst (λ (b : Behind). BehindAnswers g.D.Disk.told g.D.Disk.seen g.D.Disk.may_leave base mid s L records c.args.now e
    (heard_event users L s e) c.args.asked.now b) c.in-Ok-NoneExpires.field-0-is
    (c.in-Ok-NoneExpires.ensures.step base users s L records e a m) in
    let y = subst (λ (b : Behind). StaysWhereNone old mid b) c.in-Ok-NoneExpires.field-0-is c.in-Ok-NoneExpires.ensures.none in
    since_same g.D.Disk.moment g.D.Disk.left_since old.journal mid.journal c.event_alone.new.server.journal.disk
    (EventLeavesBodies s c.args.now (heard_event users L s e) bodies) y.0
    (c.event_alone.ensures.any_moment told base users s L records bodies e
    (asks_on g.D.Disk.told g.D.Disk.seen g.D.Disk.may_leave base old mid users s L records
    c.args.now e c.args.asked.now a x.0 y.1 c.event_behind_expiry.ensures.config) x.1
    (y.1 ∙ n.0, stands_still g.D.Disk.seen g.D.Disk.may_leave base old.journal mid.journal s records bodies y.0 n.1))

pub returns-in-Ok-NoneExpires-clause-config : goal.returns-in-Ok-NoneExpires-clause-config
returns-in-Ok-NoneExpires-clause-config g c = c.event_alone.ensures.config ∙ c.event_behind_expiry.ensures.config

pub returns-in-Err-clause-step : goal.returns-in-Err-clause-step
returns-in-Err-clause-step g c = λ base users s L records e a m. c.in-Err.ensures.step base users s L records e a m

pub returns-in-Err-clause-any_moment : goal.returns-in-Err-clause-any_moment
returns-in-Err-clause-any_moment g c = λ told base users s L records bodies e a m n.
    c.event_behind_expiry.ensures.any_moment told base users s L records bodies e a m n

pub returns-in-Ok-Answered-clause-config : goal.returns-in-Ok-Answered-clause-config
returns-in-Ok-Answered-clause-config g c = c.event_behind_expiry.ensures.config

pub returns-in-Err-clause-config : goal.returns-in-Err-clause-config
returns-in-Err-clause-config g c = c.event_behind_expiry.ensures.config
