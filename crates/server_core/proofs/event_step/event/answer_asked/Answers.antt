use Rattle.std.proofs.Common.{nat_le, refl, ◌∙◌}
use Rattle.spec_exchange.specs.Step.{due, max_expired_guids, with_deadlines}
use Rattle.server_checks.specs.event_heard.Heard.{event_of}
use Rattle.server_core.proofs.event_step.Early.{none_due}
use Rattle.server_core.proofs.event_step.Refused.{answers_from, asks_opens, shown_opens}
use Rattle.server_core.proofs.event_step.Said.{some_expires}
use Rattle.server_core.proofs.event_step.event.answer_asked.Goals as goal

pub returns-in-Some-clause-step : goal.returns-in-Some-clause-step
returns-in-Some-clause-step g c = λ base users s L records e a.
    let t = c.args.server.now.tables in
    let o = c.due.ensures.shows s a.holds.shown.tables.opens in
    let x = some_expires s c.args.now c.in-Some.id (c.in-Some.ensures.due s a.holds.fits a.holds.shown.tables.opens) in
    answers_from g.D.Disk.told g.D.Disk.seen g.D.Disk.may_leave base g.D.Disk.faults c.args.server.now
    (record c.args.server.now { tables = record t { opens = c.due.new.opens } }) c.expire_first.new.server users s L records c.args.now e
    c.expire_first.result a.goes_on refl refl (c.expire_first.ensures.step base users s L records e
    (asks_opens g.D.Disk.told g.D.Disk.seen g.D.Disk.may_leave base c.args.server.now c.due.new.opens users s L records
    c.args.now e c.args.asked.now o a)
    (record { is_due = x.0; kept = x.1 }))

pub returns-in-Some-clause-any_moment : goal.returns-in-Some-clause-any_moment
returns-in-Some-clause-any_moment g c = λ told base users s L records bodies e a n.
    let o = c.due.ensures.shows s a.holds.shown.tables.opens in
    let x = some_expires s c.args.now c.in-Some.id (c.in-Some.ensures.due s a.holds.fits a.holds.shown.tables.opens) in
    c.expire_first.ensures.any_moment told base users s L records bodies e
    (asks_opens g.D.Disk.told g.D.Disk.seen g.D.Disk.may_leave base c.args.server.now c.due.new.opens users s L records
    c.args.now e c.args.asked.now o a)
    (record { is_due = x.0; kept = x.1 }) n

pub returns-in-None-clause-step : goal.returns-in-None-clause-step
returns-in-None-clause-step g c = λ base users s L records e a.
    let t = c.args.server.now.tables in
    let o = c.due.ensures.shows s a.holds.shown.tables.opens in
    let x = c.in-None.ensures.due s a.holds.fits a.holds.shown.tables.opens in
    answers_from g.D.Disk.told g.D.Disk.seen g.D.Disk.may_leave base g.D.Disk.faults c.args.server.now
    (record c.args.server.now { tables = record t { opens = c.due.new.opens } }) c.event_alone.new.server users s L records c.args.now e
    c.event_alone.result a.goes_on refl refl (c.event_alone.ensures.step base users s L records e
    (asks_opens g.D.Disk.told g.D.Disk.seen g.D.Disk.may_leave base c.args.server.now c.due.new.opens users s L records
    c.args.now e c.args.asked.now o a)
    (a.said ∙ c.expiring_law.ensures.none s c.args.now (event_of c.args.asked.now) x))

pub returns-in-None-clause-any_moment : goal.returns-in-None-clause-any_moment
returns-in-None-clause-any_moment g c = λ told base users s L records bodies e a n.
    let o = c.due.ensures.shows s a.holds.shown.tables.opens in
    let x = c.in-None.ensures.due s a.holds.fits a.holds.shown.tables.opens in
    c.event_alone.ensures.any_moment told base users s L records bodies e
    (asks_opens g.D.Disk.told g.D.Disk.seen g.D.Disk.may_leave base c.args.server.now c.due.new.opens users s L records
    c.args.now e c.args.asked.now o a)
    (a.said ∙ c.expiring_law.ensures.none s c.args.now (event_of c.args.asked.now) x) n

pub returns-in-Some-clause-config : goal.returns-in-Some-clause-config
returns-in-Some-clause-config g c = c.expire_first.ensures.config

pub returns-in-None-clause-config : goal.returns-in-None-clause-config
returns-in-None-clause-config g c = c.event_alone.ensures.config

pub returns-in-Some-clause-early : goal.returns-in-Some-clause-early
returns-in-Some-clause-early g c = λ s f h d e.
    absurd (none_due (nat_le max_expired_guids s.expired_count) (due (with_deadlines s c.args.now) c.args.now) c.in-Some.id d
    (c.in-Some.ensures.due s f h.opens))

pub returns-in-None-clause-early : goal.returns-in-None-clause-early
returns-in-None-clause-early g c = λ s f h d e.
    c.event_alone.ensures.early s f (shown_opens c.args.server.now.tables c.due.new.opens s h (c.due.ensures.shows s h.opens)) e
