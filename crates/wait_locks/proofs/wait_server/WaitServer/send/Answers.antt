use Rattle.std.proofs.Common.{[], ap, drop, map, refl, slice_index_or, take, ◌+◌, ◌∙◌}
use Rattle.law_waiting.specs.wait_steps.WaitStep.{later_to}
use Rattle.wire_commands.specs.values.Meaning.{reply_of}
use Rattle.wait_locks.proofs.Sends.{fails_as, index_any, lacks_as, never_as, went, without_one}
use Rattle.wait_locks.specs.Kept.{waiter_of}
use Rattle.wait_locks.proofs.wait_server.WaitServer.send.Goals as goal

pub returns-in-Ok-clause-step : goal.returns-in-Ok-clause-step
returns-in-Ok-clause-step g c = λ own s L records d h none is.
    let ws = c.args.self.now.waiters.items in let i = c.args.place in
    went g.D.Disk.told g.D.Disk.seen g.D.Disk.may_leave g.D.Disk.moment g.D.Disk.left_since g.D.Disk.faults c.args.now own c.args.self.now _ c.args.finals.now.items _ s L records
    (map waiter_of (take i ws)) (map waiter_of (drop (i + 1) ws)) (slice_index_or ws i d) _ is h none (λ t bodies j. c.event.ensures.any_moment t [] s L records bodies h j) c.in-Ok.answer c.later_to.result
    (c.in-Ok.ensures.step [] s L records h) (without_one ws _ i c.remove-waiter.ensures.by_index.2)
    (c.later_to.ensures
    ∙ ap (λ k. later_to (waiter_of k) (reply_of c.in-Ok.answer.reply))
    (c.remove-waiter.ensures.value ∙ index_any ws i c.requires.place c.remove-waiter.result d)) c.push_reserved.ensures.items

pub returns-in-Err-Memory-clause-step : goal.returns-in-Err-Memory-clause-step
returns-in-Err-Memory-clause-step g c = λ own s L records d h none is.
    let ws = c.args.self.now.waiters.items in let i = c.args.place in
    lacks_as g.D.Disk.told g.D.Disk.seen g.D.Disk.may_leave g.D.Disk.moment g.D.Disk.left_since g.D.Disk.faults c.args.now own c.args.self.now _ c.args.finals.now.items _ s L records
    (map waiter_of (take i ws)) (map waiter_of (drop (i + 1) ws)) (slice_index_or ws i d) _ is h none (λ t bodies j. c.event.ensures.any_moment t [] s L records bodies h j) _ c.in-Err-Memory.field-0-is
    (c.in-Err-Memory.ensures.step [] s L records h) (record { waiters = refl; finals = refl })

pub returns-in-Err-DiskFault-clause-step : goal.returns-in-Err-DiskFault-clause-step
returns-in-Err-DiskFault-clause-step g c = λ own s L records d h none is.
    let ws = c.args.self.now.waiters.items in let i = c.args.place in
    fails_as g.D.Disk.told g.D.Disk.seen g.D.Disk.may_leave g.D.Disk.moment g.D.Disk.left_since g.D.Disk.faults c.args.now own c.args.self.now _ c.args.finals.now.items _ s L records
    (map waiter_of (take i ws)) (map waiter_of (drop (i + 1) ws)) (slice_index_or ws i d) _ is h none (λ t bodies j. c.event.ensures.any_moment t [] s L records bodies h j) _ _ c.in-Err-DiskFault.field-0-is
    (c.in-Err-DiskFault.ensures.step [] s L records h) (record { waiters = refl; finals = refl })

pub returns-in-Err-Stopped-clause-step : goal.returns-in-Err-Stopped-clause-step
returns-in-Err-Stopped-clause-step g c = λ own s L records d h none is.
    let ws = c.args.self.now.waiters.items in let i = c.args.place in
    never_as g.D.Disk.told g.D.Disk.seen g.D.Disk.may_leave g.D.Disk.moment g.D.Disk.left_since g.D.Disk.faults c.args.now own c.args.self.now _ c.args.finals.now.items _ s L records
    (map waiter_of (take i ws)) (map waiter_of (drop (i + 1) ws)) (slice_index_or ws i d) _ is h none (λ t bodies j. c.event.ensures.any_moment t [] s L records bodies h j) _ _ c.in-Err-Stopped.field-0-is
    (c.in-Err-Stopped.ensures.step [] s L records h) none
