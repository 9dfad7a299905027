use Rattle.std.proofs.Common.{List, ap, drop, map, refl, slice_index_or, subst, take, ◌+◌, ◌∙◌}
use Rattle.wait_locks.proofs.Sends.{index_any, not_asked}
use Rattle.wait_locks.specs.Kept.{kept_message, waiter_of}
use Rattle.wait_locks.specs.Rounds.{RoundIs}
use Rattle.wait_locks.specs.declared.later.Later.{Later}
use Rattle.wait_locks.proofs.wait_server.WaitServer.try_at.Goals as goal

pub returns-in-Ok-message-clause-step : goal.returns-in-Ok-message-clause-step
returns-in-Ok-message-clause-step g c = λ own s L records d h none.
    let ws = c.args.self.now.waiters.items in let i = c.args.place in
    let P : List Later → Type 0 = λ z. RoundIs g.D.Disk.told g.D.Disk.seen g.D.Disk.may_leave g.D.Disk.moment g.D.Disk.left_since g.D.Disk.faults c.args.now own c.args.self.now c.send.new.self z
    c.send.new.finals.items c.send.result s L records (map waiter_of (take i ws)) (waiter_of (slice_index_or ws i d))
    (map waiter_of (drop (i + 1) ws)) in
    subst P c.reserve.ensures.items
    (c.send.ensures.step own s L records d h none
    (c.in-Ok-message.ensures ∙ ap kept_message (c.index.ensures ∙ index_any ws i c.requires c.index.result.now d)))

pub returns-in-Err-message-clause-step : goal.returns-in-Err-message-clause-step
returns-in-Err-message-clause-step g c = λ own s L records d h none.
    let ws = c.args.self.now.waiters.items in let i = c.args.place in
    not_asked g.D.Disk.told g.D.Disk.seen g.D.Disk.may_leave g.D.Disk.moment g.D.Disk.left_since g.D.Disk.faults c.args.now own c.args.self.now c.args.self.now c.args.finals.now.items _ s
    L records (map waiter_of (take i ws)) (map waiter_of (drop (i + 1) ws)) (slice_index_or ws i d) none h refl
    (record { waiters = refl; finals = c.reserve.ensures.items })

pub returns-in-Err-clause-step : goal.returns-in-Err-clause-step
returns-in-Err-clause-step g c = λ own s L records d h none.
    let ws = c.args.self.now.waiters.items in let i = c.args.place in
    not_asked g.D.Disk.told g.D.Disk.seen g.D.Disk.may_leave g.D.Disk.moment g.D.Disk.left_since g.D.Disk.faults c.args.now own c.args.self.now c.args.self.now c.args.finals.now.items _ s
    L records (map waiter_of (take i ws)) (map waiter_of (drop (i + 1) ws)) (slice_index_or ws i d) none h refl
    (record { waiters = refl; finals = c.in-Err.ensures.items })
