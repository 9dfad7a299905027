use Rattle.std.proofs.Common.{inr, [], ◌∷◌, ◌++◌}
use Rattle.journal.specs.disk_journal.Entry.{IsClosedOrOpened, IsClosedOrNextOpened}
use Rattle.journal.proofs.disk_journal.Moments.{joined, weakened}
use Rattle.journal.proofs.disk_journal.Waits.{opened_first, opens_to_next, shut_first}
use Rattle.journal.proofs.disk_journal.waiting.add_entry.Goals as goal

pub returns-in_err-open_waiting-clause-next_moment : goal.returns-in_err-open_waiting-clause-next_moment
returns-in_err-open_waiting-clause-next_moment g c = λ told before is front entry rest shut last waits only.
    weakened g.D.Disk.moment g.D.Disk.left_since c.args.disk.now c.open_waiting.new.disk (IsClosedOrOpened front (entry ++ last ∷ []))
    (IsClosedOrNextOpened front entry c.args.behind.now) (opens_to_next front entry c.args.behind.now last waits.behind)
    (c.open_waiting.ensures.any_moment told before is front (entry ++ last ∷ []) rest shut
    (shut_first before c.args.gate front entry rest shut last _ waits) only)

pub returns-clause-next_moment : goal.returns-clause-next_moment
returns-clause-next_moment g c = λ told before is front entry rest shut last waits only.
    let first = shut_first before c.args.gate front entry rest shut last _ waits in
    let done = c.in_ok-open_waiting.ensures.done told before is front (entry ++ last ∷ []) rest shut first only in
    let next = opened_first before c.args.gate front entry rest shut last _ (g.D.Disk.seen c.open_waiting.new.disk) waits done.0 in
    joined g.D.Disk.moment g.D.Disk.left_since c.args.disk.now c.open_waiting.new.disk c.write_entry.new.disk
    (IsClosedOrNextOpened front entry c.args.behind.now)
    (weakened g.D.Disk.moment g.D.Disk.left_since c.args.disk.now c.open_waiting.new.disk (IsClosedOrOpened front (entry ++ last ∷ []))
    (IsClosedOrNextOpened front entry c.args.behind.now) (opens_to_next front entry c.args.behind.now last waits.behind)
    (c.open_waiting.ensures.any_moment told before is front (entry ++ last ∷ []) rest shut first only))
    (weakened g.D.Disk.moment g.D.Disk.left_since c.open_waiting.new.disk c.write_entry.new.disk
    (IsClosedOrOpened (front ++ 1 ∷ entry) c.args.behind.now) (IsClosedOrNextOpened front entry c.args.behind.now)
    (λ b here. inr here) (c.write_entry.ensures.any_moment told (front ++ 1 ∷ entry) rest last next done.1))

pub returns-clause-next : goal.returns-clause-next
returns-clause-next g c = λ told before is front entry rest shut last waits only.
    let done = c.in_ok-open_waiting.ensures.done told before is front (entry ++ last ∷ []) rest shut
    (shut_first before c.args.gate front entry rest shut last _ waits) only in
    let next = opened_first before c.args.gate front entry rest shut last _ (g.D.Disk.seen c.open_waiting.new.disk) waits done.0 in
    c.write_entry.ensures.done told (front ++ 1 ∷ entry) rest last next done.1
