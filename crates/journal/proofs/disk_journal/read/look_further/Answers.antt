use Rattle.std.proofs.Common.{drop, subst, arith}
use Rattle.journal.specs.declared.disk_journal.read.Look.{Look}
use Rattle.journal.specs.disk_journal.Read.{FitsBefore}
use Rattle.journal.proofs.disk_journal.Looks.{no_entry, plainly, room_for_sum, shut, with_sum, without_sum}
use Rattle.journal.proofs.disk_journal.read.look_further.Goals as goal

pub is_summed-requires : goal.is_summed-requires
is_summed-requires g c =
    let room = room_for_sum c.args.form c.args.gate c.args.end c.in-Entry.size c.args.look c.in-Summed.is c.in-Entry.is c.requires in
    omega (arith, room)

pub returns-in-Plain-clause-shows : goal.returns-in-Plain-clause-shows
returns-in-Plain-clause-shows g c = λ told end shows.
    plainly c.args.form (drop c.args.gate (g.D.Disk.seen c.args.disk.now)) c.args.look c.in-Entry.size c.in-Plain.is c.in-Entry.is shows

pub returns-in-Plain-clause-fits : goal.returns-in-Plain-clause-fits
returns-in-Plain-clause-fits g c = subst (λ (k : Look). FitsBefore c.args.form c.args.gate c.args.end k) c.in-Entry.is c.requires

pub returns-then-same-clause-shows : goal.returns-then-same-clause-shows
returns-then-same-clause-shows g c = λ told end shows.
    let room = room_for_sum c.args.form c.args.gate c.args.end c.in-Entry.size c.args.look c.in-Summed.is c.in-Entry.is c.requires in
    with_sum c.args.form (g.D.Disk.seen c.args.disk.now) c.args.gate c.in-Entry.size c.args.look c.in_ok-same-in-Summed.same c.in-Summed.is
    c.in-Entry.is shows c.if-same.true (c.in_ok-same-in-Summed.ensures.told told (omega (arith, room, end)))

pub returns-then-same-clause-fits : goal.returns-then-same-clause-fits
returns-then-same-clause-fits g c = subst (λ (k : Look). FitsBefore c.args.form c.args.gate c.args.end k) c.in-Entry.is c.requires

pub returns-else-same-clause-shows : goal.returns-else-same-clause-shows
returns-else-same-clause-shows g c = λ told end shows.
    let room = room_for_sum c.args.form c.args.gate c.args.end c.in-Entry.size c.args.look c.in-Summed.is c.in-Entry.is c.requires in
    without_sum c.args.form (g.D.Disk.seen c.args.disk.now) c.args.gate c.in-Entry.size c.args.look c.in_ok-same-in-Summed.same
    c.in-Summed.is c.in-Entry.is shows c.if-same.false (c.in_ok-same-in-Summed.ensures.told told (omega (arith, room, end)))

pub returns-in-Closed-clause-shows : goal.returns-in-Closed-clause-shows
returns-in-Closed-clause-shows g c = λ told end shows.
    shut c.args.form (drop c.args.gate (g.D.Disk.seen c.args.disk.now)) c.args.look c.in-Closed.is shows

pub returns-in-NoEntry-clause-shows : goal.returns-in-NoEntry-clause-shows
returns-in-NoEntry-clause-shows g c = λ told end shows.
    no_entry c.args.form (drop c.args.gate (g.D.Disk.seen c.args.disk.now)) c.args.look c.in-NoEntry.is shows
