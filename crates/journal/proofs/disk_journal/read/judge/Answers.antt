use Rattle.std.proofs.Common.{arith}
use Rattle.journal.proofs.disk_journal.Gates.{shows_early, shows_entry}
use Rattle.journal.proofs.disk_journal.read.judge.Goals as goal

pub returns-then-sum-length-clause-shows : goal.returns-then-sum-length-clause-shows
returns-then-sum-length-clause-shows c = λ m size front.
    shows_early c.args.form m c.args.head.now c.length_of-length.result c.sum_bytes-sum.result c.args.left c.sum_bytes-sum.ensures
    c.if-head-ne1.false (omega arith) c.length_of-length.ensures c.length_of-length.type_inv c.if-sum-length.true size (omega arith) front

pub returns-clause-shows : goal.returns-clause-shows
returns-clause-shows c = λ m size front.
    shows_entry c.args.form m c.args.head.now c.length_of-length.result c.sum_bytes-sum.result c.args.left c.sum_bytes-sum.ensures
    c.if-head-ne1.false (omega arith) c.length_of-length.ensures c.length_of-length.type_inv (omega arith) size front
