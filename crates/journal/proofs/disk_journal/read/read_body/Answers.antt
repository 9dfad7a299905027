use Rattle.std.proofs.Common.{◌+◌, take, drop, arith}
use Rattle.journal.proofs.disk_journal.Bodies.{long, length_is, tells_some, tells_none, gives}
use Rattle.journal.proofs.disk_journal.read.read_body.Goals as goal

pub returns-in-Ok-None-clause-body : goal.returns-in-Ok-None-clause-body
returns-in-Ok-None-clause-body g c = λ told before body rest at_gate.
    let size = long c.args.form c.args.gate c.args.end before body rest (g.D.Disk.seen c.args.disk.now) at_gate in
    tells_none (take 4 (drop (c.args.gate + 1) (g.D.Disk.seen c.args.disk.now))) c.in-Ok-None.field-0
    c.in-Ok-None.field-0-is (c.in-Ok-None.ensures.tells told (omega arith))

pub returns-then-length-end-clause-body : goal.returns-then-length-end-clause-body
returns-then-length-end-clause-body g c = λ told before body rest at_gate.
    let size = long c.args.form c.args.gate c.args.end before body rest (g.D.Disk.seen c.args.disk.now) at_gate in
    let tells = tells_some (take 4 (drop (c.args.gate + 1) (g.D.Disk.seen c.args.disk.now))) c.in-Ok-Some.field-0
    c.in-Ok-Some.length c.in-Ok-Some.field-0-is (c.in-Ok-Some.ensures.tells told (omega arith)) in
    let is = length_is c.args.form c.args.gate c.args.end before body rest (g.D.Disk.seen c.args.disk.now) at_gate c.in-Ok-Some.length tells in
    omega arith

pub returns-else-length-end-clause-body : goal.returns-else-length-end-clause-body
returns-else-length-end-clause-body g c = λ told before body rest at_gate.
    let size = long c.args.form c.args.gate c.args.end before body rest (g.D.Disk.seen c.args.disk.now) at_gate in
    let tells = tells_some (take 4 (drop (c.args.gate + 1) (g.D.Disk.seen c.args.disk.now))) c.in-Ok-Some.field-0
    c.in-Ok-Some.length c.in-Ok-Some.field-0-is (c.in-Ok-Some.ensures.tells told (omega arith)) in
    let is = length_is c.args.form c.args.gate c.args.end before body rest (g.D.Disk.seen c.args.disk.now) at_gate c.in-Ok-Some.length tells in
    gives c.args.form c.args.gate c.args.end c.in-Ok-Some.length c.sum_bytes-sum.result before body rest (g.D.Disk.seen c.args.disk.now)
    (g.D.Disk.seen c.read_number.new.disk) c.read_piece.result at_gate c.sum_bytes-sum.ensures is (c.read_number.ensures.quiet.same told)
    (c.read_piece.ensures.piece told)
