use Rattle.std.proofs.Common.{arith}
use Rattle.journal_bytes.proofs.record_bytes.reading.read_record.Goals as goal

pub returns-in_ok-read_epoch-in-1 : goal.returns-in_ok-read_epoch-in-1
returns-in_ok-read_epoch-in-1 c = let e = c.in_ok-read_epoch-in-1.ensures in let is = e.0 c.args.version in (is.0, is.1, e.1, omega arith)

pub returns-in_ok-read_set_end-in-4 : goal.returns-in_ok-read_set_end-in-4
returns-in_ok-read_set_end-in-4 c = let e = c.in_ok-read_set_end-in-4.ensures in let is = e.0 c.args.version in
    (is.0, is.1, e.1, omega arith)

pub returns-in_ok-read_set_basic-in-5 : goal.returns-in_ok-read_set_basic-in-5
returns-in_ok-read_set_basic-in-5 c = let e = c.in_ok-read_set_basic-in-5.ensures in let is = e.0 c.args.version in
    (is.0, is.1, e.1, omega arith)

pub returns-in_ok-read_remove-in-8 : goal.returns-in_ok-read_remove-in-8
returns-in_ok-read_remove-in-8 c = let e = c.in_ok-read_remove-in-8.ensures in let is = e.0 c.args.version in (is.0, is.1, e.1, omega arith)

pub returns-in_ok-read_shut-in-10 : goal.returns-in_ok-read_shut-in-10
returns-in_ok-read_shut-in-10 c = let e = c.in_ok-read_shut-in-10.ensures in let is = e.0 c.args.version in (is.0, is.1, e.1, omega arith)

pub returns-in_ok-read_expire-in-12 : goal.returns-in_ok-read_expire-in-12
returns-in_ok-read_expire-in-12 c = let e = c.in_ok-read_expire-in-12.ensures in let is = e.0 c.args.version in
    (is.0, is.1, e.1, omega arith)
