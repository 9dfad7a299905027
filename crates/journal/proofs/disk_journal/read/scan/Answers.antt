use Rattle.std.proofs.Common.{◌+◌, ◌<◌, inr, length, sym, ◌∙◌, ap, refl, subst, arith}
use Rattle.journal.specs.declared.disk_journal.read.Look.{Look}
use Rattle.journal.specs.declared.disk_journal.read.Look.TheVariants.{Closed, NoEntry}
use Rattle.spec_journal.specs.Forms.{sum_size}
use Rattle.journal.specs.disk_journal.Read.{FitsBefore}
use Rattle.journal.proofs.disk_journal.Gates.{read_closed, read_mark, read_more, read_none, shows_there, sum_few}
use Rattle.journal.proofs.disk_journal.Looks.{shows_as}
use Rattle.journal.proofs.disk_journal.Quiet.{quiet_start, quiet_joined}
use Rattle.journal.proofs.disk_journal.read.scan.Goals as goal

pub loop-length-init : goal.loop-length-init
loop-length-init g c = record {
  before_end = omega arith;
  some = omega arith;
  past_mark = omega arith;
  fewer = omega arith;
  half = omega arith;
  read = λ yes size is. read_mark c.args.form (g.D.Disk.seen c.args.disk.now) is;
  quiet = quiet_start g.D.Disk.told g.D.Disk.seen g.D.Disk.may_leave g.D.Disk.moment g.D.Disk.left_since
      g.met.D.Disk.only_now c.args.disk.now;
  no_fault = refl;
}

pub loop-length-preserved : goal.loop-length-preserved
loop-length-preserved g c =
    let so_far = c.loop-length.invariant in
    let fits : c.loop-length.gate + 5 + sum_size c.args.form + c.in-Entry.length < c.args.end =
    subst (λ (l : Look). FitsBefore c.args.form c.loop-length.gate c.args.end l) c.in-Entry.is c.in_ok-read_gate.ensures.fits in
    let sum = c.sum_bytes-sum.ensures in
    let few = sum_few c.args.form in
    record {
      before_end = omega (arith, fits, sum);
      some = omega (arith, so_far.some);
      past_mark = omega (arith, so_far.past_mark);
      fewer = omega (arith, so_far.fewer);
      half = omega (arith, so_far.half, sum, few);
      read = λ yes size is. read_more c.args.form (g.D.Disk.seen c.args.disk.now) c.loop-length.gate c.loop-length.used c.loop-length.count
          c.in-Entry.length c.sum_bytes-sum.result sum (so_far.read yes size is)
          (shows_there c.args.form (g.D.Disk.seen c.loop-length.disk) (g.D.Disk.seen c.args.disk.now) c.loop-length.gate
          c.in-Entry.length c.in_ok-read_gate.field-0 (so_far.quiet.same yes) c.in-Entry.is
          (c.in_ok-read_gate.ensures.shows yes (size ∙ ap length (sym (so_far.quiet.same yes)))));
      quiet = quiet_joined g.D.Disk.told g.D.Disk.seen g.D.Disk.may_leave g.D.Disk.moment g.D.Disk.left_since
          c.args.disk.now c.loop-length.disk c.read_gate.new.disk so_far.quiet c.read_gate.ensures.quiet;
      no_fault = c.in_ok-read_gate.ensures.cause ∙ so_far.no_fault;
    }

pub returns-in-Closed-clause-found : goal.returns-in-Closed-clause-found
returns-in-Closed-clause-found g c = λ yes size is.
    let so_far = c.loop-length.invariant in
    read_closed c.args.form (g.D.Disk.seen c.args.disk.now) c.loop-length.gate c.loop-length.used c.loop-length.count (so_far.read yes size is)
    (shows_as c.args.form (g.D.Disk.seen c.loop-length.disk) (g.D.Disk.seen c.args.disk.now) c.loop-length.gate c.in_ok-read_gate.field-0 Closed
    (so_far.quiet.same yes) c.in-Closed.is (c.in_ok-read_gate.ensures.shows yes (size ∙ ap length (sym (so_far.quiet.same yes)))))

pub returns-in-NoEntry-clause-found : goal.returns-in-NoEntry-clause-found
returns-in-NoEntry-clause-found g c = λ yes size is.
    let so_far = c.loop-length.invariant in
    inr (read_none c.args.form (g.D.Disk.seen c.args.disk.now) c.loop-length.gate c.loop-length.used c.loop-length.count (so_far.read yes size is)
    (shows_as c.args.form (g.D.Disk.seen c.loop-length.disk) (g.D.Disk.seen c.args.disk.now) c.loop-length.gate c.in_ok-read_gate.field-0 NoEntry
    (so_far.quiet.same yes) c.in-NoEntry.is (c.in_ok-read_gate.ensures.shows yes (size ∙ ap length (sym (so_far.quiet.same yes))))))
