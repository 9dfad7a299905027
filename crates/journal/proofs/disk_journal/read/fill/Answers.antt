use Rattle.std.proofs.Common.{ℕ, ◌+◌, ◌-◌, ◌++◌, List, length, take, drop, ◌∙◌, ap, arith, length-append}
use borrow.Rule.Slice.PartMut.{post_of}
use Rattle.std.proofs.lemmas.List.{length-take-le}
use Rattle.journal.proofs.disk_journal.Gates.{fill_more}
use Rattle.journal.proofs.disk_journal.Quiet.{quiet_more}
use Rattle.journal.proofs.disk_journal.read.fill.Goals as goal

pub loop-done-preserved : goal.loop-done-preserved
loop-done-preserved g c =
    let so_far = c.loop-done.invariant in
    let left = length c.loop-done.into - c.loop-done.done in
    record {
      fits = omega (
        arith,
        length-take-le c.loop-done.done c.loop-done.into so_far.fits,
        length-append (take c.loop-done.done c.loop-done.into) (c.read.new.into ++ post_of c.loop-done.done left
            c.loop-done.into),
        length-append c.read.new.into (post_of c.loop-done.done left c.loop-done.into),
        c.in_ok-count.ensures.bound,
      );
      same = λ yes. fill_more (g.D.Disk.seen c.args.disk.now) c.loop-done.into c.read.new.into
          (post_of c.loop-done.done left c.loop-done.into) c.args.at c.loop-done.done c.in_ok-count.count so_far.fits
          (so_far.same yes) c.in_ok-count.ensures.bound
          ((c.in_ok-count.ensures.bytes yes).front
          ∙ ap (λ (l : List ℕ). take c.in_ok-count.count (drop (c.args.at + c.loop-done.done) l))
          (so_far.quiet.same yes));
      quiet = quiet_more g.D.Disk.told g.D.Disk.seen g.D.Disk.may_leave g.D.Disk.moment g.D.Disk.left_since
          c.args.disk.now c.loop-done.disk c.read.new.self so_far.quiet c.read.ensures.seen c.read.ensures.crash
          c.read.ensures.time;
      no_fault = c.in_ok-count.ensures.cause ∙ so_far.no_fault;
    }
