use Rattle.std.proofs.Common.{◌≡◌, ℕ, ◌+◌, take, drop, length, ap, refl, ◌∙◌, arith}
use Rattle.std.proofs.lemmas.List.{length-take-le}
use Rattle.spec_journal.specs.Castagnoli.{behind_bytes}
use Rattle.journal.proofs.disk_journal.Gates.{sum_more}
use Rattle.journal.proofs.disk_journal.Looks.{none_more}
use Rattle.journal.proofs.disk_journal.Quiet.{quiet_start, quiet_joined}
use Rattle.journal.proofs.disk_journal.read.sum_range.Goals as goal

pub loop-done-init : goal.loop-done-init
loop-done-init g c = record {
  within = omega arith;
  same = λ yes fits. none_more c.args.sum.now;
  quiet = quiet_start g.D.Disk.told g.D.Disk.seen g.D.Disk.may_leave g.D.Disk.moment g.D.Disk.left_since
      g.met.D.Disk.only_now c.args.disk.now;
  no_fault = refl;
}

pub loop-done-preserved : goal.loop-done-preserved
loop-done-preserved g c = record {
  within = omega (arith, c.loop-done.invariant.within);
  same = λ yes fits.
      let so_far = c.loop-done.invariant in
      let there = so_far.quiet.same yes in
      let part = length-take-le c.min-part.result c.loop-done.buffer (omega arith) in
      let more = c.in_ok-whole.ensures.summed yes (omega (arith, fits, ap length there, part, so_far.within)) in
      let size : length c.sum_part.new.buffer ≡ c.min-part.result = omega (arith, part) in
      sum_more (g.D.Disk.seen c.args.disk.now) c.args.sum.now c.loop-done.sum c.args.at c.loop-done.done c.min-part.result c.sum_part.new.sum
      (so_far.same yes fits)
      (more.1 ∙ (λ i. behind_bytes c.loop-done.sum (take (size i) (drop (c.args.at + c.loop-done.done) (there i))))) c.sums_law.ensures.parts;
  quiet = quiet_joined g.D.Disk.told g.D.Disk.seen g.D.Disk.may_leave g.D.Disk.moment g.D.Disk.left_since
      c.args.disk.now c.loop-done.disk c.sum_part.new.disk c.loop-done.invariant.quiet c.sum_part.ensures.quiet;
  no_fault = c.in_ok-whole.ensures.cause ∙ c.loop-done.invariant.no_fault;
}

pub returns-clause-summed : goal.returns-clause-summed
returns-clause-summed g c = λ yes fits. (
  refl,
  c.loop-done.invariant.same yes fits
      ∙ ap (λ (k : ℕ). behind_bytes c.args.sum.now (take k (drop c.args.at (g.D.Disk.seen c.args.disk.now))))
      (omega (arith, c.loop-done.invariant.within, c.loop-done-test.false)),
)
