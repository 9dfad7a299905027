use Rattle.std.proofs.Common.{map, ap, ◌∙◌, arith}
use Rattle.std.proofs.lemmas.List.{take_all}
use Rattle.spec_exchange.specs.Fold.{ranges_that_stay}
use Rattle.law_snapshots.specs.snapshots.Pieces.{range_pieces}
use Rattle.store_opens.specs.share_modes.Locking.{range_of}
use Rattle.server_core.proofs.snapshot_writing.Lemmas.{goes_same, goes_then}
use Rattle.server_core.proofs.snapshot_writing.OpenLemmas.{told_joined, told_same, told_none, no_ranges, map_taken}
use Rattle.server_core.proofs.snapshot_writing.ranges.tell_ranges.Goals as goal

pub loop-range-init : goal.loop-range-init
loop-range-init g c = (
  λ s ps shows h. told_none g.D.Disk.told g.D.Renewal.drafted c.args.journal.now.disk c.args.rewrite.now c.args.body.now.items ps _ (no_ranges s) h,
  goes_same g.D.Disk.told g.D.Disk.seen g.D.Disk.may_leave g.D.Disk.moment g.D.Disk.left_since g.D.Disk.faults g.met.D.Disk.only_now c.args.journal.now tt,
)

pub loop-range-preserved : goal.loop-range-preserved
loop-range-preserved g c = (
  λ s ps shows h.
      let rs = c.ranges-ranges.result.now in
      let t = c.loop-range-test.true in
      told_joined g.D.Disk.told g.D.Renewal.drafted c.tell_if_kept.new.journal.disk c.tell_if_kept.new.rewrite c.tell_if_kept.new.body.items ps _ _ _
      (map_taken s rs c.loop-range.range-index _ t) (c.in-Ok.ensures.told s _ shows (c.loop-range.invariant.0 s ps shows h)),
  goes_then g.D.Disk.told g.D.Disk.seen g.D.Disk.may_leave g.D.Disk.moment g.D.Disk.left_since g.D.Disk.faults _ _ _ tt _ c.loop-range.invariant.1 c.in-Ok.ensures.goes,
)

pub returns-in-Err-clause-goes : goal.returns-in-Err-clause-goes
returns-in-Err-clause-goes g c = goes_then g.D.Disk.told g.D.Disk.seen g.D.Disk.may_leave g.D.Disk.moment g.D.Disk.left_since g.D.Disk.faults _ _ _ tt _ c.loop-range.invariant.1 c.in-Err.ensures.goes

pub returns : goal.returns
returns g c = record {
  told = λ s ps shows h. told_same g.D.Disk.told g.D.Renewal.drafted c.loop-range.journal.disk c.loop-range.rewrite c.loop-range.body.items ps _ _
      (ap (λ l. range_pieces (ranges_that_stay s (map range_of l))) (take_all c.loop-range.range-index c.ranges-ranges.result.now (let t = c.loop-range-test.false in omega arith))
      ∙ ap (λ l. range_pieces (ranges_that_stay s l)) (c.ranges-ranges.ensures.shown s shows))
      (c.loop-range.invariant.0 s ps shows h);
  goes = c.loop-range.invariant.1;
}
