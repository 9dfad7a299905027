use Rattle.std.proofs.Common.{get_or, take, ap, ◌∙◌, arith}
use Rattle.std.proofs.lemmas.List.{take_more, take_all}
use Rattle.law_snapshots.specs.snapshots.Pieces.{all_range_pieces}
use Rattle.law_snapshots.specs.snapshots.Taken.{numbered_entries}
use Rattle.server_core.proofs.snapshot_writing.Lemmas.{goes_same, goes_then}
use Rattle.server_core.proofs.snapshot_writing.OpenLemmas.{told_joined, told_same, told_none, no_files, all_end}
use Rattle.server_core.proofs.snapshot_writing.ranges.tell_all_ranges.Goals as goal

pub loop-file-init : goal.loop-file-init
loop-file-init g c = (
  λ s ps shows h. told_none g.D.Disk.told g.D.Renewal.drafted c.args.journal.now.disk c.args.rewrite.now c.args.body.now.items ps _ (no_files s) h,
  goes_same g.D.Disk.told g.D.Disk.seen g.D.Disk.may_leave g.D.Disk.moment g.D.Disk.left_since g.D.Disk.faults g.met.D.Disk.only_now c.args.journal.now tt,
)

pub loop-file-preserved : goal.loop-file-preserved
loop-file-preserved g c = (
  λ s ps shows h.
      let i = c.loop-file.file-index in
      let xs = c.args.order.now in
      let t = c.loop-file-test.true in
      told_joined g.D.Disk.told g.D.Renewal.drafted c.tell_ranges.new.journal.disk c.tell_ranges.new.rewrite c.tell_ranges.new.body.items ps _ _ _
      (ap (λ l. all_range_pieces s (numbered_entries s l)) (take_more xs i 0 t) ∙ all_end s (take i xs) (get_or xs i 0))
      (c.in-Ok.ensures.told s _ shows (c.loop-file.invariant.0 s ps shows h)),
  goes_then g.D.Disk.told g.D.Disk.seen g.D.Disk.may_leave g.D.Disk.moment g.D.Disk.left_since g.D.Disk.faults _ _ _ tt _ c.loop-file.invariant.1 c.in-Ok.ensures.goes,
)

pub returns-in-Err-clause-goes : goal.returns-in-Err-clause-goes
returns-in-Err-clause-goes g c = goes_then g.D.Disk.told g.D.Disk.seen g.D.Disk.may_leave g.D.Disk.moment g.D.Disk.left_since g.D.Disk.faults _ _ _ tt _ c.loop-file.invariant.1 c.in-Err.ensures.goes

pub returns : goal.returns
returns g c = record {
  told = λ s ps shows h. told_same g.D.Disk.told g.D.Renewal.drafted c.loop-file.journal.disk c.loop-file.rewrite c.loop-file.body.items ps _ _
      (ap (λ l. all_range_pieces s (numbered_entries s l)) (take_all c.loop-file.file-index (c.args.order.now) (let t = c.loop-file-test.false in omega arith)))
      (c.loop-file.invariant.0 s ps shows h);
  goes = c.loop-file.invariant.1;
}
