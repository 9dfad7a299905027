use Rattle.std.proofs.Common.{get_or, take, ap, ◌∙◌, arith}
use Rattle.std.proofs.lemmas.List.{take_more, take_all}
use Rattle.law_snapshots.specs.snapshots.Pieces.{open_pieces}
use Rattle.server_core.proofs.snapshot_writing.Lemmas.{goes_same, goes_then}
use Rattle.server_core.proofs.snapshot_writing.FileLemmas.{has_at}
use Rattle.server_core.proofs.snapshot_writing.OpenLemmas.{told_joined, told_same, told_none, no_opens, open_end}
use Rattle.server_core.proofs.snapshot_writing.opens.tell_opens.Goals as goal

pub loop-id-init : goal.loop-id-init
loop-id-init g c = (
  λ s ps shows all h. told_none g.D.Disk.told g.D.Renewal.drafted c.args.journal.now.disk c.args.rewrite.now c.args.body.now.items ps _ (no_opens s) h,
  goes_same g.D.Disk.told g.D.Disk.seen g.D.Disk.may_leave g.D.Disk.moment g.D.Disk.left_since g.D.Disk.faults g.met.D.Disk.only_now c.args.journal.now tt,
)

pub loop-id-preserved : goal.loop-id-preserved
loop-id-preserved g c = (
  λ s ps shows all h.
      let i = c.loop-id.id-index in
      let xs = c.args.ids.now in
      let t = c.loop-id-test.true in
      told_joined g.D.Disk.told g.D.Renewal.drafted c.tell_one.new.journal.disk c.tell_one.new.rewrite c.tell_one.new.body.items ps _ _ _
      (ap (λ l. open_pieces s l) (take_more xs i 0 t) ∙ open_end s (take i xs) (get_or xs i 0))
      (c.in-Ok.ensures.told s _ shows (all (get_or xs i 0) (has_at xs i t)) (c.loop-id.invariant.0 s ps shows all h)),
  goes_then g.D.Disk.told g.D.Disk.seen g.D.Disk.may_leave g.D.Disk.moment g.D.Disk.left_since g.D.Disk.faults _ _ _ tt _ c.loop-id.invariant.1 c.in-Ok.ensures.goes,
)

pub returns-in-Err-clause-goes : goal.returns-in-Err-clause-goes
returns-in-Err-clause-goes g c = goes_then g.D.Disk.told g.D.Disk.seen g.D.Disk.may_leave g.D.Disk.moment g.D.Disk.left_since g.D.Disk.faults _ _ _ tt _ c.loop-id.invariant.1 c.in-Err.ensures.goes

pub returns : goal.returns
returns g c = record {
  told = λ s ps shows all h. told_same g.D.Disk.told g.D.Renewal.drafted c.loop-id.journal.disk c.loop-id.rewrite c.loop-id.body.items ps _ _
      (ap (λ l. open_pieces s l) (take_all c.loop-id.id-index (c.args.ids.now) (let t = c.loop-id-test.false in omega arith)))
      (c.loop-id.invariant.0 s ps shows all h);
  goes = c.loop-id.invariant.1;
}
