use Rattle.std.proofs.Common.{arith}
use Rattle.server_core.proofs.snapshot_writing.Lemmas.{goes_same, goes_then}
use Rattle.server_core.proofs.snapshot_writing.OpenLemmas.{slots_begun, slots_on, slots_end}
use Rattle.server_core.proofs.snapshot_writing.opens.tell_slots.Goals as goal

pub loop-index-init : goal.loop-index-init
loop-index-init g c = (
  omega arith,
  λ kept ps shows h. slots_begun g.D.Disk.told g.D.Renewal.drafted c.args.journal.now.disk c.args.rewrite.now c.args.body.now.items kept c.args.id ps h,
  goes_same g.D.Disk.told g.D.Disk.seen g.D.Disk.may_leave g.D.Disk.moment g.D.Disk.left_since g.D.Disk.faults g.met.D.Disk.only_now c.args.journal.now tt,
)

pub loop-index-preserved : goal.loop-index-preserved
loop-index-preserved g c =
    let i = c.loop-index.invariant in
    let t = c.loop-index-test.true in (
      (let a = i.0 in omega arith),
      λ kept ps shows h.
          let v = i.1 kept ps shows h in
          slots_on g.D.Disk.told g.D.Renewal.drafted _ _ _ _ _ _ kept c.args.id ps c.loop-index.index _ (omega arith) (omega arith) v
          (c.in-Ok.ensures.told kept _ shows v.2),
      goes_then g.D.Disk.told g.D.Disk.seen g.D.Disk.may_leave g.D.Disk.moment g.D.Disk.left_since g.D.Disk.faults _ _ _ tt _ i.2 c.in-Ok.ensures.goes,
    )

pub returns-in-Err-clause-goes : goal.returns-in-Err-clause-goes
returns-in-Err-clause-goes g c = goes_then g.D.Disk.told g.D.Disk.seen g.D.Disk.may_leave g.D.Disk.moment g.D.Disk.left_since g.D.Disk.faults _ _ _ tt _ c.loop-index.invariant.2 c.in-Err.ensures.goes

pub returns : goal.returns
returns g c = record {
  told = λ kept ps shows h. slots_end g.D.Disk.told g.D.Renewal.drafted _ _ _ kept c.args.id ps c.loop-index.index (let t = c.loop-index-test.false in omega arith)
      (c.loop-index.invariant.1 kept ps shows h);
  goes = c.loop-index.invariant.2;
}
