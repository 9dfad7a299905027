use Rattle.std.proofs.Common.{arith}
use Rattle.server_core.proofs.snapshot_writing.Lemmas.{goes_same, goes_then}
use Rattle.server_core.proofs.snapshot_writing.FileLemmas.{parts_begun, parts_on, parts_end, all_up_to, there}
use Rattle.server_core.proofs.snapshot_writing.files.tell_parts.Goals as goal

pub loop-at-init : goal.loop-at-init
loop-at-init g c = (
  λ s ps shows is h. parts_begun g.D.Disk.told g.D.Renewal.drafted c.args.journal.now.disk c.args.rewrite.now c.args.body.now.items s c.args.file ps h,
  goes_same g.D.Disk.told g.D.Disk.seen g.D.Disk.may_leave g.D.Disk.moment g.D.Disk.left_since g.D.Disk.faults g.met.D.Disk.only_now c.args.journal.now tt,
)

pub loop-at-smaller : goal.loop-at-smaller
loop-at-smaller g c =
    let b = c.in-Some.ensures.sized in
    let a = c.saturating_add-at.ensures in
    let e = c.length-length.type_inv in
    let t = c.loop-at-test.true in
    omega arith

pub loop-at-preserved : goal.loop-at-preserved
loop-at-preserved g c = (
  λ s ps shows is h.
      let v = c.loop-at.invariant.0 s ps shows is h in
      let part = c.in-Some.ensures.some s shows is in
      let a = c.saturating_add-at.ensures in
      let e = c.length-length.type_inv in
      let l = c.length-length.ensures s shows (there s c.args.file is) in
      let w = part.within in
      parts_on g.D.Disk.told g.D.Renewal.drafted _ _ _ _ _ _ s c.args.file ps c.loop-at.at _ c.in-Some.place _ c.in-Some.bytes.now part (omega arith) v
      (c.in-Ok.ensures.told _ v.3),
  goes_then g.D.Disk.told g.D.Disk.seen g.D.Disk.may_leave g.D.Disk.moment g.D.Disk.left_since g.D.Disk.faults _ _ _ tt _ c.loop-at.invariant.1 c.in-Ok.ensures.goes,
)

pub returns-in_default : goal.returns-in_default
returns-in_default g c = record {
  told = λ s ps shows is h. parts_end g.D.Disk.told g.D.Renewal.drafted _ _ _ s c.args.file ps c.loop-at.at (c.in_default.ensures.none s shows is)
      (c.loop-at.invariant.0 s ps shows is h);
  goes = c.loop-at.invariant.1;
}

pub returns-in-Err-clause-goes : goal.returns-in-Err-clause-goes
returns-in-Err-clause-goes g c = goes_then g.D.Disk.told g.D.Disk.seen g.D.Disk.may_leave g.D.Disk.moment g.D.Disk.left_since g.D.Disk.faults _ _ _ tt _ c.loop-at.invariant.1 c.in-Err.ensures.goes

pub returns : goal.returns
returns g c = record {
  told = λ s ps shows is h. parts_end g.D.Disk.told g.D.Renewal.drafted _ _ _ s c.args.file ps c.loop-at.at
      (all_up_to c.loop-at.at (s.content c.args.file) (let l = c.length-length.ensures s shows (there s c.args.file is) in
      let t = c.loop-at-test.false in omega arith)) (c.loop-at.invariant.0 s ps shows is h);
  goes = c.loop-at.invariant.1;
}
