use Rattle.std.proofs.Common.{get_or, take, sym, subst, arith}
use Rattle.std.proofs.lemmas.List.{take_more, take_all}
use Rattle.server_core.specs.snapshot_writing.Files.{FilesTold}
use Rattle.server_core.proofs.snapshot_writing.Lemmas.{goes_same, goes_then}
use Rattle.server_core.proofs.snapshot_writing.FileLemmas.{files_begun, files_on, has_at, once_at}
use Rattle.server_core.proofs.snapshot_writing.files.tell_files.Goals as goal

pub loop-file-init : goal.loop-file-init
loop-file-init g c = (
  λ s ps shows all once h. files_begun g.D.Disk.told g.D.Renewal.drafted c.args.journal.now.disk c.args.rewrite.now c.args.body.now.items s ps h,
  goes_same g.D.Disk.told g.D.Disk.seen g.D.Disk.may_leave g.D.Disk.moment g.D.Disk.left_since g.D.Disk.faults g.met.D.Disk.only_now c.args.journal.now tt,
)

pub loop-file-preserved : goal.loop-file-preserved
loop-file-preserved g c = (
  λ s ps shows all once h.
      let i = c.loop-file.file-index in
      let fs = c.args.order.now in
      let t = c.loop-file-test.true in
      let v = c.loop-file.invariant.0 s ps shows all once h in
      subst (λ l. FilesTold g.D.Disk.told g.D.Renewal.drafted c.tell_one.new.journal.disk c.tell_one.new.rewrite c.tell_one.new.body.items s l ps)
      (sym (take_more fs i 0 t))
      (files_on g.D.Disk.told g.D.Renewal.drafted _ _ _ _ _ _ s (take i fs) (get_or fs i 0) ps (once_at fs i t once) v
      (c.in-Ok.ensures.told s _ shows (all (get_or fs i 0) (has_at fs i t)) v.2)),
  goes_then g.D.Disk.told g.D.Disk.seen g.D.Disk.may_leave g.D.Disk.moment g.D.Disk.left_since g.D.Disk.faults _ _ _ tt _ c.loop-file.invariant.1 c.in-Ok.ensures.goes,
)

pub returns-in-Err-clause-goes : goal.returns-in-Err-clause-goes
returns-in-Err-clause-goes g c = goes_then g.D.Disk.told g.D.Disk.seen g.D.Disk.may_leave g.D.Disk.moment g.D.Disk.left_since g.D.Disk.faults _ _ _ tt _ c.loop-file.invariant.1 c.in-Err.ensures.goes

pub returns : goal.returns
returns g c = record {
  told = λ s ps shows all once h.
      subst (λ l. FilesTold g.D.Disk.told g.D.Renewal.drafted c.loop-file.journal.disk c.loop-file.rewrite c.loop-file.body.items s l ps)
      (take_all c.loop-file.file-index c.args.order.now (let t = c.loop-file-test.false in omega arith))
      (c.loop-file.invariant.0 s ps shows all once h);
  goes = c.loop-file.invariant.1;
}
