use Rattle.std.proofs.Common.{get_or, take, ap, ◌∙◌, arith}
use Rattle.std.proofs.lemmas.List.{take_more, take_all}
use Rattle.law_snapshots.specs.snapshots.Pieces.{guid_pieces}
use Rattle.server_core.proofs.snapshot_writing.Lemmas.{goes_same, goes_then}
use Rattle.server_core.proofs.snapshot_writing.OpenLemmas.{told_joined, told_same, told_none, no_guids, guid_end}
use Rattle.server_core.proofs.snapshot_writing.ranges.tell_guids.Goals as goal

pub loop-pair-init : goal.loop-pair-init
loop-pair-init g c = (
  λ ps h. told_none g.D.Disk.told g.D.Renewal.drafted c.args.journal.now.disk c.args.rewrite.now c.args.body.now.items ps _ no_guids h,
  goes_same g.D.Disk.told g.D.Disk.seen g.D.Disk.may_leave g.D.Disk.moment g.D.Disk.left_since g.D.Disk.faults g.met.D.Disk.only_now c.args.journal.now tt,
)

pub loop-pair-preserved : goal.loop-pair-preserved
loop-pair-preserved g c = (
  λ ps h.
      let i = c.loop-pair.pair-index in
      let xs = c.args.guids.now in
      let t = c.loop-pair-test.true in
      told_joined g.D.Disk.told g.D.Renewal.drafted c.tell_guid.new.journal.disk c.tell_guid.new.rewrite c.tell_guid.new.body.items ps _ _ _
      (ap (λ l. guid_pieces l) (take_more xs i (0, 0) t) ∙ guid_end (take i xs) (get_or xs i (0, 0)))
      (c.in-Ok.ensures.told _ (c.loop-pair.invariant.0 ps h)),
  goes_then g.D.Disk.told g.D.Disk.seen g.D.Disk.may_leave g.D.Disk.moment g.D.Disk.left_since g.D.Disk.faults _ _ _ tt _ c.loop-pair.invariant.1 c.in-Ok.ensures.goes,
)

pub returns-in-Err-clause-goes : goal.returns-in-Err-clause-goes
returns-in-Err-clause-goes g c = goes_then g.D.Disk.told g.D.Disk.seen g.D.Disk.may_leave g.D.Disk.moment g.D.Disk.left_since g.D.Disk.faults _ _ _ tt _ c.loop-pair.invariant.1 c.in-Err.ensures.goes

pub returns : goal.returns
returns g c = record {
  told = λ ps h. told_same g.D.Disk.told g.D.Renewal.drafted c.loop-pair.journal.disk c.loop-pair.rewrite c.loop-pair.body.items ps _ _
      (ap (λ l. guid_pieces l) (take_all c.loop-pair.pair-index (c.args.guids.now) (let t = c.loop-pair-test.false in omega arith)))
      (c.loop-pair.invariant.0 ps h);
  goes = c.loop-pair.invariant.1;
}
