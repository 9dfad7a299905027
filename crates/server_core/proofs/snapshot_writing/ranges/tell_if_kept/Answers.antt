use Rattle.std.proofs.Common.{sym, ◌∙◌, ap, ◌∷◌, []}
use Rattle.spec_exchange.specs.State as model
use Rattle.law_snapshots.specs.snapshots.Pieces.{RangePiece}
use Rattle.store_opens.specs.share_modes.Locking.{range_of}
use Rattle.server_core.proofs.snapshot_writing.Lemmas.{goes_same}
use Rattle.server_core.proofs.snapshot_writing.FileLemmas.{on_ok}
use Rattle.server_core.proofs.snapshot_writing.OpenLemmas.{told_none, told_same, no_range, one_range}
use Rattle.server_core.proofs.snapshot_writing.ranges.tell_if_kept.Goals as goal

pub returns-then-not-is_kept-clause-told : goal.returns-then-not-is_kept-clause-told
returns-then-not-is_kept-clause-told g c = λ s ps shows h. told_none g.D.Disk.told g.D.Renewal.drafted _ _ _ ps _
    (no_range s (range_of c.args.range.now) (sym (c.if-not-is_kept.ensures s shows))) h

pub returns-then-not-is_kept-clause-goes : goal.returns-then-not-is_kept-clause-goes
returns-then-not-is_kept-clause-goes g c = goes_same g.D.Disk.told g.D.Disk.seen g.D.Disk.may_leave g.D.Disk.moment g.D.Disk.left_since g.D.Disk.faults g.met.D.Disk.only_now c.args.journal.now tt

pub returns-clause-told : goal.returns-clause-told
returns-clause-told g c = λ s ps shows h. on_ok c.tell_range.result _ _
    (told_same g.D.Disk.told g.D.Renewal.drafted _ _ _ ps _ _ (ap (λ (r : model.Range). RangePiece r ∷ []) c.value_of-told.ensures
    ∙ sym (one_range s (range_of c.args.range.now) (sym (c.if-not-is_kept.ensures s shows)))))
    (c.tell_range.ensures.told ps h)
