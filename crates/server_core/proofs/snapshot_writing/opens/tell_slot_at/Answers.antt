use Rattle.std.proofs.Common.{sym}
use Rattle.server_core.proofs.snapshot_writing.Lemmas.{goes_same}
use Rattle.server_core.proofs.snapshot_writing.FileLemmas.{on_ok}
use Rattle.server_core.proofs.snapshot_writing.OpenLemmas.{told_none, told_same, slot_none, slot_some}
use Rattle.server_core.proofs.snapshot_writing.opens.tell_slot_at.Goals as goal

pub returns-in-Some-clause-told : goal.returns-in-Some-clause-told
returns-in-Some-clause-told g c = λ kept ps shows h. on_ok c.tell_slot.result _ _
    (told_same g.D.Disk.told g.D.Renewal.drafted _ _ _ ps _ _ (slot_some c.args.id c.args.index (kept c.args.index) c.in-Some.kept (c.in-Some.ensures kept shows)))
    (c.tell_slot.ensures.told ps h)

pub returns-in-None-clause-told : goal.returns-in-None-clause-told
returns-in-None-clause-told g c = λ kept ps shows h. told_none g.D.Disk.told g.D.Renewal.drafted _ _ _ ps _
    (slot_none c.args.id c.args.index (kept c.args.index) (sym (c.in-None.ensures kept shows))) h

pub returns-in-None-clause-goes : goal.returns-in-None-clause-goes
returns-in-None-clause-goes g c = goes_same g.D.Disk.told g.D.Disk.seen g.D.Disk.may_leave g.D.Disk.moment g.D.Disk.left_since g.D.Disk.faults g.met.D.Disk.only_now c.args.journal.now tt
