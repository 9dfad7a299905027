use Rattle.std.proofs.Common.{refl}
use Rattle.server_core.proofs.snapshot_writing.Lemmas.{goes_then}
use Rattle.server_core.proofs.snapshot_writing.FileLemmas.{on_ok}
use Rattle.server_core.proofs.snapshot_writing.OpenLemmas.{told_joined}
use Rattle.server_core.proofs.snapshot_writing.writing.tell_locks.Goals as goal

pub returns-in-Ok-clause-told : goal.returns-in-Ok-clause-told
returns-in-Ok-clause-told g c = λ s ps shows h. on_ok c.tell_last.result _ _ (told_joined g.D.Disk.told g.D.Renewal.drafted c.tell_last.new.journal.disk c.tell_last.new.rewrite c.tell_last.new.body.items ps _ _ _ refl)
    (c.tell_last.ensures.told s _ shows (c.in-Ok.ensures.told s ps shows h))

pub returns-in-Ok-clause-goes : goal.returns-in-Ok-clause-goes
returns-in-Ok-clause-goes g c = goes_then g.D.Disk.told g.D.Disk.seen g.D.Disk.may_leave g.D.Disk.moment g.D.Disk.left_since g.D.Disk.faults _ _ _ tt _ c.in-Ok.ensures.goes c.tell_last.ensures.goes
