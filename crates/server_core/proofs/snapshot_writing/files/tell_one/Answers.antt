use Rattle.server_core.proofs.snapshot_writing.Lemmas.{goes_then}
use Rattle.server_core.proofs.snapshot_writing.FileLemmas.{on_ok, file_on}
use Rattle.server_core.proofs.snapshot_writing.files.tell_one.Goals as goal

pub returns-in-Ok-clause-told : goal.returns-in-Ok-clause-told
returns-in-Ok-clause-told g c = λ s ps shows is h. on_ok c.tell_parts.result _ _
    (file_on g.D.Disk.told g.D.Renewal.drafted c.tell_parts.new.journal.disk c.tell_parts.new.rewrite c.tell_parts.new.body.items s c.args.file ps)
    (c.tell_parts.ensures.told s _ shows is (c.in-Ok.ensures.told s ps shows is h))

pub returns-in-Ok-clause-goes : goal.returns-in-Ok-clause-goes
returns-in-Ok-clause-goes g c = goes_then g.D.Disk.told g.D.Disk.seen g.D.Disk.may_leave g.D.Disk.moment g.D.Disk.left_since g.D.Disk.faults _ _ _ tt _ c.in-Ok.ensures.goes c.tell_parts.ensures.goes
