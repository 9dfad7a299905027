use Rattle.std.proofs.Common.{refl}
use Rattle.server_core.proofs.snapshot_writing.Lemmas.{goes_then}
use Rattle.server_core.proofs.snapshot_writing.FileLemmas.{on_ok}
use Rattle.server_core.proofs.snapshot_writing.OpenLemmas.{told_joined}
use Rattle.server_core.proofs.snapshot_writing.writing.tell_all.Goals as goal

pub returns-in-Ok-clause-told : goal.returns-in-Ok-clause-told
returns-in-Ok-clause-told g c = λ s ps files shows version order all h. on_ok c.tell_tables.result _ _
    (λ k. (k.0, k.1, (told_joined g.D.Disk.told g.D.Renewal.drafted c.tell_tables.new.journal.disk c.tell_tables.new.rewrite c.tell_tables.new.body.items ps _ _ _ refl) k.2))
    (c.tell_tables.ensures.told s _ files shows order all (c.in-Ok.ensures.told s ps files shows version h))

pub returns-in-Ok-clause-goes : goal.returns-in-Ok-clause-goes
returns-in-Ok-clause-goes g c = goes_then g.D.Disk.told g.D.Disk.seen g.D.Disk.may_leave g.D.Disk.moment g.D.Disk.left_since g.D.Disk.faults _ _ _ tt _ c.in-Ok.ensures.goes c.tell_tables.ensures.goes
