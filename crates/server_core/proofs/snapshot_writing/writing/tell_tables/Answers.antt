use Rattle.std.proofs.Common.{refl, sym, ◌∙◌}
use Rattle.server_core.proofs.snapshot_writing.Lemmas.{goes_then}
use Rattle.server_core.proofs.snapshot_writing.FileLemmas.{on_ok}
use Rattle.server_core.proofs.snapshot_writing.OpenLemmas.{told_joined}
use Rattle.server_core.proofs.snapshot_writing.writing.tell_tables.Goals as goal

pub returns-in-Ok-clause-told : goal.returns-in-Ok-clause-told
returns-in-Ok-clause-told g c = λ s ps files shows order all h.
    let f = c.in-Ok.ensures.told s ps files (λ k i. sym (order.each k) ∙ i) order.once h in
    on_ok c.tell_back.result _ _ (λ k. (f.0, f.1, (told_joined g.D.Disk.told g.D.Renewal.drafted c.tell_back.new.journal.disk c.tell_back.new.rewrite c.tell_back.new.body.items ps _ _ _ refl) k))
    (c.tell_back.ensures.told s _ shows all f.2)

pub returns-in-Ok-clause-goes : goal.returns-in-Ok-clause-goes
returns-in-Ok-clause-goes g c = goes_then g.D.Disk.told g.D.Disk.seen g.D.Disk.may_leave g.D.Disk.moment g.D.Disk.left_since g.D.Disk.faults _ _ _ tt _ c.in-Ok.ensures.goes c.tell_back.ensures.goes
