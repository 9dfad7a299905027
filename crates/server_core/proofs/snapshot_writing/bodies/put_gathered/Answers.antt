use Rattle.std.proofs.Common.{◌<◌, length, sym, subst}
use Rattle.server_core.specs.snapshot_writing.Told.{IsTold}
use Rattle.server_core.proofs.snapshot_writing.Lemmas.{told_put}
use Rattle.server_core.proofs.snapshot_writing.bodies.put_gathered.Goals as goal

pub returns-in-Ok-clause-told : goal.returns-in-Ok-clause-told
returns-in-Ok-clause-told g c = λ ps h.
    let e = c.as_slice.ensures.value in
    subst (λ b. IsTold g.D.Disk.told g.D.Renewal.drafted c.put_body.new.journal.disk c.put_body.new.rewrite b ps) (sym c.clear.ensures.items)
    (told_put g.D.Disk.told g.D.Renewal.drafted c.args.journal.now.disk c.put_body.new.journal.disk c.args.rewrite.now c.put_body.new.rewrite
    c.as_slice.result.now ps c.pieces_law.ensures.again (λ told bodies d. c.in-Ok.ensures.put told bodies d)
    (subst (λ b. 0 < length b) (sym e) c.requires)
    (subst (λ b. IsTold g.D.Disk.told g.D.Renewal.drafted c.args.journal.now.disk c.args.rewrite.now b ps) (sym e) h))
