use Rattle.std.proofs.Common.{◌++◌, ◌∷◌, [], subst}
use Rattle.server_core.specs.snapshot_writing.Told.{IsTold}
use Rattle.server_core.proofs.snapshot_writing.FileLemmas.{on_ok}
use Rattle.server_core.proofs.snapshot_writing.WholeLemmas.{base_is, root_there}
use Rattle.server_core.proofs.snapshot_writing.writing.tell_numbers.Goals as goal

pub returns-clause-told : goal.returns-clause-told
returns-clause-told g c = λ s ps files shows version h. on_ok c.tell_base.result _ _
    (subst (λ p. IsTold g.D.Disk.told g.D.Renewal.drafted c.tell_base.new.journal.disk c.tell_base.new.rewrite c.tell_base.new.body.items (ps ++ p ∷ []))
    (base_is s c.args.version c.epoch-epoch.result c.given-given.result c.next_file-next.result c.info-info.result version
    (c.epoch-epoch.ensures s shows) (c.given-given.ensures s shows) (c.next_file-next.ensures.shown s files)
    (c.info-info.ensures s files (root_there s))))
    (c.tell_base.ensures.told ps h)
