use Rattle.std.proofs.Common.{◌++◌, ◌∷◌, [], refl, subst}
use Rattle.spec_exchange.specs.State as model
use Rattle.law_snapshots.specs.snapshots.Pieces.{OpenPiece}
use Rattle.server_core.specs.snapshot_writing.Told.{IsTold}
use Rattle.server_core.proofs.snapshot_writing.Lemmas.{goes_given_up}
use Rattle.server_core.proofs.snapshot_writing.FileLemmas.{on_ok}
use Rattle.server_core.proofs.snapshot_writing.OpenLemmas.{row_is}
use Rattle.server_core.proofs.snapshot_writing.opens.tell_row.Goals as goal

pub returns-in_default-clause-goes : goal.returns-in_default-clause-goes
returns-in_default-clause-goes g c = goes_given_up g.D.Disk.told g.D.Disk.seen g.D.Disk.may_leave g.D.Disk.moment g.D.Disk.left_since g.D.Disk.faults g.met.D.Disk.only_now c.args.journal.now

pub returns-then-not-is_short-clause-goes : goal.returns-then-not-is_short-clause-goes
returns-then-not-is_short-clause-goes g c = goes_given_up g.D.Disk.told g.D.Disk.seen g.D.Disk.may_leave g.D.Disk.moment g.D.Disk.left_since g.D.Disk.faults g.met.D.Disk.only_now c.args.journal.now

pub returns-clause-told : goal.returns-clause-told
returns-clause-told g c = λ ps p h. on_ok c.tell_open.result _ _
    (subst (λ (x : model.Open). IsTold g.D.Disk.told g.D.Renewal.drafted c.tell_open.new.journal.disk c.tell_open.new.rewrite c.tell_open.new.body.items
    (ps ++ OpenPiece c.args.id x ∷ [])) (row_is c.args.row.now c.in-Some.guid _ p c.in-Some.is refl))
    (c.tell_open.ensures.told ps h)
