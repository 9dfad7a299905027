use Rattle.std.proofs.Common.{◌++◌, ◌∷◌, [], refl, sym, ap, subst, ◌∙◌}
use Rattle.spec_exchange.specs.State as model
use Rattle.law_snapshots.specs.snapshots.Pieces.{OpenPiece, slot_pieces}
use Rattle.server_core.specs.snapshot_writing.Told.{IsTold}
use Rattle.server_core.proofs.snapshot_writing.Lemmas.{goes_given_up, goes_then}
use Rattle.server_core.proofs.snapshot_writing.FileLemmas.{on_ok}
use Rattle.server_core.proofs.snapshot_writing.OpenLemmas.{told_joined, opened_so}
use Rattle.server_core.proofs.snapshot_writing.opens.tell_one.Goals as goal

pub returns-in_default-clause-goes : goal.returns-in_default-clause-goes
returns-in_default-clause-goes g c = goes_given_up g.D.Disk.told g.D.Disk.seen g.D.Disk.may_leave g.D.Disk.moment g.D.Disk.left_since g.D.Disk.faults g.met.D.Disk.only_now c.args.journal.now

pub returns-in-Ok-clause-told : goal.returns-in-Ok-clause-told
returns-in-Ok-clause-told g c = λ s ps shows p h.
    let found = c.in-Some.ensures s shows in
    let o = opened_so c.in-Some.row.now s c.args.id found in
    on_ok c.tell_slots.result _ _
    (λ k. told_joined g.D.Disk.told g.D.Renewal.drafted c.tell_slots.new.journal.disk c.tell_slots.new.rewrite c.tell_slots.new.body.items ps
    (OpenPiece c.args.id (s.opened c.args.id) ∷ []) (slot_pieces (s.lock_sequences c.args.id) c.args.id 64) _ refl k)
    (c.tell_slots.ensures.told (s.lock_sequences c.args.id) _ found.1.slots_are
    (subst (λ (x : model.Open). IsTold g.D.Disk.told g.D.Renewal.drafted c.tell_row.new.journal.disk c.tell_row.new.rewrite c.tell_row.new.body.items
    (ps ++ OpenPiece c.args.id x ∷ [])) (sym o)
    (c.in-Ok.ensures.told ps (sym (ap (λ (x : model.Open). x.persistent) o) ∙ p) h)))

pub returns-in-Ok-clause-goes : goal.returns-in-Ok-clause-goes
returns-in-Ok-clause-goes g c = goes_then g.D.Disk.told g.D.Disk.seen g.D.Disk.may_leave g.D.Disk.moment g.D.Disk.left_since g.D.Disk.faults _ _ _ tt _ c.in-Ok.ensures.goes c.tell_slots.ensures.goes
