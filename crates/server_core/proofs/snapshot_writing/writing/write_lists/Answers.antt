use Rattle.std.proofs.Common.{[], sym, subst}
use Rattle.server_core.specs.snapshot_writing.Told.{IsTold}
use Rattle.server_core.proofs.snapshot_writing.Lemmas.{goes_then}
use Rattle.server_core.proofs.snapshot_writing.WholeLemmas.{both_ok, kept_are, told_begun, whole_is}
use Rattle.server_core.proofs.snapshot_writing.writing.write_lists.Goals as goal

pub returns-in-Ok-clause-whole : goal.returns-in-Ok-clause-whole
returns-in-Ok-clause-whole g c = λ s fits files shows version order ids expired first few d.
    let begun = subst (λ b. IsTold g.D.Disk.told g.D.Renewal.drafted c.args.journal.now.disk c.args.rewrite.now b []) (sym c.new-body.ensures.items)
    (told_begun g.D.Disk.told g.D.Renewal.drafted c.args.journal.now.disk c.args.rewrite.now d) in
    let a = c.in-Ok.ensures.told s [] files shows version order (kept_are s c.args.ids.now ids) begun in
    both_ok c.put_rest.result _ _ _
    (λ t none. whole_is g.D.Disk.told g.D.Renewal.drafted c.put_rest.new.journal.disk c.put_rest.new.rewrite c.put_rest.new.body.items s c.args.order.now c.args.ids.now
    c.args.guids.now c.largest_law.ensures.size order ids expired first few (a.0, a.1, t) none)
    (c.put_rest.ensures.told _ a.2) c.put_rest.ensures.empty

pub returns-in-Ok-clause-goes : goal.returns-in-Ok-clause-goes
returns-in-Ok-clause-goes g c = goes_then g.D.Disk.told g.D.Disk.seen g.D.Disk.may_leave g.D.Disk.moment g.D.Disk.left_since g.D.Disk.faults _ _ _ tt _ c.in-Ok.ensures.goes c.put_rest.ensures.goes
