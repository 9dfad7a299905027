use Rattle.std.proofs.Common.{◌≡◌, refl, sym, subst}
use Rattle.base_outside.specs.declared.streams.failed.Failed.{Failed}
use Rattle.spec_journal.specs.Forms.{form_mark}
use Rattle.spec_journal.specs.declared.form.Form.TheVariants.{Summed}
use Rattle.journal.specs.disk_journal.Journal.{JournalSettled}
use Rattle.journal.proofs.disk_journal.Forward.{done_of}
use Rattle.journal.proofs.disk_journal.Rewritten.{none_put, stayed}
use Rattle.journal.proofs.disk_journal.journal.Journal.begin_rewrite.Goals as goal

pub returns-in-Ok-Done-clause-begun : goal.returns-in-Ok-Done-clause-begun
returns-in-Ok-Done-clause-begun g c = λ told.
    none_put g.D.Renewal.drafted c.begin_marked.new.disk _ (done_of Failed c.in-Ok-Done.field-0
    (g.D.Renewal.drafted c.begin_marked.new.disk ≡ form_mark Summed) c.in-Ok-Done.field-0-is (c.in-Ok-Done.ensures.begun told)) c.new.ensures

pub returns-in-Ok-Done-clause-goes_on : goal.returns-in-Ok-Done-clause-goes_on
returns-in-Ok-Done-clause-goes_on g c = λ told bodies settled.
    let s = subst (λ j. JournalSettled g.D.Disk.seen g.D.Disk.may_leave j bodies) (sym c.self.view_is) settled in
    stayed g.D.Disk.told g.D.Disk.seen g.D.Disk.may_leave g.D.Disk.moment g.D.Disk.left_since g.D.Renewal.drafted _ _ bodies told s
    c.begin_marked.ensures.quiet refl

pub returns-in-Ok-NoRoom-clause-goes_on : goal.returns-in-Ok-NoRoom-clause-goes_on
returns-in-Ok-NoRoom-clause-goes_on g c = λ told bodies settled.
    let s = subst (λ j. JournalSettled g.D.Disk.seen g.D.Disk.may_leave j bodies) (sym c.self.view_is) settled in
    stayed g.D.Disk.told g.D.Disk.seen g.D.Disk.may_leave g.D.Disk.moment g.D.Disk.left_since g.D.Renewal.drafted _ _ bodies told s
    c.begin_marked.ensures.quiet refl
