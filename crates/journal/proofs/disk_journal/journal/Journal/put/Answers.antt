use Rattle.std.proofs.Common.{◌≡◌, ℕ, ◌<◌, ◌^◌, ◌++◌, List, length, refl, sym, ◌∙◌, ap, subst, arith}
use Rattle.base_outside.specs.declared.streams.failed.Failed.{Failed}
use Rattle.journal.specs.disk_journal.Journal.{JournalSettled}
use Rattle.journal.specs.disk_journal.Rewrite.{IsDrafted}
use Rattle.journal.proofs.disk_journal.Forward.{done_of}
use Rattle.journal.proofs.disk_journal.Rewritten.{one_put, stayed}
use Rattle.journal.proofs.disk_journal.journal.Journal.put.Goals as goal

pub returns-in-Ok-Done-clause-put : goal.returns-in-Ok-Done-clause-put
returns-in-Ok-Done-clause-put g c = λ told bodies drafted.
    let here = subst (λ j. IsDrafted g.D.Renewal.drafted j.disk c.args.rewrite.now bodies) (sym c.self.view_is) drafted in
    let d = subst (λ w. IsDrafted g.D.Renewal.drafted c.self.inside.disk w bodies) (sym c.rewrite.view_is) here in
    let small : length c.args.body.now < 2 ^ 32 = omega (arith, c.in_ok-admit.ensures.bound) in
    let put = done_of Failed c.in-Ok-Done.field-0 (g.D.Renewal.drafted c.put_quiet.new.disk ≡ g.D.Renewal.drafted c.self.inside.disk ++ c.deref.result.now)
    c.in-Ok-Done.field-0-is (c.in-Ok-Done.ensures.put told) ∙ ap (λ (l : List ℕ). g.D.Renewal.drafted c.self.inside.disk ++ l)
    (c.deref.ensures.value ∙ c.in_ok-fill_opened.ensures.filled) in
    one_put g.D.Renewal.drafted c.self.inside.disk c.put_quiet.new.disk _ _ bodies c.args.body.now d put refl small

pub returns-in-Ok-Done-clause-goes_on : goal.returns-in-Ok-Done-clause-goes_on
returns-in-Ok-Done-clause-goes_on g c = λ told bodies settled.
    let s = subst (λ j. JournalSettled g.D.Disk.seen g.D.Disk.may_leave j bodies) (sym c.self.view_is) settled in
    stayed g.D.Disk.told g.D.Disk.seen g.D.Disk.may_leave g.D.Disk.moment g.D.Disk.left_since g.D.Renewal.drafted _ _ bodies told s
    c.put_quiet.ensures.quiet refl

pub returns-in-Ok-NoRoom-clause-goes_on : goal.returns-in-Ok-NoRoom-clause-goes_on
returns-in-Ok-NoRoom-clause-goes_on g c = λ told bodies settled.
    let s = subst (λ j. JournalSettled g.D.Disk.seen g.D.Disk.may_leave j bodies) (sym c.self.view_is) settled in
    stayed g.D.Disk.told g.D.Disk.seen g.D.Disk.may_leave g.D.Disk.moment g.D.Disk.left_since g.D.Renewal.drafted _ _ bodies told s
    c.put_quiet.ensures.quiet refl
