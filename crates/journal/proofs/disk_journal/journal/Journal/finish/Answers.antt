use Rattle.std.proofs.Common.{◌≡◌, ◌⊎◌, [], ◌∷◌, ◌++◌, refl, sym, ap, subst}
use Rattle.base_outside.specs.declared.streams.failed.Failed.{Failed}
use Rattle.base_outside.specs.streams.Disk.{Only}
use Rattle.spec_wire.specs.journal.Moments.{LeavesOnly, Quiet}
use Rattle.spec_journal.specs.Forms.{StandsFor}
use Rattle.journal.specs.disk_journal.Journal.{JournalSettled, JournalState}
use Rattle.journal.specs.disk_journal.Rewrite.{IsDrafted}
use Rattle.journal.proofs.disk_journal.Forward.{done_of, no_room_of}
use Rattle.journal.proofs.disk_journal.Rewritten.{stayed, replaced, either_stands}
use Rattle.journal.proofs.disk_journal.journal.Journal.finish.Goals as goal

pub returns-in-Ok-Done-clause-adopted : goal.returns-in-Ok-Done-clause-adopted
returns-in-Ok-Done-clause-adopted g c = λ told put drafted.
    let d = subst (λ j. IsDrafted g.D.Renewal.drafted j.disk c.args.rewrite.now put) (sym c.self.view_is) drafted in
    let done = done_of Failed c.in-Ok-Done.field-0 ((g.D.Disk.seen c.close_and_adopt.new.disk ≡ g.D.Renewal.drafted c.self.inside.disk ++ 0 ∷ [])
    × Only (g.D.Disk.seen c.close_and_adopt.new.disk) (g.D.Disk.may_leave c.close_and_adopt.new.disk)) c.in-Ok-Done.field-0-is
    (c.in-Ok-Done.ensures.adopted told) in
    replaced g.D.Disk.told g.D.Disk.seen g.D.Disk.may_leave g.D.Disk.moment g.D.Disk.left_since g.D.Renewal.drafted c.self.inside.disk
    c.close_and_adopt.new.disk _ c.args.rewrite.now put _ d done.0 done.1 c.go_on_with.ensures

pub returns-in-Ok-NoRoom-clause-goes_on : goal.returns-in-Ok-NoRoom-clause-goes_on
returns-in-Ok-NoRoom-clause-goes_on g c = λ told bodies settled.
    let s = subst (λ j. JournalSettled g.D.Disk.seen g.D.Disk.may_leave j bodies) (sym c.self.view_is) settled in
    stayed g.D.Disk.told g.D.Disk.seen g.D.Disk.may_leave g.D.Disk.moment g.D.Disk.left_since g.D.Renewal.drafted _ _ bodies told s
    (no_room_of Failed c.in-Ok-NoRoom.field-0 (Quiet g.D.Disk.told g.D.Disk.seen g.D.Disk.may_leave g.D.Disk.moment g.D.Disk.left_since
    c.self.inside.disk c.close_and_adopt.new.disk) c.in-Ok-NoRoom.field-0-is c.in-Ok-NoRoom.ensures.given_up) refl

pub returns-in-Ok-Done-clause-any_moment : goal.returns-in-Ok-Done-clause-any_moment
returns-in-Ok-Done-clause-any_moment g c = λ told bodies put settled drafted.
    let s = subst (λ j. JournalSettled g.D.Disk.seen g.D.Disk.may_leave j bodies) (sym c.self.view_is) settled in
    let d = subst (λ j. IsDrafted g.D.Renewal.drafted j.disk c.args.rewrite.now put) (sym c.self.view_is) drafted in
    let whole = subst (λ j. LeavesOnly g.D.Disk.moment g.D.Disk.left_since j.disk c.close_and_adopt.new.disk (λ f. StandsFor f bodies ⊎ StandsFor f put))
    c.self.view_is (either_stands g.D.Disk.told g.D.Disk.seen g.D.Disk.may_leave g.D.Disk.moment g.D.Disk.left_since g.D.Renewal.drafted
    _ c.close_and_adopt.new.disk c.args.rewrite.now bodies put s d (c.close_and_adopt.ensures.any_moment told)) in
    subst (λ d. LeavesOnly g.D.Disk.moment g.D.Disk.left_since c.args.self.now.disk d (λ f. StandsFor f bodies ⊎ StandsFor f put))
    (sym (ap (λ (j : JournalState g.row.D.Denot). j.disk) c.go_on_with.ensures)) whole

pub returns-in-Ok-Done-clause-stays : goal.returns-in-Ok-Done-clause-stays
returns-in-Ok-Done-clause-stays g c = λ told bodies put settled drafted.
    let run = returns-in-Ok-Done-clause-any_moment g c told bodies put settled drafted in
    run.each (g.D.Disk.seen c.go_on_with.new.self.disk) (g.met.D.Disk.counts_now c.go_on_with.new.self.disk _
    (g.D.Disk.seen c.go_on_with.new.self.disk) run.later (g.met.D.Disk.seen_may_stay c.go_on_with.new.self.disk told))

pub returns-in-Err-clause-any_moment : goal.returns-in-Err-clause-any_moment
returns-in-Err-clause-any_moment g c = λ told bodies put settled drafted.
    let s = subst (λ j. JournalSettled g.D.Disk.seen g.D.Disk.may_leave j bodies) (sym c.self.view_is) settled in
    let d = subst (λ j. IsDrafted g.D.Renewal.drafted j.disk c.args.rewrite.now put) (sym c.self.view_is) drafted in
    subst (λ j. LeavesOnly g.D.Disk.moment g.D.Disk.left_since j.disk c.close_and_adopt.new.disk (λ f. StandsFor f bodies ⊎ StandsFor f put))
    c.self.view_is (either_stands g.D.Disk.told g.D.Disk.seen g.D.Disk.may_leave g.D.Disk.moment g.D.Disk.left_since g.D.Renewal.drafted
    _ c.close_and_adopt.new.disk c.args.rewrite.now bodies put s d (c.close_and_adopt.ensures.any_moment told))

pub returns-in-Err-clause-stays : goal.returns-in-Err-clause-stays
returns-in-Err-clause-stays g c = λ told bodies put settled drafted.
    let run = returns-in-Err-clause-any_moment g c told bodies put settled drafted in
    run.each (g.D.Disk.seen c.close_and_adopt.new.disk) (g.met.D.Disk.counts_now c.close_and_adopt.new.disk _
    (g.D.Disk.seen c.close_and_adopt.new.disk) run.later (g.met.D.Disk.seen_may_stay c.close_and_adopt.new.disk told))
