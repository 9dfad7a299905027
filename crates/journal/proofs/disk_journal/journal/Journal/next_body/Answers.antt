use Rattle.std.proofs.Common.{[], take, drop, get_or, refl, sym, ◌∙◌, ap, subst, arith}
use Rattle.spec_journal.specs.Forms.{form_front}
use Rattle.journal.specs.disk_journal.Journal.{JournalSettled}
use Rattle.journal.proofs.disk_journal.Bodies.{ended, begun, handed, gives_none}
use Rattle.journal.proofs.disk_journal.journal.Journal.next_body.Goals as goal

pub returns-then-self-clause-in_order : goal.returns-then-self-clause-in_order
returns-then-self-clause-in_order g c = λ told bodies settled.
    let s = subst (λ j. JournalSettled g.D.Disk.seen g.D.Disk.may_leave j bodies) (sym c.self.view_is) settled in
    (ap (λ j. drop j.taken bodies) (sym c.self.view_is) ∙ ended g.D.Disk.seen g.D.Disk.may_leave bodies _ s (omega arith), settled)

pub returns-in-Ok-clause-in_order : goal.returns-in-Ok-clause-in_order
returns-in-Ok-clause-in_order g c = λ told bodies settled.
    let s = subst (λ j. JournalSettled g.D.Disk.seen g.D.Disk.may_leave j bodies) (sym c.self.view_is) settled in
    let e = begun g.D.Disk.seen g.D.Disk.may_leave bodies _ s c.self.inside.gate refl c.if-self.false in
    let is = c.in-Ok.ensures.body told (form_front c.self.inside.form (take c.self.inside.taken bodies)) (get_or bodies c.self.inside.taken []) _ e in
    let out = handed g.D.Disk.seen g.D.Disk.may_leave bodies _ _ c.in-Ok.body s (λ same. c.if-self.false (omega arith))
    is (c.read_body.ensures.quiet.same told) c.read_body.ensures.quiet.no_more refl refl refl refl refl refl refl
    (omega (arith, c.sum_bytes.ensures)) in
    (ap (λ j. drop j.taken bodies) (sym c.self.view_is) ∙ out.0, out.1)

pub returns-in-Err-EndsEarly-clause-in_order : goal.returns-in-Err-EndsEarly-clause-in_order
returns-in-Err-EndsEarly-clause-in_order g c = λ told bodies settled.
    let s = subst (λ j. JournalSettled g.D.Disk.seen g.D.Disk.may_leave j bodies) (sym c.self.view_is) settled in
    let e = begun g.D.Disk.seen g.D.Disk.may_leave bodies _ s c.self.inside.gate refl c.if-self.false in
    gives_none (get_or bodies c.self.inside.taken []) c.in-Err-EndsEarly.field-0 c.in-Err-EndsEarly.field-0-is
    (c.in-Err-EndsEarly.ensures.body told (form_front c.self.inside.form (take c.self.inside.taken bodies))
    (get_or bodies c.self.inside.taken []) _ e)
