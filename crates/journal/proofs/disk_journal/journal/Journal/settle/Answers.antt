use Rattle.std.proofs.Common.{refl, ◌≡◌, ℕ, [], ◌∷◌, ◌++◌, List, length, false, true, sym, ◌∙◌, ap, subst, arith, length-append}
use Rattle.std.proofs.lemmas.List.{take-append-le}
use Rattle.std.specs.Result.{is_err}
use Rattle.spec_journal.specs.Forms.{form_entry, form_front}
use Rattle.spec_wire.specs.journal.Moments.{LeavesOnly}
use Rattle.journal.specs.disk_journal.Entry.{IsClosedOrOpened}
use Rattle.journal.specs.disk_journal.Journal.{JournalWaits, BeforeOrAfter}
use Rattle.journal.proofs.disk_journal.Moments.{weakened}
use Rattle.journal.proofs.disk_journal.Grown.{all_fit_push, either, no_err, ok_part, pushed}
use Rattle.journal.proofs.disk_journal.Waits.{closed_first}
use Rattle.journal.proofs.disk_journal.journal.Journal.settle.Goals as goal

pub returns-then-is_err-clause-any_moment : goal.returns-then-is_err-clause-any_moment
returns-then-is_err-clause-any_moment g c = λ told bodies waiting waits.
    let w = subst (λ j. JournalWaits g.D.Disk.seen g.D.Disk.may_leave j bodies waiting) (sym c.self.view_is) waits in
    let at = closed_first g.D.Disk.seen g.D.Disk.may_leave _ bodies waiting w in
    let run = c.open_waiting.ensures.any_moment told (length (form_front c.self.inside.form bodies)) w.waits
    (form_front c.self.inside.form bodies) (form_entry c.self.inside.form waiting ++ w.last ∷ []) w.rest w.gate at w.durable in
    let whole = weakened g.D.Disk.moment g.D.Disk.left_since c.self.inside.disk c.open_waiting.new.disk
    (IsClosedOrOpened (form_front c.self.inside.form bodies) (form_entry c.self.inside.form waiting ++ w.last ∷ [])) (BeforeOrAfter bodies waiting)
    (λ f here. either c.self.inside.form bodies waiting f w.last w.behind w.fit w.small here) run in
    subst (λ j. LeavesOnly g.D.Disk.moment g.D.Disk.left_since j.disk c.open_waiting.new.disk (BeforeOrAfter bodies waiting)) c.self.view_is whole

pub returns-clause-any_moment : goal.returns-clause-any_moment
returns-clause-any_moment g c = λ told bodies waiting waits.
    let w = subst (λ j. JournalWaits g.D.Disk.seen g.D.Disk.may_leave j bodies waiting) (sym c.self.view_is) waits in
    let at = closed_first g.D.Disk.seen g.D.Disk.may_leave _ bodies waiting w in
    let run = c.open_waiting.ensures.any_moment told (length (form_front c.self.inside.form bodies)) w.waits
    (form_front c.self.inside.form bodies) (form_entry c.self.inside.form waiting ++ w.last ∷ []) w.rest w.gate at w.durable in
    let whole = weakened g.D.Disk.moment g.D.Disk.left_since c.self.inside.disk c.open_waiting.new.disk
    (IsClosedOrOpened (form_front c.self.inside.form bodies) (form_entry c.self.inside.form waiting ++ w.last ∷ [])) (BeforeOrAfter bodies waiting)
    (λ f here. either c.self.inside.form bodies waiting f w.last w.behind w.fit w.small here) run in
    subst (λ j. LeavesOnly g.D.Disk.moment g.D.Disk.left_since j.disk c.open_waiting.new.disk (BeforeOrAfter bodies waiting)) c.self.view_is whole

pub returns-clause-settled : goal.returns-clause-settled
returns-clause-settled g c = λ told bodies waiting waits.
    let w = subst (λ j. JournalWaits g.D.Disk.seen g.D.Disk.may_leave j bodies waiting) (sym c.self.view_is) waits in
    let at = closed_first g.D.Disk.seen g.D.Disk.may_leave _ bodies waiting w in
    let fine : is_err c.open_waiting.result ≡ false = sym c.is_err.ensures.value ∙ c.if-is_err.false in
    let done = ok_part c.open_waiting.result _ fine (c.open_waiting.ensures.done told (length (form_front c.self.inside.form bodies)) w.waits
    (form_front c.self.inside.form bodies) (form_entry c.self.inside.form waiting ++ w.last ∷ []) w.rest w.gate at w.durable) in
    record {
      gate = w.last;
      rest = w.rest;
      file = done.0 ∙ pushed c.self.inside.form bodies waiting w.rest w.last;
      closed = w.behind;
      end = w.end;
      used = w.used;
      count = w.count;
      fit = all_fit_push bodies waiting w.fit w.small;
      some_taken = omega (arith, w.some_taken, length-append bodies (waiting ∷ []));
      next = w.next ∙ ap (λ (b : List (List ℕ)). length (form_front c.self.inside.form b))
          (sym (take-append-le c.self.inside.taken bodies (waiting ∷ []) w.some_taken));
      none_waits = refl;
      goes_on = w.goes_on;
      durable = done.1;
    }

pub returns-then-is_err-clause-none : goal.returns-then-is_err-clause-none
returns-then-is_err-clause-none g c = λ none.
    let failed : is_err c.open_waiting.result ≡ true = sym c.is_err.ensures.value ∙ c.if-is_err.true in
    absurd (no_err c.open_waiting.result failed (c.open_waiting.ensures.never_fails (ap (λ j. j.waits) c.self.view_is ∙ none)))
