use Rattle.std.proofs.Common.{refl, ℕ, List, ◌∷◌, ◌++◌, sym, ◌∙◌, subst, append_assoc}
use Rattle.spec_journal.specs.Forms.{form_entry, form_front, StandsFor}
use Rattle.spec_wire.specs.journal.Moments.{LeavesOnly}
use Rattle.journal.specs.disk_journal.Entry.{StaysClosed}
use Rattle.journal.specs.disk_journal.Journal.{JournalWaits}
use Rattle.journal.proofs.disk_journal.Moments.{weakened}
use Rattle.journal.proofs.disk_journal.Waits.{closed_last, waits_still}
use Rattle.journal.proofs.disk_journal.journal.Journal.take_ahead.Goals as goal

pub returns-in-Ok-clause-waits_moment : goal.returns-in-Ok-clause-waits_moment
returns-in-Ok-clause-waits_moment g c = λ told bodies waiting waits.
    let w = subst (λ j. JournalWaits g.D.Disk.seen g.D.Disk.may_leave j bodies waiting) (sym c.self.view_is) waits in
    let at = closed_last g.D.Disk.seen g.D.Disk.may_leave _ bodies waiting c.self.inside.gate w refl in
    let front : List ℕ = form_front c.self.inside.form bodies ++ w.gate ∷ form_entry c.self.inside.form waiting in
    let run = c.fill_ahead.ensures.any_moment told front w.rest w.last at w.durable in
    let whole = weakened g.D.Disk.moment g.D.Disk.left_since c.self.inside.disk c.fill_ahead.new.disk (StaysClosed front)
    (λ f. StandsFor f bodies) (λ f here. waits_still c.self.inside.form bodies waiting f w.gate w.fit w.closed here) run in
    subst (λ j. LeavesOnly g.D.Disk.moment g.D.Disk.left_since j.disk c.fill_ahead.new.disk (λ f. StandsFor f bodies)) c.self.view_is whole

pub returns-in-Err-clause-waits_moment : goal.returns-in-Err-clause-waits_moment
returns-in-Err-clause-waits_moment g c = λ told bodies waiting waits.
    let w = subst (λ j. JournalWaits g.D.Disk.seen g.D.Disk.may_leave j bodies waiting) (sym c.self.view_is) waits in
    let at = closed_last g.D.Disk.seen g.D.Disk.may_leave _ bodies waiting c.self.inside.gate w refl in
    let front : List ℕ = form_front c.self.inside.form bodies ++ w.gate ∷ form_entry c.self.inside.form waiting in
    let run = c.fill_ahead.ensures.any_moment told front w.rest w.last at w.durable in
    let whole = weakened g.D.Disk.moment g.D.Disk.left_since c.self.inside.disk c.fill_ahead.new.disk (StaysClosed front)
    (λ f. StandsFor f bodies) (λ f here. waits_still c.self.inside.form bodies waiting f w.gate w.fit w.closed here) run in
    subst (λ j. LeavesOnly g.D.Disk.moment g.D.Disk.left_since j.disk c.fill_ahead.new.disk (λ f. StandsFor f bodies)) c.self.view_is whole

pub returns-in-Ok-clause-waits : goal.returns-in-Ok-clause-waits
returns-in-Ok-clause-waits g c = λ told bodies waiting waits.
    let w = subst (λ j. JournalWaits g.D.Disk.seen g.D.Disk.may_leave j bodies waiting) (sym c.self.view_is) waits in
    let at = closed_last g.D.Disk.seen g.D.Disk.may_leave _ bodies waiting c.self.inside.gate w refl in
    let entry : List ℕ = form_entry c.self.inside.form waiting in
    let done = c.in-Ok.ensures.done told (form_front c.self.inside.form bodies ++ w.gate ∷ entry) w.rest w.last at w.durable in
    record {
      gate = w.gate;
      last = w.last;
      rest = done.0;
      file = done.1 ∙ append_assoc (form_front c.self.inside.form bodies) (w.gate ∷ entry) (w.last ∷ done.0);
      closed = w.closed;
      behind = w.behind;
      end = w.end;
      used = w.used;
      count = w.count;
      fit = w.fit;
      small = w.small;
      some_taken = w.some_taken;
      next = w.next;
      waits = w.waits;
      goes_on = w.goes_on;
      durable = done.2;
    }
