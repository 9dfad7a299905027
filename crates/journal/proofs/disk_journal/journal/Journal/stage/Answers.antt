use Rattle.std.proofs.Common.{refl, ◌≡◌, ℕ, ◌<◌, ◌^◌, [], ◌∷◌, ◌++◌, List, Some, drop, length, false, sym, ◌∙◌, ap, subst, arith, length-append}
use Rattle.std.proofs.lemmas.List.{take-append-le}
use Rattle.std.specs.Result.{is_err}
use Rattle.spec_journal.specs.Forms.{form_entry, form_front, StandsFor}
use Rattle.spec_wire.specs.journal.Moments.{LeavesOnly}
use Rattle.journal.specs.disk_journal.Entry.{ClosedAt, StaysClosed, IsClosedBeforeOrBehind}
use Rattle.journal.specs.disk_journal.Journal.{JournalSettled, JournalWaits, BeforeOrAfter}
use Rattle.journal.proofs.disk_journal.Moments.{weakened}
use Rattle.journal.proofs.disk_journal.Grown.{all_fit_push, length-front-push, length-plain-push, ok_part, zero_shut}
use Rattle.journal.proofs.disk_journal.Waits.{none_more, one_waits, put_first, put_next, waits_at}
use Rattle.journal.proofs.disk_journal.journal.Journal.stage.Goals as goal

pub returns-then-is_err-clause-first_moment : goal.returns-then-is_err-clause-first_moment
returns-then-is_err-clause-first_moment g c = λ told bodies settled.
    let s = subst (λ j. JournalSettled g.D.Disk.seen g.D.Disk.may_leave j bodies) (sym c.self.view_is) settled in
    let ends : ClosedAt c.self.inside.gate (form_front c.self.inside.form bodies) s.gate s.rest (g.D.Disk.seen c.self.inside.disk) = record {
      file = s.file;
      place = omega (arith, s.end);
      closed = s.closed;
    } in
    let run = c.put_entry.ensures.first_moment told s.none_waits (form_front c.self.inside.form bodies) s.rest s.gate ends s.durable in
    let whole = weakened g.D.Disk.moment g.D.Disk.left_since c.self.inside.disk c.put_entry.new.disk
    (StaysClosed (form_front c.self.inside.form bodies)) (λ f. StandsFor f bodies)
    (λ f here. none_more c.self.inside.form bodies f s.fit here) run in
    subst (λ j. LeavesOnly g.D.Disk.moment g.D.Disk.left_since j.disk c.put_entry.new.disk (λ f. StandsFor f bodies)) c.self.view_is whole

pub returns-clause-first_moment : goal.returns-clause-first_moment
returns-clause-first_moment g c = λ told bodies settled.
    let s = subst (λ j. JournalSettled g.D.Disk.seen g.D.Disk.may_leave j bodies) (sym c.self.view_is) settled in
    let ends : ClosedAt c.self.inside.gate (form_front c.self.inside.form bodies) s.gate s.rest (g.D.Disk.seen c.self.inside.disk) = record {
      file = s.file;
      place = omega (arith, s.end);
      closed = s.closed;
    } in
    let run = c.put_entry.ensures.first_moment told s.none_waits (form_front c.self.inside.form bodies) s.rest s.gate ends s.durable in
    let whole = weakened g.D.Disk.moment g.D.Disk.left_since c.self.inside.disk c.put_entry.new.disk
    (StaysClosed (form_front c.self.inside.form bodies)) (λ f. StandsFor f bodies)
    (λ f here. none_more c.self.inside.form bodies f s.fit here) run in
    subst (λ j. LeavesOnly g.D.Disk.moment g.D.Disk.left_since j.disk c.put_entry.new.disk (λ f. StandsFor f bodies)) c.self.view_is whole

pub returns-then-is_err-clause-next_moment : goal.returns-then-is_err-clause-next_moment
returns-then-is_err-clause-next_moment g c = λ told bodies waiting waits.
    let w = subst (λ j. JournalWaits g.D.Disk.seen g.D.Disk.may_leave j bodies waiting) (sym c.self.view_is) waits in
    let at = waits_at g.D.Disk.seen g.D.Disk.may_leave _ bodies waiting c.self.inside.gate w refl in
    let run = c.put_entry.ensures.next_moment told (length (form_front c.self.inside.form bodies)) w.waits
    (form_front c.self.inside.form bodies) (form_entry c.self.inside.form waiting) w.rest w.gate w.last at w.durable in
    let whole = weakened g.D.Disk.moment g.D.Disk.left_since c.self.inside.disk c.put_entry.new.disk
    (IsClosedBeforeOrBehind (form_front c.self.inside.form bodies) (form_entry c.self.inside.form waiting)) (BeforeOrAfter bodies waiting)
    (λ f here. one_waits c.self.inside.form bodies waiting f w.fit w.small here) run in
    subst (λ j. LeavesOnly g.D.Disk.moment g.D.Disk.left_since j.disk c.put_entry.new.disk (BeforeOrAfter bodies waiting)) c.self.view_is whole

pub returns-clause-next_moment : goal.returns-clause-next_moment
returns-clause-next_moment g c = λ told bodies waiting waits.
    let w = subst (λ j. JournalWaits g.D.Disk.seen g.D.Disk.may_leave j bodies waiting) (sym c.self.view_is) waits in
    let at = waits_at g.D.Disk.seen g.D.Disk.may_leave _ bodies waiting c.self.inside.gate w refl in
    let run = c.put_entry.ensures.next_moment told (length (form_front c.self.inside.form bodies)) w.waits
    (form_front c.self.inside.form bodies) (form_entry c.self.inside.form waiting) w.rest w.gate w.last at w.durable in
    let whole = weakened g.D.Disk.moment g.D.Disk.left_since c.self.inside.disk c.put_entry.new.disk
    (IsClosedBeforeOrBehind (form_front c.self.inside.form bodies) (form_entry c.self.inside.form waiting)) (BeforeOrAfter bodies waiting)
    (λ f here. one_waits c.self.inside.form bodies waiting f w.fit w.small here) run in
    subst (λ j. LeavesOnly g.D.Disk.moment g.D.Disk.left_since j.disk c.put_entry.new.disk (BeforeOrAfter bodies waiting)) c.self.view_is whole

pub returns-clause-first : goal.returns-clause-first
returns-clause-first g c = λ told bodies settled.
    let s = subst (λ j. JournalSettled g.D.Disk.seen g.D.Disk.may_leave j bodies) (sym c.self.view_is) settled in
    let ends : ClosedAt c.self.inside.gate (form_front c.self.inside.form bodies) s.gate s.rest (g.D.Disk.seen c.self.inside.disk) = record {
      file = s.file;
      place = omega (arith, s.end);
      closed = s.closed;
    } in
    let behind : c.deref.result.now ≡ form_entry c.self.inside.form c.args.body.now ++ 0 ∷ [] = c.deref.ensures.value ∙ c.in_ok-fill.ensures.filled in
    let fine : is_err c.put_entry.result ≡ false = sym c.is_err.ensures.value ∙ c.if-is_err.false in
    let small : length c.args.body.now < 2 ^ 32 = omega (arith, c.in_ok-admit.ensures.bound) in
    let done = ok_part c.put_entry.result _ fine (c.put_entry.ensures.first told s.none_waits (form_front c.self.inside.form bodies) s.rest s.gate
    ends s.durable) in
    record {
      gate = s.gate;
      last = 0;
      rest = drop (length c.deref.result.now) s.rest;
      file = done.0 ∙ put_first (form_front c.self.inside.form bodies) (form_entry c.self.inside.form c.args.body.now) c.deref.result.now
          (drop (length c.deref.result.now) s.rest) s.gate behind;
      closed = s.closed;
      behind = zero_shut;
      end = omega (arith, s.end, c.sum_bytes.ensures, length-front-push c.self.inside.form bodies c.args.body.now);
      used = omega (arith, s.used, length-plain-push bodies c.args.body.now);
      count = omega (arith, s.count, length-append bodies (c.args.body.now ∷ []));
      fit = s.fit;
      small = small;
      some_taken = s.some_taken;
      next = s.next;
      waits = ap (λ (n : ℕ). Some n) (omega (arith, s.end));
      goes_on = s.goes_on;
      durable = done.1;
    }

pub returns-clause-next : goal.returns-clause-next
returns-clause-next g c = λ told bodies waiting waits.
    let w = subst (λ j. JournalWaits g.D.Disk.seen g.D.Disk.may_leave j bodies waiting) (sym c.self.view_is) waits in
    let at = waits_at g.D.Disk.seen g.D.Disk.may_leave _ bodies waiting c.self.inside.gate w refl in
    let behind : c.deref.result.now ≡ form_entry c.self.inside.form c.args.body.now ++ 0 ∷ [] = c.deref.ensures.value ∙ c.in_ok-fill.ensures.filled in
    let fine : is_err c.put_entry.result ≡ false = sym c.is_err.ensures.value ∙ c.if-is_err.false in
    let small : length c.args.body.now < 2 ^ 32 = omega (arith, c.in_ok-admit.ensures.bound) in
    let done = ok_part c.put_entry.result _ fine (c.put_entry.ensures.next told (length (form_front c.self.inside.form bodies)) w.waits
    (form_front c.self.inside.form bodies) (form_entry c.self.inside.form waiting) w.rest w.gate w.last at w.durable) in
    record {
      gate = w.last;
      last = 0;
      rest = drop (length c.deref.result.now) w.rest;
      file = done.0 ∙ put_next c.self.inside.form bodies waiting (form_entry c.self.inside.form c.args.body.now) c.deref.result.now
          (drop (length c.deref.result.now) w.rest) w.last behind;
      closed = w.behind;
      behind = zero_shut;
      end = omega (arith, w.end, c.sum_bytes.ensures, length-front-push c.self.inside.form (bodies ++ waiting ∷ []) c.args.body.now);
      used = omega (arith, w.used, length-plain-push (bodies ++ waiting ∷ []) c.args.body.now);
      count = omega (arith, w.count, length-append (bodies ++ waiting ∷ []) (c.args.body.now ∷ []));
      fit = all_fit_push bodies waiting w.fit w.small;
      small = small;
      some_taken = omega (arith, w.some_taken, length-append bodies (waiting ∷ []));
      next = w.next ∙ ap (λ (b : List (List ℕ)). length (form_front c.self.inside.form b))
          (sym (take-append-le c.self.inside.taken bodies (waiting ∷ []) w.some_taken));
      waits = ap (λ (n : ℕ). Some n) (omega (arith, w.end));
      goes_on = w.goes_on;
      durable = done.1;
    }
