use Rattle.std.proofs.Common.{refl, ◌≡◌, ◌⊎◌, ℕ, ◌<◌, ◌^◌, [], ◌∷◌, ◌++◌, List, drop, length, false, sym, ◌∙◌, ap, subst, arith, length-append}
use Rattle.std.proofs.lemmas.List.{take-append-le}
use Rattle.std.specs.Result.{is_err}
use Rattle.spec_journal.specs.Forms.{form_entry, form_front, StandsFor}
use Rattle.spec_wire.specs.journal.Moments.{LeavesOnly}
use Rattle.journal.specs.disk_journal.Entry.{ClosedAt, IsClosedOrOpened, IsClosedOrNextOpened}
use Rattle.journal.specs.disk_journal.Journal.{JournalSettled, JournalWaits, BeforeOrAfter}
use Rattle.journal.proofs.disk_journal.Moments.{weakened}
use Rattle.journal.proofs.disk_journal.Grown.{all_fit_push, length-front-push, length-plain-push, pushed, either, ok_part, zero_shut}
use Rattle.journal.proofs.disk_journal.Waits.{one_more, put_more, waits_at}
use Rattle.journal.proofs.disk_journal.journal.Journal.append.Goals as goal

pub returns-then-is_err-clause-any_moment : goal.returns-then-is_err-clause-any_moment
returns-then-is_err-clause-any_moment g c = λ told bodies settled.
    let s = subst (λ j. JournalSettled g.D.Disk.seen g.D.Disk.may_leave j bodies) (sym c.self.view_is) settled in
    let ends : ClosedAt c.self.inside.gate (form_front c.self.inside.form bodies) s.gate s.rest (g.D.Disk.seen c.self.inside.disk) = record {
      file = s.file;
      place = omega (arith, s.end);
      closed = s.closed;
    } in
    let behind : c.deref.result.now ≡ form_entry c.self.inside.form c.args.body.now ++ 0 ∷ [] = c.deref.ensures.value ∙ c.in_ok-fill.ensures.filled in
    let small : length c.args.body.now < 2 ^ 32 = omega (arith, c.in_ok-admit.ensures.bound) in
    let run = c.add_entry.ensures.any_moment told s.none_waits (form_front c.self.inside.form bodies) s.rest s.gate ends s.durable in
    let whole = weakened g.D.Disk.moment g.D.Disk.left_since c.self.inside.disk c.add_entry.new.disk
    (IsClosedOrOpened (form_front c.self.inside.form bodies) c.deref.result.now) (BeforeOrAfter bodies c.args.body.now)
    (λ f here. either c.self.inside.form bodies c.args.body.now f 0 zero_shut s.fit small
    (subst (λ l. IsClosedOrOpened (form_front c.self.inside.form bodies) l f) behind
    here)) run in
    subst (λ j. LeavesOnly g.D.Disk.moment g.D.Disk.left_since j.disk c.add_entry.new.disk
    (BeforeOrAfter bodies c.args.body.now)) c.self.view_is whole

pub returns-clause-any_moment : goal.returns-clause-any_moment
returns-clause-any_moment g c = λ told bodies settled.
    let s = subst (λ j. JournalSettled g.D.Disk.seen g.D.Disk.may_leave j bodies) (sym c.self.view_is) settled in
    let ends : ClosedAt c.self.inside.gate (form_front c.self.inside.form bodies) s.gate s.rest (g.D.Disk.seen c.self.inside.disk) = record {
      file = s.file;
      place = omega (arith, s.end);
      closed = s.closed;
    } in
    let behind : c.deref.result.now ≡ form_entry c.self.inside.form c.args.body.now ++ 0 ∷ [] = c.deref.ensures.value ∙ c.in_ok-fill.ensures.filled in
    let small : length c.args.body.now < 2 ^ 32 = omega (arith, c.in_ok-admit.ensures.bound) in
    let run = c.add_entry.ensures.any_moment told s.none_waits (form_front c.self.inside.form bodies) s.rest s.gate ends s.durable in
    let whole = weakened g.D.Disk.moment g.D.Disk.left_since c.self.inside.disk c.add_entry.new.disk
    (IsClosedOrOpened (form_front c.self.inside.form bodies) c.deref.result.now) (BeforeOrAfter bodies c.args.body.now)
    (λ f here. either c.self.inside.form bodies c.args.body.now f 0 zero_shut s.fit small
    (subst (λ l. IsClosedOrOpened (form_front c.self.inside.form bodies) l f) behind
    here)) run in
    subst (λ j. LeavesOnly g.D.Disk.moment g.D.Disk.left_since j.disk c.add_entry.new.disk
    (BeforeOrAfter bodies c.args.body.now)) c.self.view_is whole

pub returns-clause-acknowledged : goal.returns-clause-acknowledged
returns-clause-acknowledged g c = λ told bodies settled.
    let s = subst (λ j. JournalSettled g.D.Disk.seen g.D.Disk.may_leave j bodies) (sym c.self.view_is) settled in
    let ends : ClosedAt c.self.inside.gate (form_front c.self.inside.form bodies) s.gate s.rest (g.D.Disk.seen c.self.inside.disk) = record {
      file = s.file;
      place = omega (arith, s.end);
      closed = s.closed;
    } in
    let behind : c.deref.result.now ≡ form_entry c.self.inside.form c.args.body.now ++ 0 ∷ [] = c.deref.ensures.value ∙ c.in_ok-fill.ensures.filled in
    let fine : is_err c.add_entry.result ≡ false = sym c.is_err.ensures.value ∙ c.if-is_err.false in
    let small : length c.args.body.now < 2 ^ 32 = omega (arith, c.in_ok-admit.ensures.bound) in
    let done = ok_part c.add_entry.result _ fine (c.add_entry.ensures.done told s.none_waits (form_front c.self.inside.form bodies) s.rest s.gate ends s.durable) in (
      s.count,
      record {
        gate = 0;
        rest = drop (length c.deref.result.now) s.rest;
        file = done.0 ∙ ap (λ (l : List ℕ). form_front c.self.inside.form bodies ++ 1 ∷ (l ++ drop (length c.deref.result.now) s.rest)) behind
            ∙ pushed c.self.inside.form bodies c.args.body.now (drop (length c.deref.result.now) s.rest) 0;
        closed = omega arith;
        end = omega (arith, s.end, c.sum_bytes.ensures, length-front-push c.self.inside.form bodies c.args.body.now);
        used = omega (arith, s.used, length-plain-push bodies c.args.body.now);
        count = omega (arith, s.count, length-append bodies (c.args.body.now ∷ []));
        fit = all_fit_push bodies c.args.body.now s.fit small;
        some_taken = omega (arith, s.some_taken, length-append bodies (c.args.body.now ∷ []));
        next = s.next ∙ ap (λ (b : List (List ℕ)). length (form_front c.self.inside.form b))
            (sym (take-append-le c.self.inside.taken bodies (c.args.body.now ∷ []) s.some_taken));
        none_waits = refl;
        goes_on = s.goes_on;
        durable = done.1;
      },
    )

pub returns-then-is_err-clause-stays : goal.returns-then-is_err-clause-stays
returns-then-is_err-clause-stays g c = λ told bodies settled.
    let run = returns-then-is_err-clause-any_moment g c told bodies settled in
    run.each (g.D.Disk.seen c.add_entry.new.disk) (g.met.D.Disk.counts_now c.add_entry.new.disk _
    (g.D.Disk.seen c.add_entry.new.disk) run.later (g.met.D.Disk.seen_may_stay c.add_entry.new.disk told))

pub returns-clause-stays : goal.returns-clause-stays
returns-clause-stays g c = λ told bodies settled.
    let run = returns-clause-any_moment g c told bodies settled in
    run.each (g.D.Disk.seen c.add_entry.new.disk) (g.met.D.Disk.counts_now c.add_entry.new.disk _
    (g.D.Disk.seen c.add_entry.new.disk) run.later (g.met.D.Disk.seen_may_stay c.add_entry.new.disk told))

pub returns-then-is_err-clause-next_moment : goal.returns-then-is_err-clause-next_moment
returns-then-is_err-clause-next_moment g c = λ told bodies waiting waits.
    let w = subst (λ j. JournalWaits g.D.Disk.seen g.D.Disk.may_leave j bodies waiting) (sym c.self.view_is) waits in
    let at = waits_at g.D.Disk.seen g.D.Disk.may_leave _ bodies waiting c.self.inside.gate w refl in
    let behind : c.deref.result.now ≡ form_entry c.self.inside.form c.args.body.now ++ 0 ∷ [] = c.deref.ensures.value ∙ c.in_ok-fill.ensures.filled in
    let small : length c.args.body.now < 2 ^ 32 = omega (arith, c.in_ok-admit.ensures.bound) in
    let run = c.add_entry.ensures.next_moment told (length (form_front c.self.inside.form bodies)) w.waits
    (form_front c.self.inside.form bodies) (form_entry c.self.inside.form waiting) w.rest w.gate w.last at w.durable in
    let whole = weakened g.D.Disk.moment g.D.Disk.left_since c.self.inside.disk c.add_entry.new.disk
    (IsClosedOrNextOpened (form_front c.self.inside.form bodies) (form_entry c.self.inside.form waiting) c.deref.result.now)
    (λ f. StandsFor f bodies ⊎ BeforeOrAfter (bodies ++ waiting ∷ []) c.args.body.now f)
    (λ f here. one_more c.self.inside.form bodies waiting c.args.body.now f w.fit w.small small
    (subst (λ l. IsClosedOrNextOpened (form_front c.self.inside.form bodies) (form_entry c.self.inside.form waiting) l f) behind here)) run in
    subst (λ j. LeavesOnly g.D.Disk.moment g.D.Disk.left_since j.disk c.add_entry.new.disk
    (λ f. StandsFor f bodies ⊎ BeforeOrAfter (bodies ++ waiting ∷ []) c.args.body.now f)) c.self.view_is whole

pub returns-clause-next_moment : goal.returns-clause-next_moment
returns-clause-next_moment g c = λ told bodies waiting waits.
    let w = subst (λ j. JournalWaits g.D.Disk.seen g.D.Disk.may_leave j bodies waiting) (sym c.self.view_is) waits in
    let at = waits_at g.D.Disk.seen g.D.Disk.may_leave _ bodies waiting c.self.inside.gate w refl in
    let behind : c.deref.result.now ≡ form_entry c.self.inside.form c.args.body.now ++ 0 ∷ [] = c.deref.ensures.value ∙ c.in_ok-fill.ensures.filled in
    let small : length c.args.body.now < 2 ^ 32 = omega (arith, c.in_ok-admit.ensures.bound) in
    let run = c.add_entry.ensures.next_moment told (length (form_front c.self.inside.form bodies)) w.waits
    (form_front c.self.inside.form bodies) (form_entry c.self.inside.form waiting) w.rest w.gate w.last at w.durable in
    let whole = weakened g.D.Disk.moment g.D.Disk.left_since c.self.inside.disk c.add_entry.new.disk
    (IsClosedOrNextOpened (form_front c.self.inside.form bodies) (form_entry c.self.inside.form waiting) c.deref.result.now)
    (λ f. StandsFor f bodies ⊎ BeforeOrAfter (bodies ++ waiting ∷ []) c.args.body.now f)
    (λ f here. one_more c.self.inside.form bodies waiting c.args.body.now f w.fit w.small small
    (subst (λ l. IsClosedOrNextOpened (form_front c.self.inside.form bodies) (form_entry c.self.inside.form waiting) l f) behind here)) run in
    subst (λ j. LeavesOnly g.D.Disk.moment g.D.Disk.left_since j.disk c.add_entry.new.disk
    (λ f. StandsFor f bodies ⊎ BeforeOrAfter (bodies ++ waiting ∷ []) c.args.body.now f)) c.self.view_is whole

pub returns-clause-next : goal.returns-clause-next
returns-clause-next g c = λ told bodies waiting waits.
    let w = subst (λ j. JournalWaits g.D.Disk.seen g.D.Disk.may_leave j bodies waiting) (sym c.self.view_is) waits in
    let at = waits_at g.D.Disk.seen g.D.Disk.may_leave _ bodies waiting c.self.inside.gate w refl in
    let behind : c.deref.result.now ≡ form_entry c.self.inside.form c.args.body.now ++ 0 ∷ [] = c.deref.ensures.value ∙ c.in_ok-fill.ensures.filled in
    let fine : is_err c.add_entry.result ≡ false = sym c.is_err.ensures.value ∙ c.if-is_err.false in
    let small : length c.args.body.now < 2 ^ 32 = omega (arith, c.in_ok-admit.ensures.bound) in
    let done = ok_part c.add_entry.result _ fine (c.add_entry.ensures.next told (length (form_front c.self.inside.form bodies)) w.waits
    (form_front c.self.inside.form bodies) (form_entry c.self.inside.form waiting) w.rest w.gate w.last at w.durable) in (
      w.count,
      record {
        gate = 0;
        rest = drop (length c.deref.result.now) w.rest;
        file = done.0 ∙ put_more c.self.inside.form bodies waiting c.args.body.now c.deref.result.now (drop (length c.deref.result.now) w.rest)
            behind;
        closed = zero_shut;
        end = omega (arith, w.end, c.sum_bytes.ensures, length-front-push c.self.inside.form (bodies ++ waiting ∷ []) c.args.body.now);
        used = omega (arith, w.used, length-plain-push (bodies ++ waiting ∷ []) c.args.body.now);
        count = omega (arith, w.count, length-append (bodies ++ waiting ∷ []) (c.args.body.now ∷ []));
        fit = all_fit_push (bodies ++ waiting ∷ []) c.args.body.now (all_fit_push bodies waiting w.fit w.small) small;
        some_taken = omega (arith, w.some_taken, length-append bodies (waiting ∷ []), length-append (bodies ++ waiting ∷ []) (c.args.body.now ∷ []));
        next = w.next ∙ ap (λ (b : List (List ℕ)). length (form_front c.self.inside.form b))
            (sym (take-append-le c.self.inside.taken (bodies ++ waiting ∷ []) (c.args.body.now ∷ [])
            (omega (arith, w.some_taken, length-append bodies (waiting ∷ [])))
            ∙ take-append-le c.self.inside.taken bodies (waiting ∷ []) w.some_taken));
        none_waits = refl;
        goes_on = w.goes_on;
        durable = done.1;
      },
    )
