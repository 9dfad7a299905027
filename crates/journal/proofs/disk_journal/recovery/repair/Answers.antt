use Rattle.std.proofs.Common.{List, [], ℕ, sym, subst}
use Rattle.base_outside.specs.streams.Disk.{Only}
use Rattle.spec_journal.specs.Forms.{form_front, StandsFor}
use Rattle.journal.specs.disk_journal.Entry.{StaysClosed}
use Rattle.journal.proofs.disk_journal.Mend.{after_quiet, none_in_short, closed_at, stays_same, found_new, found_behind, rests}
use Rattle.journal.proofs.disk_journal.Mend.{held_unbroken, reads_left, short_unbroken}
use Rattle.journal.proofs.disk_journal.recovery.repair.Goals as goal

pub returns-in_err-prepare-in-None-clause-any_moment : goal.returns-in_err-prepare-in-None-clause-any_moment
returns-in_err-prepare-in-None-clause-any_moment g c = λ told bodies stood.
    let short = found_new (g.D.Disk.seen c.args.disk.now) c.in_ok-examine.field-0 c.in-None.is (c.in_ok-examine.ensures.examined told) in
    let none = none_in_short (g.D.Disk.seen c.args.disk.now) bodies short stood in
    after_quiet g.D.Disk.told g.D.Disk.seen g.D.Disk.may_leave g.D.Disk.moment g.D.Disk.left_since c.args.disk.now
    c.examine.new.disk c.prepare.new.disk bodies (λ f. StandsFor f []) c.examine.ensures.quiet
    (c.prepare.ensures.any_moment told)
    (λ f here. subst (λ (b : List (List ℕ)). StandsFor f b) (sym none) here)

pub returns-in_ok-prepare-in-None-clause-any_moment : goal.returns-in_ok-prepare-in-None-clause-any_moment
returns-in_ok-prepare-in-None-clause-any_moment g c = λ told bodies stood.
    let short = found_new (g.D.Disk.seen c.args.disk.now) c.in_ok-examine.field-0 c.in-None.is (c.in_ok-examine.ensures.examined told) in
    let none = none_in_short (g.D.Disk.seen c.args.disk.now) bodies short stood in
    after_quiet g.D.Disk.told g.D.Disk.seen g.D.Disk.may_leave g.D.Disk.moment g.D.Disk.left_since c.args.disk.now
    c.examine.new.disk c.prepare.new.disk bodies (λ f. StandsFor f []) c.examine.ensures.quiet
    (c.prepare.ensures.any_moment told)
    (λ f here. subst (λ (b : List (List ℕ)). StandsFor f b) (sym none) here)

pub returns-in_err-cut_behind-in-Some-Behind-clause-any_moment : goal.returns-in_err-cut_behind-in-Some-Behind-clause-any_moment
returns-in_err-cut_behind-in-Some-Behind-clause-any_moment g c = λ told bodies stood.
    let e = found_behind (g.D.Disk.seen c.args.disk.now) c.in_ok-examine.field-0 c.in-Some-Behind.field-0
    c.in-Some-Behind.form c.in-Some-Behind.gate c.in-Some-Behind.used c.in-Some-Behind.count c.in-Some-Behind.is c.in-Some-Behind.field-0-is
    (c.in_ok-examine.ensures.examined told) in
    let same = c.examine.ensures.quiet.same told in
    let durable = subst (λ (f : List ℕ). Only f (g.D.Disk.may_leave c.examine.new.disk)) (sym same)
    (c.in_ok-examine.ensures.durable told) in
    let run = c.cut_behind.ensures.any_moment told (form_front c.in-Some-Behind.form e.bodies) e.rest e.shut
    (closed_at (g.D.Disk.seen c.args.disk.now) (g.D.Disk.seen c.examine.new.disk) c.in-Some-Behind.form
    c.in-Some-Behind.gate c.in-Some-Behind.used c.in-Some-Behind.count e same) durable in
    after_quiet g.D.Disk.told g.D.Disk.seen g.D.Disk.may_leave g.D.Disk.moment g.D.Disk.left_since c.args.disk.now
    c.examine.new.disk c.cut_behind.new.disk bodies (StaysClosed (form_front c.in-Some-Behind.form e.bodies)) c.examine.ensures.quiet run
    (stays_same (g.D.Disk.seen c.args.disk.now) c.in-Some-Behind.form c.in-Some-Behind.gate c.in-Some-Behind.used c.in-Some-Behind.count e
    bodies stood)

pub returns-in_ok-cut_behind-in-Some-Behind-clause-any_moment : goal.returns-in_ok-cut_behind-in-Some-Behind-clause-any_moment
returns-in_ok-cut_behind-in-Some-Behind-clause-any_moment g c = λ told bodies stood.
    let e = found_behind (g.D.Disk.seen c.args.disk.now) c.in_ok-examine.field-0 c.in-Some-Behind.field-0
    c.in-Some-Behind.form c.in-Some-Behind.gate c.in-Some-Behind.used c.in-Some-Behind.count c.in-Some-Behind.is c.in-Some-Behind.field-0-is
    (c.in_ok-examine.ensures.examined told) in
    let same = c.examine.ensures.quiet.same told in
    let durable = subst (λ (f : List ℕ). Only f (g.D.Disk.may_leave c.examine.new.disk)) (sym same)
    (c.in_ok-examine.ensures.durable told) in
    let run = c.cut_behind.ensures.any_moment told (form_front c.in-Some-Behind.form e.bodies) e.rest e.shut
    (closed_at (g.D.Disk.seen c.args.disk.now) (g.D.Disk.seen c.examine.new.disk) c.in-Some-Behind.form
    c.in-Some-Behind.gate c.in-Some-Behind.used c.in-Some-Behind.count e same) durable in
    after_quiet g.D.Disk.told g.D.Disk.seen g.D.Disk.may_leave g.D.Disk.moment g.D.Disk.left_since c.args.disk.now
    c.examine.new.disk c.cut_behind.new.disk bodies (StaysClosed (form_front c.in-Some-Behind.form e.bodies)) c.examine.ensures.quiet run
    (stays_same (g.D.Disk.seen c.args.disk.now) c.in-Some-Behind.form c.in-Some-Behind.gate c.in-Some-Behind.used c.in-Some-Behind.count e
    bodies stood)

pub returns-in_ok-cut_behind-in-Some-Behind-clause-mended : goal.returns-in_ok-cut_behind-in-Some-Behind-clause-mended
returns-in_ok-cut_behind-in-Some-Behind-clause-mended g c = λ told.
    let e = found_behind (g.D.Disk.seen c.args.disk.now) c.in_ok-examine.field-0 c.in-Some-Behind.field-0
    c.in-Some-Behind.form c.in-Some-Behind.gate c.in-Some-Behind.used c.in-Some-Behind.count c.in-Some-Behind.is c.in-Some-Behind.field-0-is
    (c.in_ok-examine.ensures.examined told) in
    let same = c.examine.ensures.quiet.same told in
    let durable = subst (λ (f : List ℕ). Only f (g.D.Disk.may_leave c.examine.new.disk)) (sym same)
    (c.in_ok-examine.ensures.durable told) in
    let done = c.in_ok-cut_behind-in-Some-Behind.ensures.done told (form_front c.in-Some-Behind.form e.bodies) e.rest e.shut
    (closed_at (g.D.Disk.seen c.args.disk.now) (g.D.Disk.seen c.examine.new.disk) c.in-Some-Behind.form
    c.in-Some-Behind.gate c.in-Some-Behind.used c.in-Some-Behind.count e same) durable in
    rests g.D.Disk.seen g.D.Disk.may_leave c.args.disk.now c.cut_behind.new.disk c.in-Some-Behind.form
    c.in-Some-Behind.gate c.in-Some-Behind.used c.in-Some-Behind.count e done.0 done.1

pub returns-in_err-prepare-in-None-clause-spared : goal.returns-in_err-prepare-in-None-clause-spared
returns-in_err-prepare-in-None-clause-spared g c = λ told at breaks.
    let short = found_new (g.D.Disk.seen c.args.disk.now) c.in_ok-examine.field-0 c.in-None.is (c.in_ok-examine.ensures.examined told) in
    absurd (short_unbroken (g.D.Disk.seen c.args.disk.now) at short breaks)

pub returns-in_err-prepare-in-None-clause-stays : goal.returns-in_err-prepare-in-None-clause-stays
returns-in_err-prepare-in-None-clause-stays g c = λ told bodies stood.
    let short = found_new (g.D.Disk.seen c.args.disk.now) c.in_ok-examine.field-0 c.in-None.is (c.in_ok-examine.ensures.examined told) in
    let none = none_in_short (g.D.Disk.seen c.args.disk.now) bodies short stood in
    subst (λ (b : List (List ℕ)). StandsFor (g.D.Disk.seen c.prepare.new.disk) b) (sym none)
    (reads_left g.D.Disk.told g.D.Disk.seen g.D.Disk.may_leave g.D.Disk.moment g.D.Disk.left_since g.met.D.Disk.counts_now
    g.met.D.Disk.seen_may_stay c.examine.new.disk c.prepare.new.disk (λ f. StandsFor f []) (c.prepare.ensures.any_moment told) told)

pub returns-in_ok-prepare-in-None-clause-spared : goal.returns-in_ok-prepare-in-None-clause-spared
returns-in_ok-prepare-in-None-clause-spared g c = λ told at breaks.
    let short = found_new (g.D.Disk.seen c.args.disk.now) c.in_ok-examine.field-0 c.in-None.is (c.in_ok-examine.ensures.examined told) in
    absurd (short_unbroken (g.D.Disk.seen c.args.disk.now) at short breaks)

pub returns-in_ok-prepare-in-None-clause-stays : goal.returns-in_ok-prepare-in-None-clause-stays
returns-in_ok-prepare-in-None-clause-stays g c = λ told bodies stood.
    let short = found_new (g.D.Disk.seen c.args.disk.now) c.in_ok-examine.field-0 c.in-None.is (c.in_ok-examine.ensures.examined told) in
    let none = none_in_short (g.D.Disk.seen c.args.disk.now) bodies short stood in
    subst (λ (b : List (List ℕ)). StandsFor (g.D.Disk.seen c.prepare.new.disk) b) (sym none)
    (reads_left g.D.Disk.told g.D.Disk.seen g.D.Disk.may_leave g.D.Disk.moment g.D.Disk.left_since g.met.D.Disk.counts_now
    g.met.D.Disk.seen_may_stay c.examine.new.disk c.prepare.new.disk (λ f. StandsFor f []) (c.prepare.ensures.any_moment told) told)

pub returns-in_err-cut_behind-in-Some-Behind-clause-spared : goal.returns-in_err-cut_behind-in-Some-Behind-clause-spared
returns-in_err-cut_behind-in-Some-Behind-clause-spared g c = λ told at breaks.
    let e = found_behind (g.D.Disk.seen c.args.disk.now) c.in_ok-examine.field-0 c.in-Some-Behind.field-0
    c.in-Some-Behind.form c.in-Some-Behind.gate c.in-Some-Behind.used c.in-Some-Behind.count c.in-Some-Behind.is c.in-Some-Behind.field-0-is
    (c.in_ok-examine.ensures.examined told) in
    absurd (held_unbroken (g.D.Disk.seen c.args.disk.now) c.in-Some-Behind.form c.in-Some-Behind.gate c.in-Some-Behind.used c.in-Some-Behind.count at e breaks)

pub returns-in_err-cut_behind-in-Some-Behind-clause-stays : goal.returns-in_err-cut_behind-in-Some-Behind-clause-stays
returns-in_err-cut_behind-in-Some-Behind-clause-stays g c = λ told bodies stood.
    let e = found_behind (g.D.Disk.seen c.args.disk.now) c.in_ok-examine.field-0 c.in-Some-Behind.field-0
    c.in-Some-Behind.form c.in-Some-Behind.gate c.in-Some-Behind.used c.in-Some-Behind.count c.in-Some-Behind.is c.in-Some-Behind.field-0-is
    (c.in_ok-examine.ensures.examined told) in
    let same = c.examine.ensures.quiet.same told in
    let durable = subst (λ (f : List ℕ). Only f (g.D.Disk.may_leave c.examine.new.disk)) (sym same)
    (c.in_ok-examine.ensures.durable told) in
    let run = c.cut_behind.ensures.any_moment told (form_front c.in-Some-Behind.form e.bodies) e.rest e.shut
    (closed_at (g.D.Disk.seen c.args.disk.now) (g.D.Disk.seen c.examine.new.disk) c.in-Some-Behind.form
    c.in-Some-Behind.gate c.in-Some-Behind.used c.in-Some-Behind.count e same) durable in
    stays_same (g.D.Disk.seen c.args.disk.now) c.in-Some-Behind.form c.in-Some-Behind.gate c.in-Some-Behind.used c.in-Some-Behind.count e bodies stood
    (g.D.Disk.seen c.cut_behind.new.disk)
    (reads_left g.D.Disk.told g.D.Disk.seen g.D.Disk.may_leave g.D.Disk.moment g.D.Disk.left_since g.met.D.Disk.counts_now
    g.met.D.Disk.seen_may_stay c.examine.new.disk c.cut_behind.new.disk (StaysClosed (form_front c.in-Some-Behind.form e.bodies)) run told)

pub returns-in_ok-cut_behind-in-Some-Behind-clause-spared : goal.returns-in_ok-cut_behind-in-Some-Behind-clause-spared
returns-in_ok-cut_behind-in-Some-Behind-clause-spared g c = λ told at breaks.
    let e = found_behind (g.D.Disk.seen c.args.disk.now) c.in_ok-examine.field-0 c.in-Some-Behind.field-0
    c.in-Some-Behind.form c.in-Some-Behind.gate c.in-Some-Behind.used c.in-Some-Behind.count c.in-Some-Behind.is c.in-Some-Behind.field-0-is
    (c.in_ok-examine.ensures.examined told) in
    absurd (held_unbroken (g.D.Disk.seen c.args.disk.now) c.in-Some-Behind.form c.in-Some-Behind.gate c.in-Some-Behind.used c.in-Some-Behind.count at e breaks)

pub returns-in_ok-cut_behind-in-Some-Behind-clause-stays : goal.returns-in_ok-cut_behind-in-Some-Behind-clause-stays
returns-in_ok-cut_behind-in-Some-Behind-clause-stays g c = λ told bodies stood.
    let e = found_behind (g.D.Disk.seen c.args.disk.now) c.in_ok-examine.field-0 c.in-Some-Behind.field-0
    c.in-Some-Behind.form c.in-Some-Behind.gate c.in-Some-Behind.used c.in-Some-Behind.count c.in-Some-Behind.is c.in-Some-Behind.field-0-is
    (c.in_ok-examine.ensures.examined told) in
    let same = c.examine.ensures.quiet.same told in
    let durable = subst (λ (f : List ℕ). Only f (g.D.Disk.may_leave c.examine.new.disk)) (sym same)
    (c.in_ok-examine.ensures.durable told) in
    let run = c.cut_behind.ensures.any_moment told (form_front c.in-Some-Behind.form e.bodies) e.rest e.shut
    (closed_at (g.D.Disk.seen c.args.disk.now) (g.D.Disk.seen c.examine.new.disk) c.in-Some-Behind.form
    c.in-Some-Behind.gate c.in-Some-Behind.used c.in-Some-Behind.count e same) durable in
    stays_same (g.D.Disk.seen c.args.disk.now) c.in-Some-Behind.form c.in-Some-Behind.gate c.in-Some-Behind.used c.in-Some-Behind.count e bodies stood
    (g.D.Disk.seen c.cut_behind.new.disk)
    (reads_left g.D.Disk.told g.D.Disk.seen g.D.Disk.may_leave g.D.Disk.moment g.D.Disk.left_since g.met.D.Disk.counts_now
    g.met.D.Disk.seen_may_stay c.examine.new.disk c.cut_behind.new.disk (StaysClosed (form_front c.in-Some-Behind.form e.bodies)) run told)
