use Rattle.std.proofs.Common.{◌⊎◌, ◌<◌, ℕ, ◌++◌, List, arith, length, refl, subst, sym, ◌∙◌}
use Rattle.spec_journal.specs.Forms.{StandsFor}
use Rattle.spec_wire.specs.journal.Moments.{LeavesOnly}
use Rattle.journal.specs.disk_journal.Journal.{JournalSettled}
use Rattle.server_core.proofs.body_writing.Cases.{is_nil, none_more, none_used, nothing_left, one_body, refused, used_more}
use Rattle.server_core.proofs.body_writing.writing.write_body.Goals as goal

pub returns-then-body-eq0-clause-cause : goal.returns-then-body-eq0-clause-cause
returns-then-body-eq0-clause-cause g c = (refl, none_used c.args.journal.now.used c.args.body.now (is_nil c.args.body.now (omega arith)))

pub returns-then-body-eq0-clause-acknowledged : goal.returns-then-body-eq0-clause-acknowledged
returns-then-body-eq0-clause-acknowledged g c = λ told bodies settled.
    subst (λ (bs : List (List ℕ)). JournalSettled g.D.Disk.seen g.D.Disk.may_leave c.args.journal.now bs)
    (none_more bodies c.args.body.now (is_nil c.args.body.now (omega arith))) settled

pub returns-then-body-eq0-clause-any_moment : goal.returns-then-body-eq0-clause-any_moment
returns-then-body-eq0-clause-any_moment g c = λ told bodies settled.
    nothing_left g.D.Disk.seen g.D.Disk.may_leave g.D.Disk.moment g.D.Disk.left_since g.met.D.Disk.only_now c.args.journal.now bodies
    c.args.body.now settled

pub returns-in-Ok-clause-cause : goal.returns-in-Ok-clause-cause
returns-in-Ok-clause-cause g c =
    let a = c.in-Ok.ensures.cause in
    let some : 0 < length c.args.body.now = omega arith in
    (a.4 ∙ sym a.0.0, used_more c.args.journal.now.used c.append.new.self.used c.args.body.now some a.3)

pub returns-in-Ok-clause-acknowledged : goal.returns-in-Ok-clause-acknowledged
returns-in-Ok-clause-acknowledged g c = λ told bodies settled.
    let some : 0 < length c.args.body.now = omega arith in
    subst (λ (bs : List (List ℕ)). JournalSettled g.D.Disk.seen g.D.Disk.may_leave c.append.new.self (bodies ++ bs))
    (sym (one_body c.args.body.now some)) (c.in-Ok.ensures.acknowledged told bodies settled).1

pub returns-in-Ok-clause-any_moment : goal.returns-in-Ok-clause-any_moment
returns-in-Ok-clause-any_moment g c = λ told bodies settled.
    let some : 0 < length c.args.body.now = omega arith in
    subst (λ (bs : List (List ℕ)). LeavesOnly g.D.Disk.moment g.D.Disk.left_since c.args.journal.now.disk c.append.new.self.disk
    (λ (bytes : List ℕ). StandsFor bytes bodies ⊎ StandsFor bytes (bodies ++ bs)))
    (sym (one_body c.args.body.now some)) (c.append.ensures.any_moment told bodies settled)

pub returns-in-Err-clause-cause : goal.returns-in-Err-clause-cause
returns-in-Err-clause-cause g c =
    let some : 0 < length c.args.body.now = omega arith in
    rw c.refusal.ensures (refused g.D.Disk.faults c.args.journal.now c.append.new.self c.args.body.now c.in-Err.error c.requires some
    c.in-Err.ensures.cause)

pub returns-in-Err-clause-any_moment : goal.returns-in-Err-clause-any_moment
returns-in-Err-clause-any_moment g c = λ told bodies settled.
    let some : 0 < length c.args.body.now = omega arith in
    subst (λ (bs : List (List ℕ)). LeavesOnly g.D.Disk.moment g.D.Disk.left_since c.args.journal.now.disk c.append.new.self.disk
    (λ (bytes : List ℕ). StandsFor bytes bodies ⊎ StandsFor bytes (bodies ++ bs)))
    (sym (one_body c.args.body.now some)) (c.append.ensures.any_moment told bodies settled)

pub returns-in-Err-clause-none : goal.returns-in-Err-clause-none
returns-in-Err-clause-none g c = λ none. let some : 0 < length c.args.body.now = omega arith in absurd (omega (arith, none, some))
