use Rattle.std.proofs.Common.{ℕ, List, arith, sym, subst}
use Rattle.journal.specs.disk_journal.Entry.{IsEntryShort}
use Rattle.journal.proofs.disk_journal.Begin.{short_write}
use Rattle.journal.proofs.disk_journal.Moments.{started, goes_on}
use Rattle.journal.proofs.disk_journal.start.blank.Goals as goal

pub returns-in_err-write_at-2-clause-any_moment : goal.returns-in_err-write_at-2-clause-any_moment
returns-in_err-write_at-2-clause-any_moment g c = λ told new.
    let short0 : (f : List ℕ) → g.D.Disk.may_leave c.args.disk.now f → IsEntryShort f = λ f now.
    subst IsEntryShort (sym (new.durable f now)) new.short in
    let short1 : (f : List ℕ) → g.D.Disk.may_leave c.write_at.new.self f → IsEntryShort f =
    short_write 0 8 (g.D.Disk.may_leave c.args.disk.now) (g.D.Disk.may_leave c.write_at.new.self) (omega arith)
    short0 c.write_at.ensures.crash in
    let short2 : (f : List ℕ) → g.D.Disk.may_leave c.sync.new.self f → IsEntryShort f = λ f now. short1 f (c.sync.ensures.crash f now) in
    let short3 : (f : List ℕ) → g.D.Disk.may_leave c.write_at-2.new.self f → IsEntryShort f =
    short_write 8 1 (g.D.Disk.may_leave c.sync.new.self) (g.D.Disk.may_leave c.write_at-2.new.self) (omega arith)
    short2 c.write_at-2.ensures.crash in
    let run0 = started g.D.Disk.moment g.D.Disk.left_since c.args.disk.now IsEntryShort
    (λ f left. short0 f (g.met.D.Disk.only_now c.args.disk.now f left)) in
    let run1 = goes_on g.D.Disk.moment g.D.Disk.left_since c.args.disk.now c.args.disk.now c.write_at.new.self IsEntryShort
    (g.D.Disk.may_leave c.write_at.new.self) run0 c.write_at.ensures.time short1 in
    let run2 = goes_on g.D.Disk.moment g.D.Disk.left_since c.args.disk.now c.write_at.new.self c.sync.new.self IsEntryShort
    (g.D.Disk.may_leave c.sync.new.self) run1 c.sync.ensures.time short2 in
    goes_on g.D.Disk.moment g.D.Disk.left_since c.args.disk.now c.sync.new.self c.write_at-2.new.self IsEntryShort
    (g.D.Disk.may_leave c.write_at-2.new.self) run2 c.write_at-2.ensures.time short3

pub returns-in_err-sync-2-clause-any_moment : goal.returns-in_err-sync-2-clause-any_moment
returns-in_err-sync-2-clause-any_moment g c = λ told new.
    let short0 : (f : List ℕ) → g.D.Disk.may_leave c.args.disk.now f → IsEntryShort f = λ f now.
    subst IsEntryShort (sym (new.durable f now)) new.short in
    let short1 : (f : List ℕ) → g.D.Disk.may_leave c.write_at.new.self f → IsEntryShort f =
    short_write 0 8 (g.D.Disk.may_leave c.args.disk.now) (g.D.Disk.may_leave c.write_at.new.self) (omega arith)
    short0 c.write_at.ensures.crash in
    let short2 : (f : List ℕ) → g.D.Disk.may_leave c.sync.new.self f → IsEntryShort f = λ f now. short1 f (c.sync.ensures.crash f now) in
    let short3 : (f : List ℕ) → g.D.Disk.may_leave c.write_at-2.new.self f → IsEntryShort f =
    short_write 8 1 (g.D.Disk.may_leave c.sync.new.self) (g.D.Disk.may_leave c.write_at-2.new.self) (omega arith)
    short2 c.write_at-2.ensures.crash in
    let run0 = started g.D.Disk.moment g.D.Disk.left_since c.args.disk.now IsEntryShort
    (λ f left. short0 f (g.met.D.Disk.only_now c.args.disk.now f left)) in
    let run1 = goes_on g.D.Disk.moment g.D.Disk.left_since c.args.disk.now c.args.disk.now c.write_at.new.self IsEntryShort
    (g.D.Disk.may_leave c.write_at.new.self) run0 c.write_at.ensures.time short1 in
    let run2 = goes_on g.D.Disk.moment g.D.Disk.left_since c.args.disk.now c.write_at.new.self c.sync.new.self IsEntryShort
    (g.D.Disk.may_leave c.sync.new.self) run1 c.sync.ensures.time short2 in
    let run3 = goes_on g.D.Disk.moment g.D.Disk.left_since c.args.disk.now c.sync.new.self c.write_at-2.new.self IsEntryShort
    (g.D.Disk.may_leave c.write_at-2.new.self) run2 c.write_at-2.ensures.time short3 in
    goes_on g.D.Disk.moment g.D.Disk.left_since c.args.disk.now c.write_at-2.new.self c.sync-2.new.self IsEntryShort
    (g.D.Disk.may_leave c.sync-2.new.self) run3 c.sync-2.ensures.time
    (λ f now. short3 f (c.sync-2.ensures.crash f now))

pub returns-clause-any_moment : goal.returns-clause-any_moment
returns-clause-any_moment g c = λ told new.
    let short0 : (f : List ℕ) → g.D.Disk.may_leave c.args.disk.now f → IsEntryShort f = λ f now.
    subst IsEntryShort (sym (new.durable f now)) new.short in
    let short1 : (f : List ℕ) → g.D.Disk.may_leave c.write_at.new.self f → IsEntryShort f =
    short_write 0 8 (g.D.Disk.may_leave c.args.disk.now) (g.D.Disk.may_leave c.write_at.new.self) (omega arith)
    short0 c.write_at.ensures.crash in
    let short2 : (f : List ℕ) → g.D.Disk.may_leave c.sync.new.self f → IsEntryShort f = λ f now. short1 f (c.sync.ensures.crash f now) in
    let short3 : (f : List ℕ) → g.D.Disk.may_leave c.write_at-2.new.self f → IsEntryShort f =
    short_write 8 1 (g.D.Disk.may_leave c.sync.new.self) (g.D.Disk.may_leave c.write_at-2.new.self) (omega arith)
    short2 c.write_at-2.ensures.crash in
    let run0 = started g.D.Disk.moment g.D.Disk.left_since c.args.disk.now IsEntryShort
    (λ f left. short0 f (g.met.D.Disk.only_now c.args.disk.now f left)) in
    let run1 = goes_on g.D.Disk.moment g.D.Disk.left_since c.args.disk.now c.args.disk.now c.write_at.new.self IsEntryShort
    (g.D.Disk.may_leave c.write_at.new.self) run0 c.write_at.ensures.time short1 in
    let run2 = goes_on g.D.Disk.moment g.D.Disk.left_since c.args.disk.now c.write_at.new.self c.sync.new.self IsEntryShort
    (g.D.Disk.may_leave c.sync.new.self) run1 c.sync.ensures.time short2 in
    let run3 = goes_on g.D.Disk.moment g.D.Disk.left_since c.args.disk.now c.sync.new.self c.write_at-2.new.self IsEntryShort
    (g.D.Disk.may_leave c.write_at-2.new.self) run2 c.write_at-2.ensures.time short3 in
    goes_on g.D.Disk.moment g.D.Disk.left_since c.args.disk.now c.write_at-2.new.self c.sync-2.new.self IsEntryShort
    (g.D.Disk.may_leave c.sync-2.new.self) run3 c.sync-2.ensures.time
    (λ f now. short3 f (c.sync-2.ensures.crash f now))
