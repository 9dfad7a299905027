use Rattle.std.proofs.Common.{◌≡◌, ℕ, MatchResult, subst}
use Rattle.store_opens.specs.share_modes.Locking.{lock_outcome, RefusedBy}
use Rattle.store_opens.specs.share_modes.Locking as outcomes
use Rattle.store_opens.specs.open_table.Locks.{held_of, held_by}
use Rattle.store_opens.proofs.open_table.LockLemmas.{held_of_open, locked_answer, answered}
use Rattle.store_opens.proofs.open_table.table.Opens.after_lock.Goals as goal

pub returns-clause-range : goal.returns-clause-range
returns-clause-range c =
    subst (λ (f : ℕ). MatchResult c.lock_in.result (λ v. lock_outcome (held_of c.args.self.now f) c.args.wanted.now
    ≡ outcomes.Stands v.items) (λ e. RefusedBy e (lock_outcome (held_of c.args.self.now f) c.args.wanted.now)))
    c.file_of.ensures.kept c.lock_in.ensures

pub returns-clause-shown : goal.returns-clause-shown
returns-clause-shown c = λ s h st f a. answered c.lock_in.result (lock_outcome (held_by c.args.self.now c.args.id) c.args.wanted.now) _
    (locked_answer (held_by c.args.self.now c.args.id) c.args.wanted.now c.args.id _ c.ranges_law.ensures.locks
    (held_of_open c.args.self.now s c.args.id h st) f a)
    (subst (λ (f : ℕ). MatchResult c.lock_in.result (λ v. lock_outcome (held_of c.args.self.now f) c.args.wanted.now
    ≡ outcomes.Stands v.items) (λ e. RefusedBy e (lock_outcome (held_of c.args.self.now f) c.args.wanted.now)))
    c.file_of.ensures.kept c.lock_in.ensures)
