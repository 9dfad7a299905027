use Rattle.std.proofs.Common.{◌≡◌, ℕ, List, map, MatchResult, subst, ap, ◌∙◌}
use Rattle.spec_exchange.specs.State as model
use Rattle.spec_exchange.specs.Ranges.{unlock_ranges}
use Rattle.store_opens.specs.share_modes.Locking.{range_of, unlock_outcome, RefusedBy}
use Rattle.store_opens.specs.share_modes.Locking as outcomes
use Rattle.store_opens.specs.open_table.Locks.{held_of, held_by}
use Rattle.store_opens.proofs.open_table.LockLemmas.{held_of_open, answered}
use Rattle.store_opens.proofs.open_table.table.Opens.after_unlock.Goals as goal

pub returns-clause-range : goal.returns-clause-range
returns-clause-range c =
    subst (λ (f : ℕ). MatchResult c.unlock_in.result (λ v. unlock_outcome (held_of c.args.self.now f) c.args.wanted.now
    ≡ outcomes.Stands v.items) (λ e. RefusedBy e (unlock_outcome (held_of c.args.self.now f) c.args.wanted.now)))
    c.file_of.ensures.kept c.unlock_in.ensures

pub returns-clause-shown : goal.returns-clause-shown
returns-clause-shown c = λ s h st f a. answered c.unlock_in.result (unlock_outcome (held_by c.args.self.now c.args.id) c.args.wanted.now) _
    (ap (λ (v : List model.Range). unlock_ranges v (map range_of c.args.wanted.now))
    (held_of_open c.args.self.now s c.args.id h st) ∙ c.ranges_law.ensures.unlocks
    (held_by c.args.self.now c.args.id) c.args.wanted.now)
    (subst (λ (f : ℕ). MatchResult c.unlock_in.result (λ v. unlock_outcome (held_of c.args.self.now f) c.args.wanted.now
    ≡ outcomes.Stands v.items) (λ e. RefusedBy e (unlock_outcome (held_of c.args.self.now f) c.args.wanted.now)))
    c.file_of.ensures.kept c.unlock_in.ensures)
