use Rattle.std.proofs.Common.{◌≡◌, Option, MatchResult, subst}
use Rattle.store_opens.specs.share_modes.Locking.{lock_outcome, RefusedBy}
use Rattle.store_opens.specs.share_modes.Locking as outcomes
use Rattle.store_opens.specs.declared.open_index.held.FileOpens.{FileOpens}
use Rattle.store_opens.specs.open_table.Locks.{ranges_in}
use Rattle.store_opens.proofs.open_table.table.Opens.lock_in.Goals as goal

pub returns-in-Some : goal.returns-in-Some
returns-in-Some c = subst (λ (v : Option FileOpens). MatchResult c.after_lock.result
    (λ w. lock_outcome (ranges_in v) c.args.wanted.now ≡ outcomes.Stands w.items)
    (λ e. RefusedBy e (lock_outcome (ranges_in v) c.args.wanted.now)))
    c.in-Some.ensures.value c.after_lock.ensures
