use Rattle.std.proofs.Common.{◌<◌, refl, sym, subst}
use Rattle.base_lists.specs.range_index.Shown.{top}
use Rattle.client_tables.proofs.opens.Keeping.{fresh_open}
use Rattle.client_tables.proofs.opens.opening.Open.new.Goals as goal

pub returns-clause-shown : goal.returns-clause-shown
returns-clause-shown c = λ rows at size create n e. fresh_open rows at size create n
    (record { last = 0; change = 0; filled = 0; close = 0; end = 0; barrier = 0 }) (top c.new-written.result) (top c.new-locked.result) e
    refl c.new-written.ensures c.new-locked.ensures

pub returns-clause-below : goal.returns-clause-below
returns-clause-below c = λ n p. record { last = p; change = p; filled = p; close = p; end = p; barrier = p }

pub returns-clause-topped : goal.returns-clause-topped
returns-clause-topped c = λ n p x f. (
  subst (λ y. y < n) (sym (c.new-written.ensures x)) p,
  subst (λ y. y < n) (sym (c.new-locked.ensures x)) p,
)
