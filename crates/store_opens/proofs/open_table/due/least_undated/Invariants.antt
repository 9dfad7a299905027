use Rattle.std.proofs.Common.{◌≡◌, drop, nat_eq}
use Rattle.std.specs.HashMap.{get}
use Rattle.store_opens.specs.open_table.Due.{least_dated_in}
use Rattle.store_opens.proofs.open_table.due.least_undated.Given as goal

abbrev pub invariant-loop-id : goal.invariant-loop-id
invariant-loop-id l = least_dated_in (λ o. get nat_eq l.rows o) l.now (drop l.id-index l.undated) l.least
    ≡ least_dated_in (λ o. get nat_eq l.rows o) l.now l.undated l.fn.found
