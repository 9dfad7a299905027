use Rattle.std.proofs.Common.{◌≡◌, ◌||◌, ℕ}
use Rattle.std.specs.BTreeSet.{contains}
use Rattle.std.specs.Ordering.{nat_cmp}
use Rattle.store_opens.specs.open_table.Stood.{keeps_in}
use Rattle.store_opens.proofs.open_table.told.persistent_ids.Given as goal

abbrev pub invariant-loop-id : goal.invariant-loop-id
invariant-loop-id l = (q : ℕ) → (contains nat_cmp l.kept q || keeps_in l.id-iterator q) ≡ keeps_in l.rows.entries q
