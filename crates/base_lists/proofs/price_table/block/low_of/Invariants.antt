use Rattle.std.proofs.Common.{ℕ, ◌<◌, ◌≤◌, slice_index}
use Rattle.base_lists.proofs.price_table.block.low_of.Given as goal

abbrev pub invariant-loop-price : goal.invariant-loop-price
invariant-loop-price l = (i : ℕ) → i < l.price-index → l.low ≤ slice_index l.prices i
