use Rattle.std.proofs.Common.{◌≡◌, ℕ, ◌<◌, ◌≤◌, false, length, get_or}
use Rattle.client_rows.specs.operation_rows.Rows.{stands}
use Rattle.client_rows.proofs.operation_rows.listed.count_left.Given as goal

abbrev pub invariant-loop-left : goal.invariant-loop-left
invariant-loop-left l = record {
  below : l.left ≤ length l.holders;
  settled : (i : ℕ) → l.left ≤ i → i < length l.holders → stands l.rows (get_or l.holders i 0) ≡ false;
}

abbrev pub decreases-loop-left : goal.decreases-loop-left
decreases-loop-left l = l.left
