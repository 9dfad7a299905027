use Rattle.std.proofs.Common.{◌-◌, ◌≤◌, length}
use Rattle.client_tables.specs.settling.Shown.{AreSettledBelow}
use Rattle.client_tables.proofs.settling.left.first_left.Given as goal

abbrev pub invariant-loop-at : goal.invariant-loop-at
invariant-loop-at l =
    record {
      above : l.from ≤ l.at;
      inside : l.from ≤ length l.rows → l.at ≤ length l.rows;
      settled : AreSettledBelow l.rows l.at;
    }

abbrev pub decreases-loop-at : goal.decreases-loop-at
decreases-loop-at l = length l.rows - l.at
