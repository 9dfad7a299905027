use Rattle.std.proofs.Common.{◌-◌, ◌≤◌, ◌≡◌, ◌%◌}
use Rattle.wire_bytes.proofs.byte_lists.Units.{Read}
use Rattle.wire_bytes.proofs.byte_lists.utf16.text_of_utf16.Given as goal

abbrev pub invariant-loop-at : goal.invariant-loop-at
invariant-loop-at l = (l.at ≤ l.len) × (l.at % 2 ≡ 0) × Read l.bytes l.at l.text

abbrev pub decreases-loop-at : goal.decreases-loop-at
decreases-loop-at l = l.len - l.at
