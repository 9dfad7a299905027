use Rattle.std.proofs.Common.{◌≡◌, ◌≤◌, length, ◌+◌}
use Rattle.spec_wire.specs.messages.Fault.{short_fault}
use Rattle.wire_bytes.specs.byte_lists.Widths.{total}
use Rattle.wire_bytes.proofs.byte_lists.fields.fields_fit.Given as goal

abbrev pub invariant-loop-width : goal.invariant-loop-width
invariant-loop-width l =
    (short_fault l.m 0 l.widths ≡ short_fault l.m l.at l.left) × (total l.widths ≡ l.at + total l.left) × (l.at ≤ length l.m)

abbrev pub decreases-loop-width : goal.decreases-loop-width
decreases-loop-width l = length l.left
