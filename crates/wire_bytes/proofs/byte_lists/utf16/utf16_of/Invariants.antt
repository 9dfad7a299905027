use Rattle.std.proofs.Common.{◌≡◌, flat_map}
use Rattle.spec_wire.specs.messages.Utf16.{units_of}
use Rattle.wire_bytes.proofs.byte_lists.utf16.utf16_of.Given as goal

abbrev pub invariant-loop-character : goal.invariant-loop-character
invariant-loop-character l = l.out ≡ flat_map units_of l.yielded
