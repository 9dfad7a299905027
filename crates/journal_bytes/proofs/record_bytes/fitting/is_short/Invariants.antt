use Rattle.std.proofs.Common.{◌≡◌, min, length, flat_map}
use Rattle.spec_wire.specs.messages.Utf16.{units_of}
use Rattle.journal_bytes.proofs.record_bytes.fitting.is_short.Given as goal

abbrev pub invariant-loop-character : goal.invariant-loop-character
invariant-loop-character l = l.size ≡ min (length (flat_map units_of l.yielded)) 4294967295
