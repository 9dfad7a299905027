use Rattle.std.proofs.Common.{◌≡◌, drop, map}
use Rattle.wire_info.specs.classes.Listing.{entries}
use Rattle.spec_commands.specs.ReplyOf.{names_of}
use Rattle.wire_commands.specs.values.Meaning.{named_of}
use Rattle.wire_commands.proofs.reading.Heard.{found_before}
use Rattle.wire_commands.proofs.reading.heard_names.names_of.Given as goal

abbrev pub invariant-loop-at : goal.invariant-loop-at
invariant-loop-at l = names_of (entries l.found) ≡ found_before (map named_of l.names.items) (names_of (drop l.at (entries l.found)))
