use Rattle.std.proofs.Common.{length}
use Rattle.wire_info.specs.classes.Listing.{entries}
use Rattle.wire_info.proofs.classes.Entries.{EntriesFound}
use Rattle.wire_info.proofs.classes.listing.read_listing.Given as goal

abbrev pub invariant-loop-head : goal.invariant-loop-head
invariant-loop-head l = EntriesFound l.class l.m l.rest (entries l.found.items)

abbrev pub decreases-loop-head : goal.decreases-loop-head
decreases-loop-head l = length l.rest
