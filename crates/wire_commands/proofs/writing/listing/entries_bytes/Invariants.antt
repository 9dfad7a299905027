use Rattle.std.proofs.Common.{◌≡◌, List, ◌++◌, drop, map}
use Rattle.spec_wire.specs.messages.Directory.{listing_spelling}
use Rattle.spec_exchange.specs.State as says
use Rattle.spec_commands.specs.Infos.{entries_of}
use Rattle.wire_commands.specs.values.Meaning.{named_of}
use Rattle.spec_commands.specs.Fits.{AreListed}
use Rattle.wire_commands.proofs.writing.listing.entries_bytes.Given as goal

abbrev pub invariant-loop-at : goal.invariant-loop-at
invariant-loop-at l =
    let ns : List says.Named = map named_of l.entries in
    (listing_spelling l.class (entries_of l.class ns) ≡ l.out ++ listing_spelling l.class (entries_of l.class (drop l.at ns)))
    × (AreListed (drop l.at ns) → AreListed ns)
