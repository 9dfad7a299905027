-- The entries of a listing that can be written, and what a client hears of them.
use Rattle.std.specs.Prelude.{List, [], ◌∷◌}
use Rattle.spec_wire.specs.declared.messages.directory_class.DirectoryClass.{DirectoryClass}
use Rattle.spec_exchange.specs.State.{Named}
use Rattle.spec_commands.specs.Infos.{entry_of}
use Rattle.spec_commands.specs.ReplyOf.{named_of}
use Rattle.law_commands.specs.commands.Fitting.{IsFittingName, IsInfo}

-- names, and numbers within their fields
abbrev pub AreListingEntries : List Named → Type 0
AreListingEntries [] = Unit {0}
AreListingEntries (n ∷ ns) = IsFittingName n.name × IsInfo n.info × AreListingEntries ns

-- a client looks at the names and at the lengths; the class 12 tells no length
abbrev pub as_listed : DirectoryClass → List Named → List Named
as_listed c [] = []
as_listed c (n ∷ ns) = named_of (entry_of c n).end_of_file n.name ∷ as_listed c ns
