-- A listing that is written reads back.
use Rattle.std.proofs.Common.{◌≡◌, ℕ, ◌<◌, List, [], ◌∷◌, ◌++◌, length, refl, ◌∙◌, arith}
use Rattle.spec_wire.specs.messages.Places.{number}
use Rattle.spec_wire.specs.messages.Directory.{DirectoryEntryValue, SpellsDirectoryEntry, SpellsListing}
use Rattle.spec_wire.specs.messages.Directory.{IsWritableDirectoryEntry, directory_entry_whole, directory_entry_spelling}
use Rattle.spec_wire.specs.messages.Directory.{directory_entry_size, listing_spelling}
use Rattle.spec_wire.specs.declared.messages.directory_class.DirectoryClass.{DirectoryClass}
use Rattle.spec_wire.specs.declared.messages.directory_class.DirectoryClass.TheVariants as classes
use Rattle.law_wire.proofs.messages.Rows.{table_again, length-with_fields, size_of}
use Rattle.law_wire.specs.info.Entries.{AreWritableEntries}
use Rattle.law_wire.proofs.info.Chains.{AllFit, spelled}
use Rattle.law_wire.proofs.info.OneEntry.{again_entry}

positive : (c : DirectoryClass) (v : DirectoryEntryValue) → 0 < directory_entry_size c v
positive classes.Directory v = omega arith
positive classes.FullDirectory v = omega arith
positive classes.BothDirectory v = omega arith
positive classes.Names v = omega arith
positive classes.IdBothDirectory v = omega arith
positive classes.IdFullDirectory v = omega arith

length-item : (c : DirectoryClass) (v : DirectoryEntryValue) (next : ℕ) → IsWritableDirectoryEntry c v next
    → length (directory_entry_spelling c v next) ≡ directory_entry_size c v
unfolding size_of
length-item classes.Directory v next fit = length-with_fields (directory_entry_whole classes.Directory v next) [] fit.fits ∙ omega arith
length-item classes.FullDirectory v next fit = length-with_fields (directory_entry_whole classes.FullDirectory v next)
    [] fit.fits ∙ omega arith
length-item classes.BothDirectory v next fit = length-with_fields (directory_entry_whole classes.BothDirectory v next)
    [] fit.fits ∙ omega arith
length-item classes.Names v next fit = length-with_fields (directory_entry_whole classes.Names v next) [] fit.fits ∙ omega arith
length-item classes.IdBothDirectory v next fit = length-with_fields (directory_entry_whole classes.IdBothDirectory v
    next) [] fit.fits ∙ omega arith
length-item classes.IdFullDirectory v next fit = length-with_fields (directory_entry_whole classes.IdFullDirectory v
    next) [] fit.fits ∙ omega arith

next_told : (c : DirectoryClass) (v : DirectoryEntryValue) (next : ℕ) (rest : List ℕ) → IsWritableDirectoryEntry c v
    next → number 4 (directory_entry_spelling c v next ++ rest) 0 ≡ next
next_told classes.Directory v next rest fit = let row = table_again (directory_entry_whole classes.Directory v next) []
    rest 0 refl fit.fits in row.0
next_told classes.FullDirectory v next rest fit = let row = table_again (directory_entry_whole classes.FullDirectory v
    next) [] rest 0 refl fit.fits in row.0
next_told classes.BothDirectory v next rest fit = let row = table_again (directory_entry_whole classes.BothDirectory v
    next) [] rest 0 refl fit.fits in row.0
next_told classes.Names v next rest fit = let row = table_again (directory_entry_whole classes.Names v next) [] rest 0
    refl fit.fits in row.0
next_told classes.IdBothDirectory v next rest fit = let row = table_again (directory_entry_whole classes.IdBothDirectory
    v next) [] rest 0 refl fit.fits in row.0
next_told classes.IdFullDirectory v next rest fit = let row = table_again (directory_entry_whole classes.IdFullDirectory
    v next) [] rest 0 refl fit.fits in row.0

again : (c : DirectoryClass) (v : DirectoryEntryValue) (next : ℕ) (rest : List ℕ) → IsWritableDirectoryEntry c v next
    → SpellsDirectoryEntry c (directory_entry_spelling c v next ++ rest) v
again c v next rest fit = again_entry c rest v next fit

all_fit : (c : DirectoryClass) (v : DirectoryEntryValue) (vs : List DirectoryEntryValue) → AreWritableEntries c (v ∷ vs)
    → AllFit (SpellsDirectoryEntry c) (directory_entry_spelling c) (directory_entry_size c) (IsWritableDirectoryEntry c)
    v vs
all_fit c v [] fit = fit
all_fit c v (w ∷ ws) fit = (fit.0, all_fit c w ws fit.1)

pub listing_again : (c : DirectoryClass) (vs : List DirectoryEntryValue) → AreWritableEntries c vs
    → SpellsListing c (listing_spelling c vs) vs
listing_again c [] fit = refl
listing_again c (v ∷ vs) fit = spelled (SpellsDirectoryEntry c) (directory_entry_spelling c) (directory_entry_size c)
    (IsWritableDirectoryEntry c) (positive c) (length-item c) (next_told c) (again c) v vs (all_fit c v vs fit)
