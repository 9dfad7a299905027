-- What the functions on listings answer (MS-FSCC 2.4).
use Rattle.std.specs.Prelude.{◌≡◌, ℕ, ◌+◌, Bool, false, if◌then◌else◌, List, ◌++◌, map, Some, None, Result, Ok, Err, ⊤}
use Rattle.spec_wire.specs.messages.Places.{number, le, gap_to_8}
use Rattle.spec_wire.specs.messages.Chain.{is_badly_linked, piece}
use Rattle.spec_wire.specs.messages.Directory.{DirectoryEntryValue, SpellsDirectoryEntry, SpellsListing, BreaksListing}
use Rattle.spec_wire.specs.messages.Directory.{first_entry_fault, directory_entry_spelling, directory_entry_size}
use Rattle.spec_wire.specs.declared.messages.directory_class.DirectoryClass.{DirectoryClass}
use Rattle.spec_wire.specs.declared.messages.error.MessageError.{MessageError}
use Rattle.wire_info.specs.declared.classes.directory_entry.DirectoryEntry.{DirectoryEntry}
use Rattle.wire_info.specs.declared.classes.listing.FirstEntry.{FirstEntry}
use Rattle.wire_info.specs.declared.classes.listing.ListingError.{ListingError}
use Rattle.wire_info.specs.declared.classes.listing.ListingError.TheVariants.{Memory, Message}
use Rattle.wire_info.specs.classes.Views.{directory_entry}

-- an entry written where more follow, or none
abbrev pub entry_if : Bool → DirectoryClass → DirectoryEntryValue → List ℕ
entry_if more c v = if more then directory_entry_spelling c v
    (directory_entry_size c v + gap_to_8 (directory_entry_size c v)) ++ le (gap_to_8 (directory_entry_size c v)) 0 else
    directory_entry_spelling c v 0

-- the entry that a listing begins with and how far the next one is, or its first break
abbrev pub ReadsFirstEntry : DirectoryClass → List ℕ → Result FirstEntry MessageError → Type 0
ReadsFirstEntry c m (Ok f) = (first_entry_fault c m ≡ None) × (is_badly_linked m ≡ false)
    × SpellsDirectoryEntry c (piece m) (directory_entry f.entry) × (f.next ≡ number 4 m 0)
ReadsFirstEntry c m (Err e) = first_entry_fault c m ≡ Some e

abbrev pub entries : List DirectoryEntry → List DirectoryEntryValue
entries es = map directory_entry es

-- the entries of a listing, or its first break
abbrev pub ReadsListing : {X : Type 0} → (X → List DirectoryEntry) → DirectoryClass → List ℕ → Result X ListingError → Type 0
ReadsListing items c m (Ok x) = SpellsListing c m (entries (items x))
ReadsListing items c m (Err (Message e)) = BreaksListing c m e
ReadsListing items c m (Err Memory) = ⊤
