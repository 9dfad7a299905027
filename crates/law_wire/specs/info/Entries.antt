-- When the entries of a listing can be written.
use Rattle.std.specs.Prelude.{◌+◌, List, [], ◌∷◌}
use Rattle.spec_wire.specs.messages.Places.{gap_to_8}
use Rattle.spec_wire.specs.messages.Directory.{DirectoryEntryValue, IsWritableDirectoryEntry, directory_entry_size}
use Rattle.spec_wire.specs.declared.messages.directory_class.DirectoryClass.{DirectoryClass}

-- each with the place of the next one that is written in it
abbrev pub AreWritableEntries : DirectoryClass → List DirectoryEntryValue → Type 0
AreWritableEntries c [] = Unit {0}
AreWritableEntries c (v ∷ []) = IsWritableDirectoryEntry c v 0
AreWritableEntries c (v ∷ w ∷ ws) = IsWritableDirectoryEntry c v
    (directory_entry_size c v + gap_to_8 (directory_entry_size c v)) × AreWritableEntries c (w ∷ ws)
