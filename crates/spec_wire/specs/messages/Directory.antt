-- The entries of a listing (MS-FSCC 2.4.8, 2.4.10, 2.4.14, 2.4.17, 2.4.18, 2.4.28), and a listing.
use Rattle.std.specs.Prelude.{◌≡◌, ℕ, ◌+◌, if◌then◌else◌, List, [], ◌∷◌, ◌++◌, length, Option, Some, None}
use Rattle.spec_wire.specs.messages.Places.{number, bytes_at}
use Rattle.spec_wire.specs.messages.Table.{Field, Num, Raw, Any, Stands, with_fields, AreWritable, widths, IsPart}
use Rattle.spec_wire.specs.messages.Fault.{◌or_else◌, short_fault, part_fault}
use Rattle.spec_wire.specs.messages.Chain.{IsChainOf, BreaksChain, is_badly_linked, piece, linked, chain_spelling}
use Rattle.spec_wire.specs.declared.messages.error.MessageError.{MessageError}
use Rattle.spec_wire.specs.declared.messages.error.MessageError.TheVariants.{BadOffset}
use Rattle.spec_wire.specs.declared.messages.error.Part.TheVariants.{Name, Output}
use Rattle.spec_wire.specs.declared.messages.directory_class.DirectoryClass.{DirectoryClass}
use Rattle.spec_wire.specs.declared.messages.directory_class.DirectoryClass.TheVariants as class

-- what a listing can tell of a file; a class tells some of it
pub record DirectoryEntryValue : Type 0 where
  pub creation_time : ℕ
  pub last_access_time : ℕ
  pub last_write_time : ℕ
  pub change_time : ℕ
  pub end_of_file : ℕ
  pub allocation_size : ℕ
  pub file_attributes : ℕ
  pub file_id : ℕ
  pub name : List ℕ

-- NextEntryOffset and FileIndex, which is passed over, begin each entry. All classes but names go on with the four
-- times, EndOfFile, AllocationSize, FileAttributes, FileNameLength.
abbrev pub entry_head : DirectoryEntryValue → ℕ → List Field
entry_head v next =
    Num 4 next ∷ Any 4 ∷ Num 8 v.creation_time ∷ Num 8 v.last_access_time ∷ Num 8 v.last_write_time ∷ Num 8 v.change_time
    ∷ Num 8 v.end_of_file ∷ Num 8 v.allocation_size ∷ Num 4 v.file_attributes ∷ Num 4 (length v.name) ∷ []

-- The fixed part, with the place of the next entry, counted from this one. What is passed over behind the head is EaSize
-- (4 bytes), ShortNameLength, a reserved byte and ShortName (1, 1 and 24), and reserved bytes before FileId (2 or 4).
abbrev pub directory_entry_table : DirectoryClass → DirectoryEntryValue → ℕ → List Field
directory_entry_table class.Directory v next = entry_head v next
directory_entry_table class.FullDirectory v next = entry_head v next ++ Any 4 ∷ []
directory_entry_table class.BothDirectory v next = entry_head v next ++ Any 4 ∷ Any 1 ∷ Any 1 ∷ Any 24 ∷ []
directory_entry_table class.Names v next = Num 4 next ∷ Any 4 ∷ Num 4 (length v.name) ∷ []
directory_entry_table class.IdBothDirectory v next = entry_head v next ++ Any 4 ∷ Any 1 ∷ Any 1 ∷ Any 24 ∷ Any 2 ∷ Num 8 v.file_id ∷ []
directory_entry_table class.IdFullDirectory v next = entry_head v next ++ Any 4 ∷ Any 4 ∷ Num 8 v.file_id ∷ []

-- the length of the fixed part
abbrev pub entry_size : DirectoryClass → ℕ
entry_size class.Directory = 64
entry_size class.FullDirectory = 68
entry_size class.BothDirectory = 94
entry_size class.Names = 12
entry_size class.IdBothDirectory = 104
entry_size class.IdFullDirectory = 80

-- the place of FileNameLength
abbrev pub name_length_place : DirectoryClass → ℕ
name_length_place class.Directory = 60
name_length_place class.FullDirectory = 60
name_length_place class.BothDirectory = 60
name_length_place class.Names = 8
name_length_place class.IdBothDirectory = 60
name_length_place class.IdFullDirectory = 60

-- FileId, where the class tells it
abbrev pub file_id_in : DirectoryClass → List ℕ → ℕ
file_id_in class.Directory m = 0
file_id_in class.FullDirectory m = 0
file_id_in class.BothDirectory m = 0
file_id_in class.Names m = 0
file_id_in class.IdBothDirectory m = number 8 m 96
file_id_in class.IdFullDirectory m = number 8 m 72

-- what the class doesn't tell is 0
abbrev pub TellsNoMore : DirectoryClass → DirectoryEntryValue → Type 0
TellsNoMore class.Directory v = v.file_id ≡ 0
TellsNoMore class.FullDirectory v = v.file_id ≡ 0
TellsNoMore class.BothDirectory v = v.file_id ≡ 0
TellsNoMore class.Names v =
    (v.creation_time ≡ 0) × (v.last_access_time ≡ 0) × (v.last_write_time ≡ 0) × (v.change_time ≡ 0) × (v.end_of_file ≡ 0)
    × (v.allocation_size ≡ 0) × (v.file_attributes ≡ 0) × (v.file_id ≡ 0)
TellsNoMore class.IdBothDirectory v = Unit {0}
TellsNoMore class.IdFullDirectory v = Unit {0}

-- m is this entry; other bytes may follow
pub record SpellsDirectoryEntry (c : DirectoryClass) (m : List ℕ) (v : DirectoryEntryValue) : Type 0 where
  pub fixed : Stands m 0 (directory_entry_table c v (number 4 m 0))
  pub name : IsPart m (entry_size c) (number 4 m (name_length_place c)) (entry_size c) v.name
  pub rest : TellsNoMore c v

-- the entry that stands in m
abbrev pub directory_entry_in : DirectoryClass → List ℕ → DirectoryEntryValue
directory_entry_in class.Names m = record {
  creation_time = 0;
  last_access_time = 0;
  last_write_time = 0;
  change_time = 0;
  end_of_file = 0;
  allocation_size = 0;
  file_attributes = 0;
  file_id = 0;
  name = bytes_at (number 4 m 8) m 12;
}
directory_entry_in c m = record {
  creation_time = number 8 m 8;
  last_access_time = number 8 m 16;
  last_write_time = number 8 m 24;
  change_time = number 8 m 32;
  end_of_file = number 8 m 40;
  allocation_size = number 8 m 48;
  file_attributes = number 4 m 56;
  file_id = file_id_in c m;
  name = bytes_at (number 4 m 60) m (entry_size c);
}

abbrev pub directory_entry_fault : DirectoryClass → List ℕ → Option MessageError
directory_entry_fault c m =
    short_fault m 0 (widths (directory_entry_table c (directory_entry_in c m) (number 4 m 0)))
    or_else part_fault m (entry_size c) (number 4 m (name_length_place c)) (entry_size c) Name

-- what is written: the name stands behind the fixed part
abbrev pub directory_entry_whole : DirectoryClass → DirectoryEntryValue → ℕ → List Field
directory_entry_whole c v next = directory_entry_table c v next ++ Raw (length v.name) v.name ∷ []

pub record IsWritableDirectoryEntry (c : DirectoryClass) (v : DirectoryEntryValue) (next : ℕ) : Type 0 where
  pub fits : AreWritable (directory_entry_whole c v next)
  pub rest : TellsNoMore c v

abbrev pub directory_entry_spelling : DirectoryClass → DirectoryEntryValue → ℕ → List ℕ
directory_entry_spelling c v next = with_fields [] (directory_entry_whole c v next)

-- ---- a listing: entries one behind the other

abbrev pub SpellsListing : DirectoryClass → List ℕ → List DirectoryEntryValue → Type 0
SpellsListing c m vs = IsChainOf (SpellsDirectoryEntry c) m vs

-- an entry that tells of a next one where none can be
unfoldable pub link_fault : List ℕ → Option MessageError
link_fault m = if is_badly_linked m then Some (BadOffset Output) else None

-- The first break of the entry that a listing begins with: NextEntryOffset doesn't fit or leads nowhere, then those of
-- the entry, which ends where the next one begins. The place of a field that doesn't fit is counted from the entry.
abbrev pub first_entry_fault : DirectoryClass → List ℕ → Option MessageError
first_entry_fault c m =
    short_fault m 0 (4 ∷ [])
    or_else link_fault m
    or_else directory_entry_fault c (piece m)

-- the first break of a listing
abbrev pub BreaksListing : DirectoryClass → List ℕ → MessageError → Type 0
BreaksListing c m e = BreaksChain (first_entry_fault c) m e

abbrev pub directory_entry_size : DirectoryClass → DirectoryEntryValue → ℕ
directory_entry_size c v = entry_size c + length v.name

-- an entry written where these follow
abbrev pub linked_entry : DirectoryClass → DirectoryEntryValue → List DirectoryEntryValue → List ℕ
linked_entry c v vs = linked (directory_entry_spelling c) (directory_entry_size c) v vs

abbrev pub listing_spelling : DirectoryClass → List DirectoryEntryValue → List ℕ
listing_spelling c vs = chain_spelling (directory_entry_spelling c) (directory_entry_size c) vs
