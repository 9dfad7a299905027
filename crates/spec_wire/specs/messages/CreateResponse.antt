-- The CREATE response (MS-SMB2 2.2.14).
use Rattle.std.specs.Prelude.{ℕ, List, [], ◌∷◌, Option, ◌++◌, length}
use Rattle.spec_wire.specs.messages.Places.{number, bytes_at}
use Rattle.spec_wire.specs.messages.Table.{Field, Num, Raw, Any, Stands, with_fields, AreWritable, IsPart}
use Rattle.spec_wire.specs.messages.Aligned.{told}
use Rattle.spec_wire.specs.messages.Fault.{◌or_else◌, fields_fault, size_fault, part_fault}
use Rattle.spec_wire.specs.declared.messages.error.MessageError.{MessageError}
use Rattle.spec_wire.specs.declared.messages.error.Part.TheVariants.{Contexts}

pub record CreateResponseValue : Type 0 where
  pub oplock_level : ℕ
  pub flags : ℕ
  pub create_action : ℕ
  pub creation_time : ℕ
  pub last_access_time : ℕ
  pub last_write_time : ℕ
  pub change_time : ℕ
  pub allocation_size : ℕ
  pub end_of_file : ℕ
  pub file_attributes : ℕ
  pub file_id : List ℕ
  pub contexts : List ℕ

-- The CREATE response (MS-SMB2 2.2.14): StructureSize, OplockLevel, Flags, CreateAction, CreationTime,
-- LastAccessTime, LastWriteTime, ChangeTime, AllocationSize, EndOfFile, FileAttributes, Reserved, FileId, place and
-- length of the contexts.
abbrev pub create_response_table : CreateResponseValue → ℕ → List Field
create_response_table v contexts_at =
    Num 2 89 ∷ Num 1 v.oplock_level ∷ Num 1 v.flags ∷ Num 4 v.create_action ∷ Num 8 v.creation_time
    ∷ Num 8 v.last_access_time ∷ Num 8 v.last_write_time ∷ Num 8 v.change_time ∷ Num 8 v.allocation_size
    ∷ Num 8 v.end_of_file ∷ Num 4 v.file_attributes ∷ Any 4 ∷ Raw 16 v.file_id ∷ Num 4 contexts_at
    ∷ Num 4 (length v.contexts) ∷ []

-- m is a header and this response; other bytes may follow
pub record SpellsCreateResponse (m : List ℕ) (v : CreateResponseValue) : Type 0 where
  pub fixed : Stands m 64 (create_response_table v (number 4 m 144))
  pub contexts : IsPart m (number 4 m 144) (number 4 m 148) 152 v.contexts

-- the response that stands in m
abbrev pub create_response_in : List ℕ → CreateResponseValue
create_response_in m = record {
  oplock_level = number 1 m 66;
  flags = number 1 m 67;
  create_action = number 4 m 68;
  creation_time = number 8 m 72;
  last_access_time = number 8 m 80;
  last_write_time = number 8 m 88;
  change_time = number 8 m 96;
  allocation_size = number 8 m 104;
  end_of_file = number 8 m 112;
  file_attributes = number 4 m 120;
  file_id = bytes_at 16 m 128;
  contexts = bytes_at (number 4 m 148) m (number 4 m 144);
}

abbrev pub create_response_fault : List ℕ → Option MessageError
create_response_fault m =
    fields_fault m (create_response_table (create_response_in m) (number 4 m 144))
    or_else size_fault m 89
    or_else part_fault m (number 4 m 144) (number 4 m 148) 152 Contexts

-- What is written behind a header: the contexts stands behind the fixed part, and where it is empty, its place is
-- told as 0.
abbrev pub create_response_whole : CreateResponseValue → List Field
create_response_whole v =
    create_response_table v (told (length v.contexts) 152)
    ++ Raw (length v.contexts) v.contexts ∷ []

abbrev pub IsWritableCreateResponse : CreateResponseValue → Type 0
IsWritableCreateResponse v = AreWritable (create_response_whole v)

abbrev pub create_response_spelling : CreateResponseValue → List ℕ
create_response_spelling v = with_fields [] (create_response_whole v)
