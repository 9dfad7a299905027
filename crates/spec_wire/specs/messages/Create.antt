-- The CREATE request (MS-SMB2 2.2.13).
use Rattle.std.specs.Prelude.{ℕ, ◌+◌, ◌==◌, if◌then◌else◌, List, [], ◌∷◌, ◌++◌, length, Option}
use Rattle.spec_wire.specs.messages.Places.{number, bytes_at, gap_to_8}
use Rattle.spec_wire.specs.messages.Table.{Field, Num, Raw, Any, Stands, with_fields, AreWritable, IsPart, filler}
use Rattle.spec_wire.specs.messages.Fault.{◌or_else◌, fields_fault, size_fault, part_fault}
use Rattle.spec_wire.specs.declared.messages.error.MessageError.{MessageError}
use Rattle.spec_wire.specs.declared.messages.error.Part.TheVariants.{Name, Contexts}

pub record CreateRequestValue : Type 0 where
  pub requested_oplock_level : ℕ
  pub impersonation_level : ℕ
  pub desired_access : ℕ
  pub file_attributes : ℕ
  pub share_access : ℕ
  pub create_disposition : ℕ
  pub create_options : ℕ
  pub name : List ℕ
  pub contexts : List ℕ

-- The fixed part, with the places of the name and of the contexts: StructureSize, SecurityFlags,
-- RequestedOplockLevel, ImpersonationLevel, SmbCreateFlags, Reserved, DesiredAccess, FileAttributes, ShareAccess,
-- CreateDisposition, CreateOptions, then place and length of the two parts. SecurityFlags and SmbCreateFlags are
-- reserved.
abbrev pub create_request_table : CreateRequestValue → ℕ → ℕ → List Field
create_request_table v name_at contexts_at =
    Num 2 57 ∷ Any 1 ∷ Num 1 v.requested_oplock_level ∷ Num 4 v.impersonation_level ∷ Any 8 ∷ Any 8
    ∷ Num 4 v.desired_access ∷ Num 4 v.file_attributes ∷ Num 4 v.share_access ∷ Num 4 v.create_disposition
    ∷ Num 4 v.create_options ∷ Num 2 name_at ∷ Num 2 (length v.name) ∷ Num 4 contexts_at ∷ Num 4 (length v.contexts) ∷ []

-- m is a header and this request; other bytes may follow
pub record SpellsCreateRequest (m : List ℕ) (v : CreateRequestValue) : Type 0 where
  pub fixed : Stands m 64 (create_request_table v (number 2 m 108) (number 4 m 112))
  pub name : IsPart m (number 2 m 108) (number 2 m 110) 120 v.name
  pub contexts : IsPart m (number 4 m 112) (number 4 m 116) 120 v.contexts

-- the request that stands in m
abbrev pub create_request_in : List ℕ → CreateRequestValue
create_request_in m = record {
  requested_oplock_level = number 1 m 67;
  impersonation_level = number 4 m 68;
  desired_access = number 4 m 88;
  file_attributes = number 4 m 92;
  share_access = number 4 m 96;
  create_disposition = number 4 m 100;
  create_options = number 4 m 104;
  name = bytes_at (number 2 m 110) m (number 2 m 108);
  contexts = bytes_at (number 4 m 116) m (number 4 m 112);
}

abbrev pub create_request_fault : List ℕ → Option MessageError
create_request_fault m =
    fields_fault m (create_request_table (create_request_in m) (number 2 m 108) (number 4 m 112))
    or_else size_fault m 57
    or_else part_fault m (number 2 m 108) (number 2 m 110) 120 Name
    or_else part_fault m (number 4 m 112) (number 4 m 116) 120 Contexts

-- Contexts begin at the next multiple of 8 behind the name; where there are none, nothing stands for them and
-- their place is told as 0.
abbrev pub contexts_gap : CreateRequestValue → ℕ
contexts_gap v = if length v.contexts == 0 then 0 else gap_to_8 (length v.name)

abbrev pub contexts_place : CreateRequestValue → ℕ
contexts_place v = if length v.contexts == 0 then 0 else 120 + length v.name + gap_to_8 (length v.name)

-- What is written behind a header: the name, the gap, the contexts. One zero byte stands there where both are
-- empty, since one byte at least must stand behind the fixed part.
abbrev pub create_request_whole : CreateRequestValue → List Field
create_request_whole v =
    create_request_table v 120 (contexts_place v)
    ++ Raw (length v.name) v.name ∷ Any (contexts_gap v) ∷ Raw (length v.contexts) v.contexts
    ∷ Any (filler (length v.name + length v.contexts)) ∷ []

abbrev pub IsWritableCreateRequest : CreateRequestValue → Type 0
IsWritableCreateRequest v = AreWritable (create_request_whole v)

abbrev pub create_request_spelling : CreateRequestValue → List ℕ
create_request_spelling v = with_fields [] (create_request_whole v)
