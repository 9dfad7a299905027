-- The QUERY_DIRECTORY request and response (MS-SMB2 2.2.33, 2.2.34).
use Rattle.std.specs.Prelude.{ℕ, List, [], ◌∷◌, Option, ◌++◌, length, ◌≡◌, true}
use Rattle.spec_wire.specs.messages.Places.{number, bytes_at}
use Rattle.spec_wire.specs.messages.Table.{Field, Num, Raw, Stands, with_fields, AreWritable, IsPart}
use Rattle.spec_wire.specs.messages.Aligned.{told}
use Rattle.spec_wire.specs.messages.Fault.{◌or_else◌, fields_fault, size_fault, part_fault}
use Rattle.spec_wire.specs.messages.Classes.{class_fault, is_directory_class}
use Rattle.spec_wire.specs.declared.messages.error.MessageError.{MessageError}
use Rattle.spec_wire.specs.declared.messages.error.Part.TheVariants.{Name, Output}

pub record QueryDirectoryRequestValue : Type 0 where
  pub file_information_class : ℕ
  pub flags : ℕ
  pub file_index : ℕ
  pub file_id : List ℕ
  pub output_buffer_length : ℕ
  pub name : List ℕ

-- The QUERY_DIRECTORY request (MS-SMB2 2.2.33): StructureSize, FileInformationClass, Flags, FileIndex, FileId,
-- place and length of the name, OutputBufferLength.
abbrev pub query_directory_request_table : QueryDirectoryRequestValue → ℕ → List Field
query_directory_request_table v name_at =
    Num 2 33 ∷ Num 1 v.file_information_class ∷ Num 1 v.flags ∷ Num 4 v.file_index ∷ Raw 16 v.file_id ∷ Num 2 name_at
    ∷ Num 2 (length v.name) ∷ Num 4 v.output_buffer_length ∷ []

-- m is a header and this request; other bytes may follow
pub record SpellsQueryDirectoryRequest (m : List ℕ) (v : QueryDirectoryRequestValue) : Type 0 where
  pub fixed : Stands m 64 (query_directory_request_table v (number 2 m 88))
  pub known : is_directory_class v.file_information_class ≡ true
  pub name : IsPart m (number 2 m 88) (number 2 m 90) 96 v.name

-- the request that stands in m
abbrev pub query_directory_request_in : List ℕ → QueryDirectoryRequestValue
query_directory_request_in m = record {
  file_information_class = number 1 m 66;
  flags = number 1 m 67;
  file_index = number 4 m 68;
  file_id = bytes_at 16 m 72;
  output_buffer_length = number 4 m 92;
  name = bytes_at (number 2 m 90) m (number 2 m 88);
}

abbrev pub query_directory_request_fault : List ℕ → Option MessageError
query_directory_request_fault m =
    fields_fault m (query_directory_request_table (query_directory_request_in m) (number 2 m 88))
    or_else size_fault m 33
    or_else class_fault (is_directory_class (number 1 m 66)) (number 1 m 66)
    or_else part_fault m (number 2 m 88) (number 2 m 90) 96 Name

-- What is written behind a header: the name stands behind the fixed part, and where it is empty, its place is
-- told as 0.
abbrev pub query_directory_request_whole : QueryDirectoryRequestValue → List Field
query_directory_request_whole v =
    query_directory_request_table v (told (length v.name) 96)
    ++ Raw (length v.name) v.name ∷ []

pub record IsWritableQueryDirectoryRequest (v : QueryDirectoryRequestValue) : Type 0 where
  pub fits : AreWritable (query_directory_request_whole v)
  pub known : is_directory_class v.file_information_class ≡ true

abbrev pub query_directory_request_spelling : QueryDirectoryRequestValue → List ℕ
query_directory_request_spelling v = with_fields [] (query_directory_request_whole v)

pub record QueryDirectoryResponseValue : Type 0 where
  pub output : List ℕ

-- The QUERY_DIRECTORY response (MS-SMB2 2.2.34): StructureSize, place and length of the output.
abbrev pub query_directory_response_table : QueryDirectoryResponseValue → ℕ → List Field
query_directory_response_table v output_at = Num 2 9 ∷ Num 2 output_at ∷ Num 4 (length v.output) ∷ []

-- m is a header and this response; other bytes may follow
pub record SpellsQueryDirectoryResponse (m : List ℕ) (v : QueryDirectoryResponseValue) : Type 0 where
  pub fixed : Stands m 64 (query_directory_response_table v (number 2 m 66))
  pub output : IsPart m (number 2 m 66) (number 4 m 68) 72 v.output

-- the response that stands in m
abbrev pub query_directory_response_in : List ℕ → QueryDirectoryResponseValue
query_directory_response_in m = record { output = bytes_at (number 4 m 68) m (number 2 m 66) }

abbrev pub query_directory_response_fault : List ℕ → Option MessageError
query_directory_response_fault m =
    fields_fault m (query_directory_response_table (query_directory_response_in m) (number 2 m 66))
    or_else size_fault m 9
    or_else part_fault m (number 2 m 66) (number 4 m 68) 72 Output

-- what is written behind a header: the output stands behind the fixed part
abbrev pub query_directory_response_whole : QueryDirectoryResponseValue → List Field
query_directory_response_whole v = query_directory_response_table v 72 ++ Raw (length v.output) v.output ∷ []

abbrev pub IsWritableQueryDirectoryResponse : QueryDirectoryResponseValue → Type 0
IsWritableQueryDirectoryResponse v = AreWritable (query_directory_response_whole v)

abbrev pub query_directory_response_spelling : QueryDirectoryResponseValue → List ℕ
query_directory_response_spelling v = with_fields [] (query_directory_response_whole v)
