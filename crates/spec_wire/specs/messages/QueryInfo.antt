-- The QUERY_INFO request and response (MS-SMB2 2.2.37, 2.2.38).
use Rattle.std.specs.Prelude.{ℕ, List, [], ◌∷◌, Option, ◌++◌, length, ◌≡◌, true}
use Rattle.spec_wire.specs.messages.Places.{number, bytes_at}
use Rattle.spec_wire.specs.messages.Table.{Field, Num, Raw, Any, Stands, with_fields, AreWritable, IsPart}
use Rattle.spec_wire.specs.messages.Aligned.{told}
use Rattle.spec_wire.specs.messages.Fault.{◌or_else◌, fields_fault, size_fault, part_fault}
use Rattle.spec_wire.specs.messages.Classes.{class_fault, is_query_class}
use Rattle.spec_wire.specs.declared.messages.error.MessageError.{MessageError}
use Rattle.spec_wire.specs.declared.messages.error.Part.TheVariants.{Input, Output}

pub record QueryInfoRequestValue : Type 0 where
  pub info_type : ℕ
  pub file_info_class : ℕ
  pub output_buffer_length : ℕ
  pub additional_information : ℕ
  pub flags : ℕ
  pub file_id : List ℕ
  pub input : List ℕ

-- The QUERY_INFO request (MS-SMB2 2.2.37): StructureSize, InfoType, FileInfoClass, OutputBufferLength, place of the
-- input, Reserved, length of the input, AdditionalInformation, Flags, FileId.
abbrev pub query_info_request_table : QueryInfoRequestValue → ℕ → List Field
query_info_request_table v input_at =
    Num 2 41 ∷ Num 1 v.info_type ∷ Num 1 v.file_info_class ∷ Num 4 v.output_buffer_length ∷ Num 2 input_at ∷ Any 2
    ∷ Num 4 (length v.input) ∷ Num 4 v.additional_information ∷ Num 4 v.flags ∷ Raw 16 v.file_id ∷ []

-- m is a header and this request; other bytes may follow
pub record SpellsQueryInfoRequest (m : List ℕ) (v : QueryInfoRequestValue) : Type 0 where
  pub fixed : Stands m 64 (query_info_request_table v (number 2 m 72))
  pub known : is_query_class v.info_type v.file_info_class ≡ true
  pub input : IsPart m (number 2 m 72) (number 4 m 76) 104 v.input

-- the request that stands in m
abbrev pub query_info_request_in : List ℕ → QueryInfoRequestValue
query_info_request_in m = record {
  info_type = number 1 m 66;
  file_info_class = number 1 m 67;
  output_buffer_length = number 4 m 68;
  additional_information = number 4 m 80;
  flags = number 4 m 84;
  file_id = bytes_at 16 m 88;
  input = bytes_at (number 4 m 76) m (number 2 m 72);
}

abbrev pub query_info_request_fault : List ℕ → Option MessageError
query_info_request_fault m =
    fields_fault m (query_info_request_table (query_info_request_in m) (number 2 m 72))
    or_else size_fault m 41
    or_else class_fault (is_query_class (number 1 m 66) (number 1 m 67)) (number 1 m 67)
    or_else part_fault m (number 2 m 72) (number 4 m 76) 104 Input

-- What is written behind a header: the input stands behind the fixed part, and where it is empty, its place is
-- told as 0.
abbrev pub query_info_request_whole : QueryInfoRequestValue → List Field
query_info_request_whole v =
    query_info_request_table v (told (length v.input) 104)
    ++ Raw (length v.input) v.input ∷ []

pub record IsWritableQueryInfoRequest (v : QueryInfoRequestValue) : Type 0 where
  pub fits : AreWritable (query_info_request_whole v)
  pub known : is_query_class v.info_type v.file_info_class ≡ true

abbrev pub query_info_request_spelling : QueryInfoRequestValue → List ℕ
query_info_request_spelling v = with_fields [] (query_info_request_whole v)

pub record QueryInfoResponseValue : Type 0 where
  pub output : List ℕ

-- The QUERY_INFO response (MS-SMB2 2.2.38): StructureSize, place and length of the output.
abbrev pub query_info_response_table : QueryInfoResponseValue → ℕ → List Field
query_info_response_table v output_at = Num 2 9 ∷ Num 2 output_at ∷ Num 4 (length v.output) ∷ []

-- m is a header and this response; other bytes may follow
pub record SpellsQueryInfoResponse (m : List ℕ) (v : QueryInfoResponseValue) : Type 0 where
  pub fixed : Stands m 64 (query_info_response_table v (number 2 m 66))
  pub output : IsPart m (number 2 m 66) (number 4 m 68) 72 v.output

-- the response that stands in m
abbrev pub query_info_response_in : List ℕ → QueryInfoResponseValue
query_info_response_in m = record { output = bytes_at (number 4 m 68) m (number 2 m 66) }

abbrev pub query_info_response_fault : List ℕ → Option MessageError
query_info_response_fault m =
    fields_fault m (query_info_response_table (query_info_response_in m) (number 2 m 66))
    or_else size_fault m 9
    or_else part_fault m (number 2 m 66) (number 4 m 68) 72 Output

-- what is written behind a header: the output stands behind the fixed part
abbrev pub query_info_response_whole : QueryInfoResponseValue → List Field
query_info_response_whole v = query_info_response_table v 72 ++ Raw (length v.output) v.output ∷ []

abbrev pub IsWritableQueryInfoResponse : QueryInfoResponseValue → Type 0
IsWritableQueryInfoResponse v = AreWritable (query_info_response_whole v)

abbrev pub query_info_response_spelling : QueryInfoResponseValue → List ℕ
query_info_response_spelling v = with_fields [] (query_info_response_whole v)
