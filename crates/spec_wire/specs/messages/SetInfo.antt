-- The SET_INFO request and response (MS-SMB2 2.2.39, 2.2.40).
use Rattle.std.specs.Prelude.{ℕ, List, [], ◌∷◌, Option, ◌++◌, length, ◌≡◌, true}
use Rattle.spec_wire.specs.messages.Places.{number, bytes_at}
use Rattle.spec_wire.specs.messages.Table.{Field, Num, Raw, Any, Stands, with_fields, AreWritable, IsPart}
use Rattle.spec_wire.specs.messages.Fault.{◌or_else◌, fields_fault, size_fault, part_fault}
use Rattle.spec_wire.specs.messages.Classes.{class_fault, is_set_class}
use Rattle.spec_wire.specs.declared.messages.error.MessageError.{MessageError}
use Rattle.spec_wire.specs.declared.messages.error.Part.TheVariants.{Payload}
use Rattle.spec_wire.specs.declared.messages.file_message.SetInfoResponse.{SetInfoResponse}

pub record SetInfoRequestValue : Type 0 where
  pub info_type : ℕ
  pub file_info_class : ℕ
  pub additional_information : ℕ
  pub file_id : List ℕ
  pub payload : List ℕ

-- The SET_INFO request (MS-SMB2 2.2.39): StructureSize, InfoType, FileInfoClass, length and place of the payload,
-- Reserved, AdditionalInformation, FileId.
abbrev pub set_info_request_table : SetInfoRequestValue → ℕ → List Field
set_info_request_table v payload_at =
    Num 2 33 ∷ Num 1 v.info_type ∷ Num 1 v.file_info_class ∷ Num 4 (length v.payload) ∷ Num 2 payload_at ∷ Any 2
    ∷ Num 4 v.additional_information ∷ Raw 16 v.file_id ∷ []

-- m is a header and this request; other bytes may follow
pub record SpellsSetInfoRequest (m : List ℕ) (v : SetInfoRequestValue) : Type 0 where
  pub fixed : Stands m 64 (set_info_request_table v (number 2 m 72))
  pub known : is_set_class v.info_type v.file_info_class ≡ true
  pub payload : IsPart m (number 2 m 72) (number 4 m 68) 96 v.payload

-- the request that stands in m
abbrev pub set_info_request_in : List ℕ → SetInfoRequestValue
set_info_request_in m = record {
  info_type = number 1 m 66;
  file_info_class = number 1 m 67;
  additional_information = number 4 m 76;
  file_id = bytes_at 16 m 80;
  payload = bytes_at (number 4 m 68) m (number 2 m 72);
}

abbrev pub set_info_request_fault : List ℕ → Option MessageError
set_info_request_fault m =
    fields_fault m (set_info_request_table (set_info_request_in m) (number 2 m 72))
    or_else size_fault m 33
    or_else class_fault (is_set_class (number 1 m 66) (number 1 m 67)) (number 1 m 67)
    or_else part_fault m (number 2 m 72) (number 4 m 68) 96 Payload

-- what is written behind a header: the payload stands behind the fixed part
abbrev pub set_info_request_whole : SetInfoRequestValue → List Field
set_info_request_whole v = set_info_request_table v 96 ++ Raw (length v.payload) v.payload ∷ []

pub record IsWritableSetInfoRequest (v : SetInfoRequestValue) : Type 0 where
  pub fits : AreWritable (set_info_request_whole v)
  pub known : is_set_class v.info_type v.file_info_class ≡ true

abbrev pub set_info_request_spelling : SetInfoRequestValue → List ℕ
set_info_request_spelling v = with_fields [] (set_info_request_whole v)

-- The SET_INFO response (MS-SMB2 2.2.40): StructureSize.
abbrev pub set_info_response_table : SetInfoResponse → List Field
set_info_response_table v = Num 2 2 ∷ []

-- m is a header and this response; other bytes may follow
abbrev pub SpellsSetInfoResponse : List ℕ → SetInfoResponse → Type 0
SpellsSetInfoResponse m v = Stands m 64 (set_info_response_table v)

-- the response that stands in m
abbrev pub set_info_response_in : List ℕ → SetInfoResponse
set_info_response_in m = record {}

abbrev pub set_info_response_fault : List ℕ → Option MessageError
set_info_response_fault m = fields_fault m (set_info_response_table (set_info_response_in m)) or_else size_fault m 2

abbrev pub IsWritableSetInfoResponse : SetInfoResponse → Type 0
IsWritableSetInfoResponse v = AreWritable (set_info_response_table v)

abbrev pub set_info_response_spelling : SetInfoResponse → List ℕ
set_info_response_spelling v = with_fields [] (set_info_response_table v)
