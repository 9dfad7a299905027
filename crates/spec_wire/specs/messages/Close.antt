-- The CLOSE request and response (MS-SMB2 2.2.15, 2.2.16).
use Rattle.std.specs.Prelude.{ℕ, List, [], ◌∷◌, Option}
use Rattle.spec_wire.specs.messages.Places.{number, bytes_at}
use Rattle.spec_wire.specs.messages.Table.{Field, Num, Raw, Any, Stands, with_fields, AreWritable}
use Rattle.spec_wire.specs.messages.Fault.{◌or_else◌, fields_fault, size_fault}
use Rattle.spec_wire.specs.declared.messages.error.MessageError.{MessageError}
use Rattle.spec_wire.specs.declared.messages.file_message.CloseRequest.{CloseRequest}
use Rattle.spec_wire.specs.declared.messages.file_message.CloseResponse.{CloseResponse}

-- The CLOSE request (MS-SMB2 2.2.15): StructureSize, Flags, Reserved, FileId.
abbrev pub close_request_table : CloseRequest → List Field
close_request_table v = Num 2 24 ∷ Num 2 v.flags ∷ Any 4 ∷ Raw 16 v.file_id ∷ []

-- m is a header and this request; other bytes may follow
abbrev pub SpellsCloseRequest : List ℕ → CloseRequest → Type 0
SpellsCloseRequest m v = Stands m 64 (close_request_table v)

-- the request that stands in m
abbrev pub close_request_in : List ℕ → CloseRequest
close_request_in m = record { flags = number 2 m 66; file_id = bytes_at 16 m 72 }

abbrev pub close_request_fault : List ℕ → Option MessageError
close_request_fault m = fields_fault m (close_request_table (close_request_in m)) or_else size_fault m 24

abbrev pub IsWritableCloseRequest : CloseRequest → Type 0
IsWritableCloseRequest v = AreWritable (close_request_table v)

abbrev pub close_request_spelling : CloseRequest → List ℕ
close_request_spelling v = with_fields [] (close_request_table v)

-- The CLOSE response (MS-SMB2 2.2.16): StructureSize, Flags, Reserved, CreationTime, LastAccessTime, LastWriteTime,
-- ChangeTime, AllocationSize, EndOfFile, FileAttributes.
abbrev pub close_response_table : CloseResponse → List Field
close_response_table v =
    Num 2 60 ∷ Num 2 v.flags ∷ Any 4 ∷ Num 8 v.creation_time ∷ Num 8 v.last_access_time ∷ Num 8 v.last_write_time
    ∷ Num 8 v.change_time ∷ Num 8 v.allocation_size ∷ Num 8 v.end_of_file ∷ Num 4 v.file_attributes ∷ []

-- m is a header and this response; other bytes may follow
abbrev pub SpellsCloseResponse : List ℕ → CloseResponse → Type 0
SpellsCloseResponse m v = Stands m 64 (close_response_table v)

-- the response that stands in m
abbrev pub close_response_in : List ℕ → CloseResponse
close_response_in m = record {
  flags = number 2 m 66;
  creation_time = number 8 m 72;
  last_access_time = number 8 m 80;
  last_write_time = number 8 m 88;
  change_time = number 8 m 96;
  allocation_size = number 8 m 104;
  end_of_file = number 8 m 112;
  file_attributes = number 4 m 120;
}

abbrev pub close_response_fault : List ℕ → Option MessageError
close_response_fault m = fields_fault m (close_response_table (close_response_in m)) or_else size_fault m 60

abbrev pub IsWritableCloseResponse : CloseResponse → Type 0
IsWritableCloseResponse v = AreWritable (close_response_table v)

abbrev pub close_response_spelling : CloseResponse → List ℕ
close_response_spelling v = with_fields [] (close_response_table v)
