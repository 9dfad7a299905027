-- The FLUSH request and response (MS-SMB2 2.2.17, 2.2.18).
use Rattle.std.specs.Prelude.{ℕ, List, [], ◌∷◌, Option}
use Rattle.spec_wire.specs.messages.Places.{bytes_at}
use Rattle.spec_wire.specs.messages.Table.{Field, Num, Raw, Any, Stands, with_fields, AreWritable}
use Rattle.spec_wire.specs.messages.Fault.{◌or_else◌, fields_fault, size_fault}
use Rattle.spec_wire.specs.declared.messages.error.MessageError.{MessageError}
use Rattle.spec_wire.specs.declared.messages.file_message.FlushRequest.{FlushRequest}
use Rattle.spec_wire.specs.declared.messages.file_message.FlushResponse.{FlushResponse}

-- The FLUSH request (MS-SMB2 2.2.17): StructureSize, Reserved, Reserved2, FileId.
abbrev pub flush_request_table : FlushRequest → List Field
flush_request_table v = Num 2 24 ∷ Any 2 ∷ Any 4 ∷ Raw 16 v.file_id ∷ []

-- m is a header and this request; other bytes may follow
abbrev pub SpellsFlushRequest : List ℕ → FlushRequest → Type 0
SpellsFlushRequest m v = Stands m 64 (flush_request_table v)

-- the request that stands in m
abbrev pub flush_request_in : List ℕ → FlushRequest
flush_request_in m = record { file_id = bytes_at 16 m 72 }

abbrev pub flush_request_fault : List ℕ → Option MessageError
flush_request_fault m = fields_fault m (flush_request_table (flush_request_in m)) or_else size_fault m 24

abbrev pub IsWritableFlushRequest : FlushRequest → Type 0
IsWritableFlushRequest v = AreWritable (flush_request_table v)

abbrev pub flush_request_spelling : FlushRequest → List ℕ
flush_request_spelling v = with_fields [] (flush_request_table v)

-- The FLUSH response (MS-SMB2 2.2.18): StructureSize, Reserved.
abbrev pub flush_response_table : FlushResponse → List Field
flush_response_table v = Num 2 4 ∷ Any 2 ∷ []

-- m is a header and this response; other bytes may follow
abbrev pub SpellsFlushResponse : List ℕ → FlushResponse → Type 0
SpellsFlushResponse m v = Stands m 64 (flush_response_table v)

-- the response that stands in m
abbrev pub flush_response_in : List ℕ → FlushResponse
flush_response_in m = record {}

abbrev pub flush_response_fault : List ℕ → Option MessageError
flush_response_fault m = fields_fault m (flush_response_table (flush_response_in m)) or_else size_fault m 4

abbrev pub IsWritableFlushResponse : FlushResponse → Type 0
IsWritableFlushResponse v = AreWritable (flush_response_table v)

abbrev pub flush_response_spelling : FlushResponse → List ℕ
flush_response_spelling v = with_fields [] (flush_response_table v)
