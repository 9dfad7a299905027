-- The error response (MS-SMB2 2.2.2).
use Rattle.std.specs.Prelude.{ℕ, List, [], ◌∷◌, Option}
use Rattle.spec_wire.specs.messages.Places.{number}
use Rattle.spec_wire.specs.messages.Table.{Field, Num, Any, Stands, with_fields, AreWritable}
use Rattle.spec_wire.specs.messages.Fault.{◌or_else◌, fields_fault, size_fault}
use Rattle.spec_wire.specs.declared.messages.error.MessageError.{MessageError}
use Rattle.spec_wire.specs.declared.messages.message.ErrorResponse.{ErrorResponse}

-- StructureSize, ErrorContextCount, Reserved, ByteCount, and the one byte that stands there where there is no
-- error data
abbrev pub error_response_table : ErrorResponse → List Field
error_response_table v = Num 2 9 ∷ Num 1 v.error_context_count ∷ Any 1 ∷ Num 4 v.byte_count ∷ Any 1 ∷ []

-- m is a header and this response; other bytes may follow
abbrev pub SpellsErrorResponse : List ℕ → ErrorResponse → Type 0
SpellsErrorResponse m v = Stands m 64 (error_response_table v)

-- the response that stands in m
abbrev pub error_response_in : List ℕ → ErrorResponse
error_response_in m = record { error_context_count = number 1 m 66; byte_count = number 4 m 68 }

abbrev pub error_response_fault : List ℕ → Option MessageError
error_response_fault m = fields_fault m (error_response_table (error_response_in m)) or_else size_fault m 9

abbrev pub IsWritableErrorResponse : ErrorResponse → Type 0
IsWritableErrorResponse v = AreWritable (error_response_table v)

abbrev pub error_response_spelling : ErrorResponse → List ℕ
error_response_spelling v = with_fields [] (error_response_table v)
