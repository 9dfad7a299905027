-- The WRITE request and response (MS-SMB2 2.2.21, 2.2.22).
use Rattle.std.specs.Prelude.{ℕ, List, [], ◌∷◌, ◌++◌, length, Option}
use Rattle.spec_wire.specs.messages.Places.{number, bytes_at}
use Rattle.spec_wire.specs.messages.Table.{Field, Num, Raw, Any, Stands, with_fields, AreWritable, IsPart}
use Rattle.spec_wire.specs.messages.Fault.{◌or_else◌, fields_fault, size_fault, part_fault}
use Rattle.spec_wire.specs.declared.messages.error.MessageError.{MessageError}
use Rattle.spec_wire.specs.declared.messages.error.Part.TheVariants.{Payload}
use Rattle.spec_wire.specs.declared.messages.message.WriteResponse.{WriteResponse}

pub record WriteRequestValue : Type 0 where
  pub offset : ℕ
  pub file_id : List ℕ
  pub channel : ℕ
  pub remaining_bytes : ℕ
  pub flags : ℕ
  pub payload : List ℕ

-- The fixed part of the request, with the place of the payload: StructureSize, DataOffset, Length, Offset, FileId,
-- Channel, RemainingBytes, place and length of the channel information, which are passed over, Flags.
abbrev pub write_request_table : WriteRequestValue → ℕ → List Field
write_request_table v at =
    Num 2 49 ∷ Num 2 at ∷ Num 4 (length v.payload) ∷ Num 8 v.offset ∷ Raw 16 v.file_id ∷ Num 4 v.channel
    ∷ Num 4 v.remaining_bytes ∷ Any 2 ∷ Any 2 ∷ Num 4 v.flags ∷ []

-- m is a header and this request; other bytes may follow
pub record SpellsWriteRequest (m : List ℕ) (v : WriteRequestValue) : Type 0 where
  pub fixed : Stands m 64 (write_request_table v (number 2 m 66))
  pub payload : IsPart m (number 2 m 66) (number 4 m 68) 112 v.payload

-- the request that stands in m
abbrev pub write_request_in : List ℕ → WriteRequestValue
write_request_in m = record {
  offset = number 8 m 72;
  file_id = bytes_at 16 m 80;
  channel = number 4 m 96;
  remaining_bytes = number 4 m 100;
  flags = number 4 m 108;
  payload = bytes_at (number 4 m 68) m (number 2 m 66);
}

abbrev pub write_request_fault : List ℕ → Option MessageError
write_request_fault m =
    fields_fault m (write_request_table (write_request_in m) (number 2 m 66))
    or_else size_fault m 49
    or_else part_fault m (number 2 m 66) (number 4 m 68) 112 Payload

-- what is written behind a header: the payload stands behind the fixed part
abbrev pub write_request_whole : WriteRequestValue → List Field
write_request_whole v = write_request_table v 112 ++ Raw (length v.payload) v.payload ∷ []

abbrev pub IsWritableWriteRequest : WriteRequestValue → Type 0
IsWritableWriteRequest v = AreWritable (write_request_whole v)

abbrev pub write_request_spelling : WriteRequestValue → List ℕ
write_request_spelling v = with_fields [] (write_request_whole v)

-- The response: StructureSize, Reserved, Count, Remaining, place and length of the channel information, which are
-- passed over.
abbrev pub write_response_table : WriteResponse → List Field
write_response_table v = Num 2 17 ∷ Any 2 ∷ Num 4 v.count ∷ Num 4 v.remaining ∷ Any 2 ∷ Any 2 ∷ []

abbrev pub SpellsWriteResponse : List ℕ → WriteResponse → Type 0
SpellsWriteResponse m v = Stands m 64 (write_response_table v)

-- the response that stands in m
abbrev pub write_response_in : List ℕ → WriteResponse
write_response_in m = record { count = number 4 m 68; remaining = number 4 m 72 }

abbrev pub write_response_fault : List ℕ → Option MessageError
write_response_fault m = fields_fault m (write_response_table (write_response_in m)) or_else size_fault m 17

abbrev pub IsWritableWriteResponse : WriteResponse → Type 0
IsWritableWriteResponse v = AreWritable (write_response_table v)

abbrev pub write_response_spelling : WriteResponse → List ℕ
write_response_spelling v = with_fields [] (write_response_table v)
