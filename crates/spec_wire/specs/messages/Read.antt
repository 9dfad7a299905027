-- The READ request and response (MS-SMB2 2.2.19, 2.2.20).
use Rattle.std.specs.Prelude.{ℕ, List, [], ◌∷◌, ◌++◌, length, Option}
use Rattle.spec_wire.specs.messages.Places.{number, bytes_at}
use Rattle.spec_wire.specs.messages.Table.{Field, Num, Raw, Any, Stands, with_fields, AreWritable, IsPart, filler}
use Rattle.spec_wire.specs.messages.Fault.{◌or_else◌, fields_fault, size_fault, part_fault}
use Rattle.spec_wire.specs.declared.messages.error.MessageError.{MessageError}
use Rattle.spec_wire.specs.declared.messages.error.Part.TheVariants.{Payload}
use Rattle.spec_wire.specs.declared.messages.message.ReadRequest.{ReadRequest}

-- The request: StructureSize, Padding, Flags, Length, Offset, FileId, MinimumCount, Channel, RemainingBytes,
-- place and length of the channel information, which are passed over, and one byte.
abbrev pub read_request_table : ReadRequest → List Field
read_request_table v =
    Num 2 49 ∷ Any 1 ∷ Num 1 v.flags ∷ Num 4 v.length ∷ Num 8 v.offset ∷ Raw 16 v.file_id ∷ Num 4 v.minimum_count
    ∷ Num 4 v.channel ∷ Num 4 v.remaining_bytes ∷ Any 2 ∷ Any 2 ∷ Any 1 ∷ []

-- m is a header and this request; other bytes may follow
abbrev pub SpellsReadRequest : List ℕ → ReadRequest → Type 0
SpellsReadRequest m v = Stands m 64 (read_request_table v)

-- the request that stands in m
abbrev pub read_request_in : List ℕ → ReadRequest
read_request_in m = record {
  flags = number 1 m 67;
  length = number 4 m 68;
  offset = number 8 m 72;
  file_id = bytes_at 16 m 80;
  minimum_count = number 4 m 96;
  channel = number 4 m 100;
  remaining_bytes = number 4 m 104;
}

abbrev pub read_request_fault : List ℕ → Option MessageError
read_request_fault m =
    fields_fault m (read_request_table (read_request_in m))
    or_else size_fault m 49

abbrev pub IsWritableReadRequest : ReadRequest → Type 0
IsWritableReadRequest v = AreWritable (read_request_table v)

-- the canonical spelling, which stands behind a header
abbrev pub read_request_spelling : ReadRequest → List ℕ
read_request_spelling v = with_fields [] (read_request_table v)

pub record ReadResponseValue : Type 0 where
  pub data_remaining : ℕ
  pub payload : List ℕ

-- The fixed part of the response, with the place of the payload: StructureSize, DataOffset, DataLength,
-- DataRemaining.
abbrev pub read_response_table : ReadResponseValue → ℕ → List Field
read_response_table v at =
    Num 2 17 ∷ Num 1 at ∷ Any 1 ∷ Num 4 (length v.payload) ∷ Num 4 v.data_remaining ∷ Any 4 ∷ []

-- m is a header and this response; other bytes may follow
pub record SpellsReadResponse (m : List ℕ) (v : ReadResponseValue) : Type 0 where
  pub fixed : Stands m 64 (read_response_table v (number 1 m 66))
  pub payload : IsPart m (number 1 m 66) (number 4 m 68) 80 v.payload

-- the response that stands in m
abbrev pub read_response_in : List ℕ → ReadResponseValue
read_response_in m = record { data_remaining = number 4 m 72; payload = bytes_at (number 4 m 68) m (number 1 m 66) }

abbrev pub read_response_fault : List ℕ → Option MessageError
read_response_fault m =
    fields_fault m (read_response_table (read_response_in m) (number 1 m 66))
    or_else size_fault m 17
    or_else part_fault m (number 1 m 66) (number 4 m 68) 80 Payload

-- What is written behind a header: the payload stands behind the fixed part. One zero byte stands for an empty
-- payload, since one byte at least must stand there.
abbrev pub read_response_whole : ReadResponseValue → List Field
read_response_whole v = read_response_table v 80 ++ Raw (length v.payload) v.payload ∷ Any (filler (length v.payload)) ∷ []

abbrev pub IsWritableReadResponse : ReadResponseValue → Type 0
IsWritableReadResponse v = AreWritable (read_response_whole v)

abbrev pub read_response_spelling : ReadResponseValue → List ℕ
read_response_spelling v = with_fields [] (read_response_whole v)
