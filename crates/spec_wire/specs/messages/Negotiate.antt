-- The NEGOTIATE request and response (MS-SMB2 2.2.3, 2.2.4).
use Rattle.std.specs.Prelude.{ℕ, ◌+◌, ◌*◌, ◌/◌, ◌<◌, List, [], ◌∷◌, ◌++◌, length, Option}
use Rattle.spec_wire.specs.messages.Places.{number, bytes_at}
use Rattle.spec_wire.specs.messages.Table.{Field, Num, Raw, Any, Stands, with_fields, AreWritable, IsPart, IsCounted}
use Rattle.spec_wire.specs.messages.Fault.{◌or_else◌, fields_fault, size_fault, part_fault, count_fault}
use Rattle.spec_wire.specs.messages.Contexts.{AreContexts, IsContextList, contexts_size, contexts_fault, contexts_gap, contexts_told}
use Rattle.spec_wire.specs.declared.messages.error.MessageError.{MessageError}
use Rattle.spec_wire.specs.declared.messages.error.Part.TheVariants.{Security, Dialects}

pub record NegotiateRequestValue : Type 0 where
  pub security_mode : ℕ
  pub capabilities : ℕ
  pub client_guid : List ℕ
  pub negotiate_context_count : ℕ
  pub dialects : List ℕ
  pub contexts : List ℕ

-- The fixed part of the request, with the count of the dialects and the place of the contexts: StructureSize,
-- DialectCount, SecurityMode, Reserved, Capabilities, ClientGuid, NegotiateContextOffset, NegotiateContextCount,
-- Reserved2. The dialects stand behind it, 2 bytes each.
abbrev pub negotiate_request_table : NegotiateRequestValue → ℕ → ℕ → List Field
negotiate_request_table v count contexts_at =
    Num 2 36 ∷ Num 2 count ∷ Num 2 v.security_mode ∷ Any 2 ∷ Num 4 v.capabilities ∷ Raw 16 v.client_guid
    ∷ Num 4 contexts_at ∷ Num 2 v.negotiate_context_count ∷ Any 2 ∷ []

-- m is a header and this request; other bytes may follow
pub record SpellsNegotiateRequest (m : List ℕ) (v : NegotiateRequestValue) : Type 0 where
  pub fixed : Stands m 64 (negotiate_request_table v (number 2 m 66) (number 4 m 92))
  pub dialects : IsCounted m 100 (number 2 m 66) 2 v.dialects
  pub contexts : AreContexts m (number 4 m 92) (number 2 m 96) 100 v.contexts

-- the request that stands in m
abbrev pub negotiate_request_in : List ℕ → NegotiateRequestValue
negotiate_request_in m =
    record {
      security_mode = number 2 m 68;
      capabilities = number 4 m 72;
      client_guid = bytes_at 16 m 76;
      negotiate_context_count = number 2 m 96;
      dialects = bytes_at (number 2 m 66 * 2) m 100;
      contexts = bytes_at (contexts_size m (number 4 m 92) (number 2 m 96)) m (number 4 m 92);
    }

abbrev pub negotiate_request_fault : List ℕ → Option MessageError
negotiate_request_fault m =
    fields_fault m (negotiate_request_table (negotiate_request_in m) (number 2 m 66) (number 4 m 92))
    or_else size_fault m 36
    or_else count_fault m 100 (number 2 m 66) 2 Dialects
    or_else contexts_fault m (number 4 m 92) (number 2 m 96) 100

-- the number of dialects
abbrev pub dialect_count : NegotiateRequestValue → ℕ
dialect_count v = length v.dialects / 2

-- what is written behind a header: the dialects, a gap, the contexts
abbrev pub negotiate_request_whole : NegotiateRequestValue → List Field
negotiate_request_whole v =
    negotiate_request_table v (dialect_count v) (contexts_told v.negotiate_context_count (100 + length v.dialects))
    ++ Raw (dialect_count v * 2) v.dialects ∷ Any (contexts_gap v.negotiate_context_count (100 + length v.dialects))
    ∷ Raw (length v.contexts) v.contexts ∷ []

-- the dialects are whole and there is one at least; the contexts are as many as their count
pub record IsWritableNegotiateRequest (v : NegotiateRequestValue) : Type 0 where
  pub fits : AreWritable (negotiate_request_whole v)
  pub some : 0 < dialect_count v
  pub contexts : IsContextList v.contexts v.negotiate_context_count

abbrev pub negotiate_request_spelling : NegotiateRequestValue → List ℕ
negotiate_request_spelling v = with_fields [] (negotiate_request_whole v)

pub record NegotiateResponseValue : Type 0 where
  pub security_mode : ℕ
  pub dialect_revision : ℕ
  pub negotiate_context_count : ℕ
  pub server_guid : List ℕ
  pub capabilities : ℕ
  pub max_transact_size : ℕ
  pub max_read_size : ℕ
  pub max_write_size : ℕ
  pub system_time : ℕ
  pub server_start_time : ℕ
  pub security : List ℕ
  pub contexts : List ℕ

-- The fixed part of the response, with the places of the token and of the contexts: StructureSize, SecurityMode,
-- DialectRevision, NegotiateContextCount, ServerGuid, Capabilities, MaxTransactSize, MaxReadSize, MaxWriteSize,
-- SystemTime, ServerStartTime, place and length of the token, NegotiateContextOffset.
abbrev pub negotiate_response_table : NegotiateResponseValue → ℕ → ℕ → List Field
negotiate_response_table v security_at contexts_at =
    Num 2 65 ∷ Num 2 v.security_mode ∷ Num 2 v.dialect_revision ∷ Num 2 v.negotiate_context_count ∷ Raw 16 v.server_guid
    ∷ Num 4 v.capabilities ∷ Num 4 v.max_transact_size ∷ Num 4 v.max_read_size ∷ Num 4 v.max_write_size
    ∷ Num 8 v.system_time ∷ Num 8 v.server_start_time ∷ Num 2 security_at ∷ Num 2 (length v.security)
    ∷ Num 4 contexts_at ∷ []

-- m is a header and this response; other bytes may follow
pub record SpellsNegotiateResponse (m : List ℕ) (v : NegotiateResponseValue) : Type 0 where
  pub fixed : Stands m 64 (negotiate_response_table v (number 2 m 120) (number 4 m 124))
  pub security : IsPart m (number 2 m 120) (number 2 m 122) 128 v.security
  pub contexts : AreContexts m (number 4 m 124) (number 2 m 70) 128 v.contexts

-- the response that stands in m
abbrev pub negotiate_response_in : List ℕ → NegotiateResponseValue
negotiate_response_in m =
    record {
      security_mode = number 2 m 66;
      dialect_revision = number 2 m 68;
      negotiate_context_count = number 2 m 70;
      server_guid = bytes_at 16 m 72;
      capabilities = number 4 m 88;
      max_transact_size = number 4 m 92;
      max_read_size = number 4 m 96;
      max_write_size = number 4 m 100;
      system_time = number 8 m 104;
      server_start_time = number 8 m 112;
      security = bytes_at (number 2 m 122) m (number 2 m 120);
      contexts = bytes_at (contexts_size m (number 4 m 124) (number 2 m 70)) m (number 4 m 124);
    }

-- The count of the contexts is judged with their place, behind the token.
abbrev pub negotiate_response_fault : List ℕ → Option MessageError
negotiate_response_fault m =
    fields_fault m (negotiate_response_table (negotiate_response_in m) (number 2 m 120) (number 4 m 124))
    or_else size_fault m 65
    or_else part_fault m (number 2 m 120) (number 2 m 122) 128 Security
    or_else contexts_fault m (number 4 m 124) (number 2 m 70) 128

-- what is written behind a header: the token, a gap, the contexts
abbrev pub negotiate_response_whole : NegotiateResponseValue → List Field
negotiate_response_whole v =
    negotiate_response_table v 128 (contexts_told v.negotiate_context_count (128 + length v.security))
    ++ Raw (length v.security) v.security ∷ Any (contexts_gap v.negotiate_context_count (128 + length v.security))
    ∷ Raw (length v.contexts) v.contexts ∷ []

-- the contexts are as many as their count
pub record IsWritableNegotiateResponse (v : NegotiateResponseValue) : Type 0 where
  pub fits : AreWritable (negotiate_response_whole v)
  pub contexts : IsContextList v.contexts v.negotiate_context_count

abbrev pub negotiate_response_spelling : NegotiateResponseValue → List ℕ
negotiate_response_spelling v = with_fields [] (negotiate_response_whole v)
