-- The SESSION_SETUP request and response (MS-SMB2 2.2.5, 2.2.6).
use Rattle.std.specs.Prelude.{ℕ, List, [], ◌∷◌, ◌++◌, length, Option}
use Rattle.spec_wire.specs.messages.Places.{number, bytes_at}
use Rattle.spec_wire.specs.messages.Table.{Field, Num, Raw, Stands, with_fields, AreWritable, IsPart}
use Rattle.spec_wire.specs.messages.Fault.{◌or_else◌, fields_fault, size_fault, part_fault}
use Rattle.spec_wire.specs.declared.messages.error.MessageError.{MessageError}
use Rattle.spec_wire.specs.declared.messages.error.Part.TheVariants.{Security}

pub record SessionSetupRequestValue : Type 0 where
  pub flags : ℕ
  pub security_mode : ℕ
  pub capabilities : ℕ
  pub channel : ℕ
  pub previous_session_id : ℕ
  pub security : List ℕ

-- The fixed part of the request, with the place of the token: StructureSize, Flags, SecurityMode, Capabilities,
-- Channel, place and length of the token, PreviousSessionId.
abbrev pub session_setup_request_table : SessionSetupRequestValue → ℕ → List Field
session_setup_request_table v at =
    Num 2 25 ∷ Num 1 v.flags ∷ Num 1 v.security_mode ∷ Num 4 v.capabilities ∷ Num 4 v.channel ∷ Num 2 at
    ∷ Num 2 (length v.security) ∷ Num 8 v.previous_session_id ∷ []

-- m is a header and this request; other bytes may follow
pub record SpellsSessionSetupRequest (m : List ℕ) (v : SessionSetupRequestValue) : Type 0 where
  pub fixed : Stands m 64 (session_setup_request_table v (number 2 m 76))
  pub security : IsPart m (number 2 m 76) (number 2 m 78) 88 v.security

-- the request that stands in m
abbrev pub session_setup_request_in : List ℕ → SessionSetupRequestValue
session_setup_request_in m =
    record {
      flags = number 1 m 66;
      security_mode = number 1 m 67;
      capabilities = number 4 m 68;
      channel = number 4 m 72;
      previous_session_id = number 8 m 80;
      security = bytes_at (number 2 m 78) m (number 2 m 76);
    }

abbrev pub session_setup_request_fault : List ℕ → Option MessageError
session_setup_request_fault m =
    fields_fault m (session_setup_request_table (session_setup_request_in m) (number 2 m 76))
    or_else size_fault m 25
    or_else part_fault m (number 2 m 76) (number 2 m 78) 88 Security

-- what is written behind a header: the token stands behind the fixed part
abbrev pub session_setup_request_whole : SessionSetupRequestValue → List Field
session_setup_request_whole v = session_setup_request_table v 88 ++ Raw (length v.security) v.security ∷ []

abbrev pub IsWritableSessionSetupRequest : SessionSetupRequestValue → Type 0
IsWritableSessionSetupRequest v = AreWritable (session_setup_request_whole v)

abbrev pub session_setup_request_spelling : SessionSetupRequestValue → List ℕ
session_setup_request_spelling v = with_fields [] (session_setup_request_whole v)

pub record SessionSetupResponseValue : Type 0 where
  pub session_flags : ℕ
  pub security : List ℕ

-- the fixed part of the response, with the place of the token: StructureSize, SessionFlags, place and length of the
-- token
abbrev pub session_setup_response_table : SessionSetupResponseValue → ℕ → List Field
session_setup_response_table v at = Num 2 9 ∷ Num 2 v.session_flags ∷ Num 2 at ∷ Num 2 (length v.security) ∷ []

-- m is a header and this response; other bytes may follow
pub record SpellsSessionSetupResponse (m : List ℕ) (v : SessionSetupResponseValue) : Type 0 where
  pub fixed : Stands m 64 (session_setup_response_table v (number 2 m 68))
  pub security : IsPart m (number 2 m 68) (number 2 m 70) 72 v.security

-- the response that stands in m
abbrev pub session_setup_response_in : List ℕ → SessionSetupResponseValue
session_setup_response_in m =
    record {
      session_flags = number 2 m 66;
      security = bytes_at (number 2 m 70) m (number 2 m 68);
    }

abbrev pub session_setup_response_fault : List ℕ → Option MessageError
session_setup_response_fault m =
    fields_fault m (session_setup_response_table (session_setup_response_in m) (number 2 m 68))
    or_else size_fault m 9
    or_else part_fault m (number 2 m 68) (number 2 m 70) 72 Security

-- what is written behind a header: the token stands behind the fixed part
abbrev pub session_setup_response_whole : SessionSetupResponseValue → List Field
session_setup_response_whole v = session_setup_response_table v 72 ++ Raw (length v.security) v.security ∷ []

abbrev pub IsWritableSessionSetupResponse : SessionSetupResponseValue → Type 0
IsWritableSessionSetupResponse v = AreWritable (session_setup_response_whole v)

abbrev pub session_setup_response_spelling : SessionSetupResponseValue → List ℕ
session_setup_response_spelling v = with_fields [] (session_setup_response_whole v)
