-- SPNEGO's tokens (RFC 4178 4.2, MS-SPNG 2.2.1). NegTokenInit: tag 60, the object identifier of SPNEGO, [0] of a SEQUENCE of
-- mechTypes [0], reqFlags [1], mechToken [2] and mechListMIC [3]; with negHints [3] the MIC is [4]. NegTokenResp: [1] of a SEQUENCE
-- of negState [0], supportedMech [1], responseToken [2], mechListMIC [3]. What reqFlags and negHints hold is passed over. Nothing
-- stands behind a token or an element of it.
use Rattle.std.specs.Prelude.{◌≡◌, ℕ, zero, suc, ◌+◌, ◌^◌, ◌<◌, ◌==◌, Bool, true, false, ◌||◌, if◌then◌else◌, List, []}
use Rattle.std.specs.Prelude.{◌∷◌, ◌++◌, length, slice_index, Option, Some, None, Result, Ok, Err}
use Rattle.std.specs.Str.{bytes_eq}
use Rattle.spec_crypto.specs.declared.tokens.der.DerError.{DerError}
use Rattle.spec_crypto.specs.declared.tokens.der.DerError.TheVariants.{BadTag, BadLength, NoNtlm}
use Rattle.spec_crypto.specs.tokens.Der.{◌>>=◌, Piece, whole, element, comes, ends, spelled}

pub record InitValue : Type 0 where
  pub mech_list : List ℕ  -- the SEQUENCE of mechTypes as it stands there, over which the MIC is taken
  pub ntlm_first : Bool
  pub token : Option (List ℕ)
  pub mic : Option (List ℕ)

pub record RespValue : Type 0 where
  pub state : Option ℕ
  pub ntlm : Bool  -- supportedMech is NTLMSSP
  pub token : Option (List ℕ)
  pub mic : Option (List ℕ)

-- 1.3.6.1.5.5.2
abbrev pub spnego : List ℕ
spnego = 0x2b ∷ 0x06 ∷ 0x01 ∷ 0x05 ∷ 0x05 ∷ 0x02 ∷ []

-- 1.3.6.1.4.1.311.2.2.10
abbrev pub ntlmssp : List ℕ
ntlmssp = 0x2b ∷ 0x06 ∷ 0x01 ∷ 0x04 ∷ 0x01 ∷ 0x82 ∷ 0x37 ∷ 0x02 ∷ 0x02 ∷ 0x0a ∷ []

-- ---- parts

-- byte i of contents, which is due there
unfoldable pub byte_is : ℕ → ℕ → Piece → Result Bool DerError
byte_is i due p = if slice_index p.bytes i == due then Ok true else Err (BadTag (p.at + i) (slice_index p.bytes i))

-- the object identifier of SPNEGO; another one breaks at its length, or at its first other byte
unfoldable pub spnego_named : Piece → Result Piece DerError
spnego_named p = do
  e ← element 0x06 p
  _ ← if length e.contents.bytes == 6 then Ok true else Err (BadLength (p.at + 1))
  _ ← byte_is 0 0x2b e.contents
  _ ← byte_is 1 0x06 e.contents
  _ ← byte_is 2 0x01 e.contents
  _ ← byte_is 3 0x05 e.contents
  _ ← byte_is 4 0x05 e.contents
  _ ← byte_is 5 0x02 e.contents
  Ok e.rest

pub record Octets : Type 0 where
  pub bytes : Option (List ℕ)
  pub rest : Piece

-- an element with this tag, where it comes next, of one OCTET STRING
unfoldable pub octets : ℕ → Piece → Result Octets DerError
octets tag p = if comes tag p then (do
  e ← element tag p
  string ← element 0x04 e.contents
  _ ← ends string.rest
  Ok (record { bytes = Some string.contents.bytes; rest = e.rest })) else Ok (record { bytes = None; rest = p })

-- behind an element with this tag, where it comes next
unfoldable pub passed : ℕ → Piece → Result Piece DerError
passed tag p = if comes tag p then (element tag p >>= λ e. Ok e.rest) else Ok p

-- whether one of the types is NTLMSSP, in at most n elements
unfoldable pub names_ntlm : ℕ → Piece → Result Bool DerError
names_ntlm zero p = Ok false
names_ntlm (suc n) p = if length p.bytes == 0 then Ok false else (do
  e ← element 0x06 p
  later ← names_ntlm n e.rest
  Ok (bytes_eq e.contents.bytes ntlmssp || later))

-- whether the first is
unfoldable pub begins_with_ntlm : Piece → Result Bool DerError
begins_with_ntlm p = if length p.bytes == 0 then Ok false else (element 0x06 p >>= λ e. Ok (bytes_eq e.contents.bytes ntlmssp))

pub record Names : Type 0 where
  pub first : Bool
  pub named : Bool

-- the SEQUENCE of mechTypes: whether NTLMSSP comes first in it, and whether it is named
unfoldable pub names_in : Piece → Result Names DerError
names_in p = do
  list ← element 0x30 p
  first ← begins_with_ntlm list.contents
  named ← names_ntlm (length list.contents.bytes) list.contents
  _ ← ends list.rest
  Ok (record { first = first; named = named })

pub record MechTypes : Type 0 where
  pub list : List ℕ
  pub names : Names
  pub rest : Piece

-- [0] of that
unfoldable pub mech_types : Piece → Result MechTypes DerError
mech_types p = do
  e ← element 0xa0 p
  names ← names_in e.contents
  Ok (record { list = e.contents.bytes; names = names; rest = e.rest })

pub record Hints : Type 0 where
  pub there : Bool
  pub rest : Piece

-- [3] of a SEQUENCE is negHints
unfoldable pub hints : Piece → Result Hints DerError
hints p =
    if comes 0xa3 p then (element 0xa3 p >>= λ e. if comes 0x30 e.contents then Ok (record {
      there = true;
      rest = e.rest;
    }) else Ok (record { there = false; rest = p }))
    else Ok (record { there = false; rest = p })

-- ---- NegTokenInit

pub record Named : Type 0 where
  pub named : Bool
  pub value : InitValue

-- what the SEQUENCE holds
unfoldable pub init_fields : Piece → Result Named DerError
init_fields p = do
  types ← mech_types p
  behind_flags ← passed 0xa1 types.rest
  token ← octets 0xa2 behind_flags
  told ← hints token.rest
  mic ← octets (if told.there then 0xa4 else 0xa3) told.rest
  _ ← ends mic.rest
  Ok (record {
    named = types.names.named;
    value = record {
      mech_list = types.list;
      ntlm_first = types.names.first;
      token
          = token.bytes;
      mic = mic.bytes;
    };
  })

-- [0] of the SEQUENCE, and nothing behind it
unfoldable pub init_choice : Piece → Result Named DerError
init_choice p = do
  choice ← element 0xa0 p
  sequence ← element 0x30 choice.contents
  fields ← init_fields sequence.contents
  _ ← ends sequence.rest
  _ ← ends choice.rest
  Ok fields

-- the value of a NegTokenInit, or the first break
unfoldable pub init_in : List ℕ → Result InitValue DerError
init_in token = do
  e ← element 0x60 (whole token)
  behind_name ← spnego_named e.contents
  fields ← init_choice behind_name
  _ ← ends e.rest
  if fields.named then Ok fields.value else Err NoNtlm

-- ---- NegTokenResp

pub record State : Type 0 where
  pub value : Option ℕ
  pub rest : Piece

-- [0] of an ENUMERATED of one byte, where it comes next
unfoldable pub state_in : Piece → Result State DerError
state_in p = if comes 0xa0 p then (do
  e ← element 0xa0 p
  number ← element 0x0a e.contents
  _ ← if length number.contents.bytes == 1 then Ok true else Err (BadLength (e.contents.at + 1))
  _ ← ends number.rest
  Ok (record { value = Some (slice_index number.contents.bytes 0); rest = e.rest })) else Ok (record { value = None; rest = p })

pub record Mech : Type 0 where
  pub ntlm : Bool
  pub rest : Piece

-- [1] of an object identifier, where it comes next
unfoldable pub mech_in : Piece → Result Mech DerError
mech_in p = if comes 0xa1 p then (do
  e ← element 0xa1 p
  name ← element 0x06 e.contents
  _ ← ends name.rest
  Ok (record { ntlm = bytes_eq name.contents.bytes ntlmssp; rest = e.rest })) else Ok (record { ntlm = false; rest = p })

unfoldable pub resp_fields : Piece → Result RespValue DerError
resp_fields p = do
  state ← state_in p
  mech ← mech_in state.rest
  token ← octets 0xa2 mech.rest
  mic ← octets 0xa3 token.rest
  _ ← ends mic.rest
  Ok (record { state = state.value; ntlm = mech.ntlm; token = token.bytes; mic = mic.bytes })

-- the value of a NegTokenResp, or the first break
unfoldable pub resp_in : List ℕ → Result RespValue DerError
resp_in token = do
  choice ← element 0xa1 (whole token)
  sequence ← element 0x30 choice.contents
  fields ← resp_fields sequence.contents
  _ ← ends sequence.rest
  _ ← ends choice.rest
  Ok fields

-- ---- canonical spellings

abbrev pub octets_spelling : ℕ → Option (List ℕ) → List ℕ
octets_spelling tag None = []
octets_spelling tag (Some bytes) = spelled tag (spelled 0x04 bytes)

abbrev pub init_fields_spelling : InitValue → List ℕ
init_fields_spelling v = spelled 0xa0 v.mech_list ++ (octets_spelling 0xa2 v.token ++ octets_spelling 0xa3 v.mic)

unfoldable pub init_spelling : InitValue → List ℕ
init_spelling v = spelled 0x60 (spelled 0x06 spnego ++ spelled 0xa0 (spelled 0x30 (init_fields_spelling v)))

abbrev pub state_spelling : Option ℕ → List ℕ
state_spelling None = []
state_spelling (Some state) = spelled 0xa0 (spelled 0x0a (state ∷ []))

abbrev pub mech_spelling : Bool → List ℕ
mech_spelling ntlm = if ntlm then spelled 0xa1 (spelled 0x06 ntlmssp) else []

abbrev pub resp_fields_spelling : RespValue → List ℕ
resp_fields_spelling v = state_spelling v.state ++ (mech_spelling v.ntlm ++ (octets_spelling 0xa2 v.token ++ octets_spelling 0xa3 v.mic))

unfoldable pub resp_spelling : RespValue → List ℕ
resp_spelling v = spelled 0xa1 (spelled 0x30 (resp_fields_spelling v))

-- A value can be written where its list reads, names NTLMSSP and says rightly whether first, and the lengths have four bytes.
pub record IsWritableInit (v : InitValue) : Type 0 where
  pub list : (at : ℕ) → names_in (record { at = at; bytes = v.mech_list }) ≡ Ok (record { first = v.ntlm_first; named = true })
  pub short : length (init_spelling v) < 2 ^ 32

pub record IsWritableResp (v : RespValue) : Type 0 where
  pub short : length (resp_spelling v) < 2 ^ 32

-- the list of NTLMSSP alone
abbrev pub ntlm_list : List ℕ
ntlm_list = 0x30 ∷ 0x0c ∷ 0x06 ∷ 0x0a ∷ ntlmssp
