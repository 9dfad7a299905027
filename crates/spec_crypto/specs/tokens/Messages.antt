-- NTLM's messages (MS-NLMP 2.2.1). Each begins `NTLMSSP` and a zero, and its type:4. A variable part is told by Length:2, MaxLength:2,
-- which is passed over, and Offset:4, counted from the message's first byte.
use Rattle.std.specs.Prelude.{ℕ, ◌+◌, ◌==◌, nat_lt, nat_le, not, ◌||◌, if◌then◌else◌, List, [], ◌∷◌, ◌++◌, length, drop}
use Rattle.std.specs.Prelude.{Option, Some, None, Result, Ok, Err}
use Rattle.std.specs.Str.{bytes_eq}
use Rattle.spec_wire.specs.messages.Places.{number, bytes_at}
use Rattle.spec_wire.specs.messages.Table.{Field, Num, Raw, Any, with_fields, AreWritable}
use Rattle.spec_crypto.specs.declared.tokens.ntlm.Type1.{Type1}
use Rattle.spec_crypto.specs.declared.tokens.ntlm.NtlmField.{NtlmField}
use Rattle.spec_crypto.specs.declared.tokens.ntlm.NtlmField.TheVariants.{Lm, Nt, Domain, User, Workstation, SessionKey}
use Rattle.spec_crypto.specs.declared.tokens.ntlm.NtlmField.TheVariants.{TargetName, TargetInfo}
use Rattle.spec_crypto.specs.declared.tokens.ntlm.NtlmError.{NtlmError}
use Rattle.spec_crypto.specs.declared.tokens.ntlm.NtlmError.TheVariants.{BadSignature, BadType, OutOfRange, BadPairs}
use Rattle.spec_crypto.specs.tokens.Pairs.{pairs_break}

pub record Type2Value : Type 0 where
  pub flags : ℕ
  pub challenge : List ℕ
  pub target_name : List ℕ
  pub target_info : List ℕ

pub record Type3Value : Type 0 where
  pub flags : ℕ
  pub lm : List ℕ
  pub nt : List ℕ
  pub domain : List ℕ
  pub user : List ℕ
  pub workstation : List ℕ
  pub session_key : List ℕ
  pub mic : List ℕ

-- `NTLMSSP` and a zero
abbrev pub ntlm_signature : List ℕ
ntlm_signature = 78 ∷ 84 ∷ 76 ∷ 77 ∷ 83 ∷ 83 ∷ 80 ∷ 0 ∷ []

-- ---- what breaks a message, in this order

infixl 10 ◌or_else◌
abbrev pub ◌or_else◌ : Option NtlmError → Option NtlmError → Option NtlmError
(Some e) or_else f = Some e
None or_else f = f

-- fewer bytes than its fixed part, or other ones in front; or another type
unfoldable pub start_fault : List ℕ → ℕ → ℕ → Option NtlmError
start_fault m fixed type =
    if nat_lt (length m) fixed || not (bytes_eq (bytes_at 8 m 0) ntlm_signature) then Some BadSignature
    else if number 4 m 8 == type then None
    else Some (BadType (number 4 m 8))

-- a part of so many bytes at a place that isn't empty and leaves the message
unfoldable pub range_fault : List ℕ → ℕ → ℕ → NtlmField → Option NtlmError
range_fault m count from field = if (count == 0) || nat_le (from + count) (length m) then None else Some (OutOfRange field)

-- the part that is told at a place
abbrev pub part_fault : List ℕ → ℕ → NtlmField → Option NtlmError
part_fault m at field = range_fault m (number 2 m at) (number 4 m (at + 4)) field

abbrev pub part_in : List ℕ → ℕ → List ℕ
part_in m at = bytes_at (number 2 m at) m (number 4 m (at + 4))

abbrev pub pairs_fault : Option ℕ → Option NtlmError
pairs_fault None = None
pairs_fault (Some at) = Some (BadPairs at)

-- pairs that begin at a place of the message
unfoldable pub info_fault : ℕ → List ℕ → Option NtlmError
info_fault at bytes = pairs_fault (pairs_break (length bytes) at bytes)

abbrev pub type1_fault : List ℕ → Option NtlmError
type1_fault m = start_fault m 16 1

-- an empty target information has no pairs
abbrev pub type2_fault : List ℕ → Option NtlmError
type2_fault m =
    start_fault m 56 2
    or_else part_fault m 12 TargetName
    or_else part_fault m 40 TargetInfo
    or_else (if number 2 m 40 == 0 then None else info_fault (number 4 m 44) (part_in m 40))

-- an NTLMv2 response has its pairs behind 44 bytes (2.2.2.7, 2.2.2.8)
abbrev pub type3_fault : List ℕ → Option NtlmError
type3_fault m =
    start_fault m 88 3
    or_else part_fault m 12 Lm
    or_else part_fault m 20 Nt
    or_else part_fault m 28 Domain
    or_else part_fault m 36 User
    or_else part_fault m 44 Workstation
    or_else part_fault m 52 SessionKey
    or_else (if nat_lt (number 2 m 20) 44 then None else info_fault (number 4 m 24 + 44) (drop 44 (part_in m 20)))

-- ---- the values

abbrev pub type1_value : List ℕ → Type1
type1_value m = record { flags = number 4 m 12 }

abbrev pub type2_value : List ℕ → Type2Value
type2_value m = record { flags = number 4 m 20; challenge = bytes_at 8 m 24; target_name = part_in m 12; target_info = part_in m 40 }

abbrev pub type3_value : List ℕ → Type3Value
type3_value m = record {
  flags = number 4 m 60;
  lm = part_in m 12;
  nt = part_in m 20;
  domain = part_in m 28;
  user = part_in m 36;
  workstation = part_in m 44;
  session_key = part_in m 52;
  mic = bytes_at 16 m 72;
}

abbrev pub given : {V : Type 0} → Option NtlmError → V → Result V NtlmError
given None v = Ok v
given (Some e) v = Err e

abbrev pub type1_in : List ℕ → Result Type1 NtlmError
type1_in m = given (type1_fault m) (type1_value m)

abbrev pub type2_in : List ℕ → Result Type2Value NtlmError
type2_in m = given (type2_fault m) (type2_value m)

abbrev pub type3_in : List ℕ → Result Type3Value NtlmError
type3_in m = given (type3_fault m) (type3_value m)

-- ---- canonical spellings

-- 40 bytes: the parts are empty, and the version is zero
abbrev pub type1_table : Type1 → List Field
type1_table v = Raw 8 ntlm_signature ∷ Num 4 1 ∷ Num 4 v.flags ∷ Any 8 ∷ Any 8 ∷ Any 8 ∷ []

abbrev pub type1_spelling : Type1 → List ℕ
type1_spelling v = with_fields [] (type1_table v)

-- behind the signature and the type: TargetName, the flags, the challenge, 8 reserved bytes, TargetInfo, the version, and the two parts
abbrev pub type2_table : Type2Value → List Field
type2_table v =
    Raw 8 ntlm_signature ∷ Num 4 2
    ∷ Num 2 (length v.target_name) ∷ Num 2 (length v.target_name) ∷ Num 4 56
    ∷ Num 4 v.flags ∷ Raw 8 v.challenge ∷ Any 8
    ∷ Num 2 (length v.target_info) ∷ Num 2 (length v.target_info) ∷ Num 4 (56 + length v.target_name)
    ∷ Any 8 ∷ Raw (length v.target_name) v.target_name ∷ Raw (length v.target_info) v.target_info ∷ []

unfoldable pub type2_spelling : Type2Value → List ℕ
type2_spelling v = with_fields [] (type2_table v)

-- where the parts of a type 3 begin: LmChallengeResponse at 88, and each behind the one before
abbrev pub nt_at : Type3Value → ℕ
nt_at v = 88 + length v.lm

abbrev pub domain_at : Type3Value → ℕ
domain_at v = nt_at v + length v.nt

abbrev pub user_at : Type3Value → ℕ
user_at v = domain_at v + length v.domain

abbrev pub workstation_at : Type3Value → ℕ
workstation_at v = user_at v + length v.user

abbrev pub session_key_at : Type3Value → ℕ
session_key_at v = workstation_at v + length v.workstation

-- where the six parts stand: Length, MaxLength and Offset of each
abbrev pub type3_places : Type3Value → List Field
type3_places v =
    Num 2 (length v.lm) ∷ Num 2 (length v.lm) ∷ Num 4 88
    ∷ Num 2 (length v.nt) ∷ Num 2 (length v.nt) ∷ Num 4 (nt_at v)
    ∷ Num 2 (length v.domain) ∷ Num 2 (length v.domain) ∷ Num 4 (domain_at v)
    ∷ Num 2 (length v.user) ∷ Num 2 (length v.user) ∷ Num 4 (user_at v)
    ∷ Num 2 (length v.workstation) ∷ Num 2 (length v.workstation) ∷ Num 4 (workstation_at v)
    ∷ Num 2 (length v.session_key) ∷ Num 2 (length v.session_key) ∷ Num 4 (session_key_at v) ∷ []

abbrev pub type3_table : Type3Value → List Field
type3_table v =
    (Raw 8 ntlm_signature ∷ Num 4 3 ∷ type3_places v)
    ++ Num 4 v.flags ∷ Any 8 ∷ Raw 16 v.mic
    ∷ Raw (length v.lm) v.lm ∷ Raw (length v.nt) v.nt ∷ Raw (length v.domain) v.domain ∷ Raw (length v.user) v.user
    ∷ Raw (length v.workstation) v.workstation ∷ Raw (length v.session_key) v.session_key ∷ []

unfoldable pub type3_spelling : Type3Value → List ℕ
type3_spelling v = with_fields [] (type3_table v)

-- the numbers and parts fit their fields
abbrev pub IsWritableType1 : Type1 → Type 0
IsWritableType1 v = AreWritable (type1_table v)

abbrev pub IsWritableType2 : Type2Value → Type 0
IsWritableType2 v = AreWritable (type2_table v)

abbrev pub IsWritableType3 : Type3Value → Type 0
IsWritableType3 v = AreWritable (type3_table v)
