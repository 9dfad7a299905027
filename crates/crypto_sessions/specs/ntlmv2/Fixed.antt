-- The fixed parts of the messages as they were read.
use Rattle.std.specs.Prelude.{◌≡◌, ℕ, ◌+◌, ◌≤◌, List, length}
use Rattle.spec_wire.specs.messages.Places.{number, bytes_at}
use Rattle.spec_crypto.specs.declared.tokens.ntlm.NtlmError.{NtlmError}
use Rattle.spec_crypto.specs.declared.tokens.ntlm.NtlmError.TheVariants.{BadSignature, BadType}
use Rattle.spec_crypto.specs.tokens.Messages.{ntlm_signature}
use Rattle.crypto_sessions.specs.declared.ntlmv2.messages.Place.{Place}
use Rattle.crypto_sessions.specs.declared.ntlmv2.messages.Fixed1.{Fixed1}
use Rattle.crypto_sessions.specs.declared.ntlmv2.messages.Fixed2.{Fixed2}
use Rattle.crypto_sessions.specs.declared.ntlmv2.messages.Fixed3.{Fixed3}

-- a part is told at this place
abbrev pub IsFieldTold : List ℕ → ℕ → Place → Type 0
IsFieldTold m at p = (p.count ≡ number 2 m at) × (p.at ≡ number 4 m (at + 4))

pub record IsFixed1 (m : List ℕ) (f : Fixed1) : Type 0 where
  pub whole : 16 ≤ length m
  pub signature : f.signature ≡ bytes_at 8 m 0
  pub kind : f.kind ≡ number 4 m 8
  pub flags : f.flags ≡ number 4 m 12

pub record IsFixed2 (m : List ℕ) (f : Fixed2) : Type 0 where
  pub whole : 56 ≤ length m
  pub signature : f.signature ≡ bytes_at 8 m 0
  pub kind : f.kind ≡ number 4 m 8
  pub target_name : IsFieldTold m 12 f.target_name
  pub flags : f.flags ≡ number 4 m 20
  pub challenge : f.challenge ≡ bytes_at 8 m 24
  pub target_info : IsFieldTold m 40 f.target_info

pub record IsFixed3 (m : List ℕ) (f : Fixed3) : Type 0 where
  pub whole : 88 ≤ length m
  pub signature : f.signature ≡ bytes_at 8 m 0
  pub kind : f.kind ≡ number 4 m 8
  pub lm : IsFieldTold m 12 f.lm
  pub nt : IsFieldTold m 20 f.nt
  pub domain : IsFieldTold m 28 f.domain
  pub user : IsFieldTold m 36 f.user
  pub workstation : IsFieldTold m 44 f.workstation
  pub session_key : IsFieldTold m 52 f.session_key
  pub flags : f.flags ≡ number 4 m 60
  pub mic : f.mic ≡ bytes_at 16 m 72

-- the signature is another one, or it is NTLM's and the type another one
abbrev pub MatchKind : List ℕ → ℕ → ℕ → NtlmError → Type 0
MatchKind signature told kind BadSignature = ¬ (signature ≡ ntlm_signature)
MatchKind signature told kind (BadType n) = (signature ≡ ntlm_signature) × ¬ (told ≡ kind) × (n ≡ told)
MatchKind signature told kind e = ⊥
