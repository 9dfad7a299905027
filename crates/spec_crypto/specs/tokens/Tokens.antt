-- The tokens of one logon as SESSION_SETUP carries them, and what a token shows to a server (MS-SMB2 3.3.5.5.3, RFC 4178 4.2). A
-- server may also take NTLM's messages alone, without SPNEGO around them (MS-SPNG 3.3.4).
use Rattle.std.specs.Prelude.{ℕ, ◌==◌, Bool, true, false, ◌&&◌, if◌then◌else◌, List, [], ◌∷◌, take, Option, Some, None, Result}
use Rattle.std.specs.Prelude.{Ok, Err}
use Rattle.std.specs.Str.{bytes_eq}
use Rattle.spec_crypto.specs.declared.tokens.der.DerError.{DerError}
use Rattle.spec_crypto.specs.declared.tokens.der.DerError.TheVariants.{NoNtlm}
use Rattle.spec_crypto.specs.declared.tokens.ntlm.NtlmError.{NtlmError}
use Rattle.spec_crypto.specs.declared.tokens.ntlm.LogonError.{LogonError}
use Rattle.spec_crypto.specs.declared.tokens.ntlm.Type1.{Type1}
use Rattle.spec_crypto.specs.tokens.Spnego.{InitValue, RespValue, init_in, resp_in, init_spelling, resp_spelling, ntlm_list}
use Rattle.spec_crypto.specs.tokens.Messages.{Type2Value, ntlm_signature, type1_in, type2_in}
use Rattle.spec_crypto.specs.tokens.Formulas.{mech_list_mic}
use Rattle.spec_crypto.specs.tokens.Acceptor.{User, LogonValue, challenge, verdict}
use Rattle.spec_crypto.specs.tokens.Answer.{Credentials, first_message, answered}

-- ---- the server's hint in NEGOTIATE, and the client's first token

unfoldable pub hint_token : List ℕ
hint_token = init_spelling (record { mech_list = ntlm_list; ntlm_first = true; token = None; mic = None })

unfoldable pub first_token : List ℕ
first_token = init_spelling (record { mech_list = ntlm_list; ntlm_first = true; token = Some first_message; mic = None })

-- ---- who may log on, and how

pub record Users : Type 0 where
  pub list : List User
  pub bare : Bool  -- whether NTLM's messages are taken alone too

-- ---- NTLM's messages alone

-- `NTLMSSP` and a zero in front (MS-NLMP 2.2.1)
unfoldable pub is_bare : List ℕ → Bool
is_bare token = bytes_eq (take 8 token) ntlm_signature

-- they come with no list of mechanisms, and so with no MIC over one
abbrev pub bare_init : List ℕ → InitValue
bare_init token = record { mech_list = []; ntlm_first = true; token = Some token; mic = None }

abbrev pub bare_resp : List ℕ → RespValue
bare_resp token = record { state = None; ntlm = true; token = Some token; mic = None }

-- a list that SPNEGO's token has is an element, and never empty
unfoldable pub is_unlisted : List ℕ → Bool
is_unlisted [] = true
is_unlisted (byte ∷ list) = false

-- ---- a first token: NTLM comes first, with a type 1

-- as it reads, where NTLM's message alone is taken or not
abbrev pub first_by : Bool → List ℕ → Result InitValue DerError
first_by alone token = if alone then Ok (bare_init token) else init_in token

unfoldable pub first_in : Bool → List ℕ → Result InitValue DerError
first_in bare token = first_by (bare && is_bare token) token

-- what a server keeps of it: the list that a MIC is over, and the type 1
pub record Begun : Type 0 where
  pub list : List ℕ
  pub first : List ℕ

abbrev pub begun_by_message : List ℕ → List ℕ → Result Type1 NtlmError → Option Begun
begun_by_message list first (Ok v) = Some (record { list = list; first = first })
begun_by_message list first (Err e) = None

abbrev pub begun_with : List ℕ → Bool → Option (List ℕ) → Option Begun
begun_with list false token = None
begun_with list true None = None
begun_with list true (Some first) = begun_by_message list first (type1_in first)

abbrev pub begun_of : Result InitValue DerError → Option Begun
begun_of (Ok v) = begun_with v.mech_list v.ntlm_first v.token
begun_of (Err e) = None

unfoldable pub begun_by : Bool → List ℕ → Option Begun
begun_by bare token = begun_of (first_in bare token)

-- ---- the interim answer: accept-incomplete 1, NTLMSSP, and a type 2; or the type 2 alone

abbrev pub challenge_resp : List ℕ → List ℕ
challenge_resp second = resp_spelling (record { state = Some 1; ntlm = true; token = Some second; mic = None })

abbrev pub second_message : Result (List ℕ) NtlmError → List ℕ
second_message (Ok m) = m
second_message (Err e) = []

-- the type 2 of a begun logon, for 8 random bytes and a moment
unfoldable pub second_of : Begun → List ℕ → ℕ → List ℕ
second_of b server now = second_message (challenge b.first server now)

unfoldable pub challenge_token : List ℕ → List ℕ → List ℕ
challenge_token list second = if is_unlisted list then second else challenge_resp second

-- ---- the client's second token: a type 3, and a MIC over the list of mechanisms

abbrev pub answer_resp : List ℕ → List ℕ → List ℕ
answer_resp third list_mic = resp_spelling (record { state = None; ntlm = false; token = Some third; mic = Some list_mic })

abbrev pub answer_with_mic : Credentials → Option (List ℕ) → Option (List ℕ)
answer_with_mic c None = None
answer_with_mic c (Some third) = Some (answer_resp third (mech_list_mic c.key true true ntlm_list))

abbrev pub answer_to_message : Credentials → List ℕ → Result Type2Value NtlmError → Option (List ℕ)
answer_to_message c second (Ok v) = answer_with_mic c (answered c first_message second v)
answer_to_message c second (Err e) = None

abbrev pub answer_to_token : Credentials → Option (List ℕ) → Option (List ℕ)
answer_to_token c None = None
answer_to_token c (Some second) = answer_to_message c second (type2_in second)

abbrev pub answer_to : Credentials → Result RespValue DerError → Option (List ℕ)
answer_to c (Ok v) = answer_to_token c v.token
answer_to c (Err e) = None

-- the answer to an interim token; none where that doesn't read, has no type 2, or one whose answer has no room in its fields
unfoldable pub answer_token : Credentials → List ℕ → Option (List ℕ)
answer_token c token = answer_to c (resp_in token)

-- ---- what a token shows to a server

pub data Shown : Type 0 where
  Begins : Shown  -- a first token
  Bad : Shown  -- neither a first token nor, where a logon is in the making, a second one
  Refused : Shown  -- a logon that is refused, or whose MIC over the list is another one
  LoggedOn : (logon : LogonValue) (signs : Bool) → Shown  -- a logon, and whether the token has a MIC, so that the answer owes one

-- a second token as it reads: behind a type 1 alone it is a type 3 alone
abbrev pub second_by : Bool → Bool → List ℕ → Result RespValue DerError
second_by false alone token = resp_in token
second_by true alone token = if alone then Ok (bare_resp token) else Err NoNtlm

unfoldable pub second_in : List ℕ → List ℕ → Result RespValue DerError
second_in list token = second_by (is_unlisted list) (is_bare token) token

-- what a server keeps of a logon in the making
pub record Pending : Type 0 where
  pub list : List ℕ
  pub server : List ℕ  -- the challenge's 8 bytes
  pub first : List ℕ
  pub second : List ℕ

-- a MIC that isn't there is accepted
abbrev pub shown_with : List ℕ → LogonValue → Option (List ℕ) → Shown
shown_with list logon None = LoggedOn logon false
shown_with list logon (Some code) = if bytes_eq code (mech_list_mic logon.key true logon.exchanged list) then LoggedOn
    logon true else Refused

abbrev pub shown_logon : List ℕ → Option (List ℕ) → Result LogonValue LogonError → Shown
shown_logon list code (Ok logon) = shown_with list logon code
shown_logon list code (Err e) = Refused

abbrev pub shown_message : Users → Pending → Option (List ℕ) → Option (List ℕ) → Shown
shown_message users p None code = Bad
shown_message users p (Some third) code = shown_logon p.list code (verdict users.list p.server p.first p.second third)

abbrev pub shown_second : Users → Pending → Result RespValue DerError → Shown
shown_second users p (Ok v) = shown_message users p v.token v.mic
shown_second users p (Err e) = Bad

abbrev pub shown_by : Users → Option Pending → List ℕ → Shown
shown_by users None token = Bad
shown_by users (Some p) token = shown_second users p (second_in p.list token)

abbrev pub shown_if : Option Begun → Shown → Shown
shown_if None second = second
shown_if (Some b) second = Begins

unfoldable pub shown : Users → Option Pending → List ℕ → Shown
shown users pending token = shown_if (begun_by users.bare token) (shown_by users pending token)

-- ---- the final answer: accept-completed 0, with a MIC exactly where the client sent one; or none, behind messages alone

abbrev pub final_mic : List ℕ → LogonValue → Bool → Option (List ℕ)
final_mic list logon true = Some (mech_list_mic logon.key false logon.exchanged list)
final_mic list logon false = None

abbrev pub final_resp : List ℕ → LogonValue → Bool → List ℕ
final_resp list logon signs = resp_spelling (record { state = Some 0; ntlm = false; token = None; mic = final_mic list logon signs })

unfoldable pub final_token : List ℕ → LogonValue → Bool → List ℕ
final_token list logon signs = if is_unlisted list then [] else final_resp list logon signs

-- a client takes it where it reads as accept-completed, and its MIC, where there is one, is the server's
abbrev pub is_final_with : List ℕ → RespValue → Bool
is_final_with key v = is_state v.state && is_mic key v.mic
  where
    is_state : Option ℕ → Bool
    is_state None = false
    is_state (Some state) = state == 0

    is_mic : List ℕ → Option (List ℕ) → Bool
    is_mic key None = true
    is_mic key (Some code) = bytes_eq code (mech_list_mic key false true ntlm_list)

abbrev pub is_final_of : List ℕ → Result RespValue DerError → Bool
is_final_of key (Ok v) = is_final_with key v
is_final_of key (Err e) = false

-- whether a client with this exported key takes a token as the final one
unfoldable pub is_final : List ℕ → List ℕ → Bool
is_final key token = is_final_of key (resp_in token)
