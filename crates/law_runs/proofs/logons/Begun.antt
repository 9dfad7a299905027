-- The first token begins a logon, and what the server keeps of it.
use Rattle.std.proofs.Common.{◌≡◌, ℕ, suc, ◌^◌, ◌<◌, ◌≤◌, ◌==◌, Bool, true, false, if◌then◌else◌, List, [], ◌++◌, length, take, refl, ap, ◌∙◌, arith}
use Rattle.std.proofs.Common.{Option, Some, None, Result, Ok}
use Rattle.std.proofs.lemmas.Bool.Decides.{nat_tests}
use Rattle.std.proofs.lemmas.List.{length-take-le}
use Rattle.spec_wire.specs.messages.Places.{le, number_of, bytes_at}
use Rattle.spec_crypto.specs.declared.tokens.ntlm.Type1.{Type1}
use Rattle.spec_crypto.specs.declared.tokens.ntlm.NtlmError.{NtlmError}
use Rattle.spec_crypto.specs.tokens.Der.{length_bytes, length_in, element, ends, spelled}
use Rattle.spec_crypto.specs.tokens.Messages.{start_fault, type1_in, type2_spelling}
use Rattle.spec_crypto.specs.tokens.Acceptor.{LogonValue, challenge, challenge_to}
use Rattle.spec_crypto.specs.tokens.Answer.{client_flags, first_message}
use Rattle.spec_crypto.specs.tokens.Spnego.{RespValue, ntlm_list, byte_is, spnego_named, octets, passed, names_ntlm}
use Rattle.spec_crypto.specs.tokens.Spnego.{begins_with_ntlm, names_in}
use Rattle.spec_crypto.specs.tokens.Spnego.{mech_types, hints, init_fields, init_choice, init_in, resp_in}
use Rattle.spec_crypto.specs.tokens.Spnego.{init_spelling, resp_fields_spelling, resp_spelling}
use Rattle.spec_crypto.specs.tokens.Tokens.{Begun, Pending, first_token, is_bare, is_unlisted, first_by, first_in, begun_of, begun_by}
use Rattle.spec_crypto.specs.tokens.Tokens.{challenge_resp, second_message, second_of, challenge_token}
use Rattle.spec_crypto.specs.tokens.Tokens.{second_by, second_in, final_resp, final_token}
use Rattle.spec_world.specs.Logon.{pending_with, pending_by, challenge_of}
use Rattle.law_runs.proofs.logons.Lengths.{own_challenge, second_size, resp_most}

abbrev pub own_type1 : Type1
own_type1 = record { flags = client_flags }

pub type1_reads : type1_in first_message ≡ Ok own_type1
unfolding first_message start_fault number_of le bytes_at
type1_reads = refl

abbrev pub own_begun : Begun
own_begun = record { list = ntlm_list; first = first_message }

pub begins : (bare : Bool) → begun_by bare first_token ≡ Some own_begun
unfolding begun_by first_in is_bare first_token init_in init_spelling spnego_named init_choice init_fields mech_types names_in begins_with_ntlm
    names_ntlm passed octets hints byte_is element length_in ends spelled first_message start_fault number_of le bytes_at
begins true = refl
begins false = refl

pub first_short : length first_token < 256 ^ 2
unfolding first_token init_spelling spelled first_message le
first_short = omega arith

-- ---- the challenge

abbrev pub own_second : List ℕ → ℕ → List ℕ
own_second server now = type2_spelling (own_challenge server now)

pub challenged : (server : List ℕ) (now : ℕ) → challenge first_message server now ≡ Ok (own_second server now)
unfolding challenge
challenged server now = ap (λ (r : Result Type1 NtlmError). challenge_to r server now) type1_reads

-- what the server keeps
abbrev pub own_pending : List ℕ → ℕ → Pending
own_pending server now = record { list = ntlm_list; server = server; first = first_message; second = own_second server now }

pub pending_is : (fresh : List ℕ) (now : ℕ) → pending_by false first_token fresh now ≡ Some (own_pending (take 8 fresh) now)
unfolding pending_by second_of
pending_is fresh now =
    let kept : pending_with (Some own_begun) fresh now ≡ Some (own_pending (take 8 fresh) now) =
    λ t. Some (record {
      list = ntlm_list;
      server = take 8 fresh;
      first = first_message;
      second = second_message (challenged (take 8 fresh) now t);
    })
    in
    ap (λ (b : Option Begun). pending_with b fresh now) (begins false) ∙ kept

pub eight_of : (fresh : List ℕ) → length fresh ≡ 8 → length (take 8 fresh) ≡ 8
eight_of fresh eight = length-take-le 8 fresh (omega arith)

challenge_most : (server : List ℕ) (now : ℕ) → length server ≡ 8 → length (challenge_resp (own_second server now)) ≤ 219
challenge_most server now eight =
    let a = resp_most (record { state = Some 1; ntlm = true; token = Some (own_second server now); mic = None }) in
    let b = second_size server now eight in
    omega arith

-- the list of a SPNEGO token isn't empty, so its challenge is wrapped
pub listed : is_unlisted ntlm_list ≡ false
unfolding is_unlisted
listed = refl

pub challenge_is : (second : List ℕ) → challenge_token ntlm_list second ≡ challenge_resp second
unfolding challenge_token
challenge_is second = ap (λ (b : Bool). if b then second else challenge_resp second) listed

pub challenge_short : (fresh : List ℕ) (now : ℕ) → length fresh ≡ 8 → length (challenge_of (pending_by false first_token fresh now)) < 256 ^ 2
challenge_short fresh now eight =
    let is : length (challenge_of (pending_by false first_token fresh now)) ≡ length (challenge_resp (own_second (take 8 fresh) now)) =
    ap (λ (p : Option Pending). length (challenge_of p)) (pending_is fresh now)
    ∙ ap {B = ℕ} length (challenge_is (own_second (take 8 fresh) now)) in
    let most = challenge_most (take 8 fresh) now (eight_of fresh eight) in
    omega arith

-- ---- an answer isn't a first token

not_zero : (k : ℕ) → (suc k == 0) ≡ false
not_zero k = grind (arith, nat_tests)

spnego_none : (v : RespValue) → begun_of (init_in (resp_spelling v)) ≡ None
unfolding init_in element resp_spelling spelled
spnego_none v =
    let inner = spelled 0x30 (resp_fields_spelling v) in
    rw (not_zero (length (length_bytes (length inner) ++ inner))) refl

-- it begins with SPNEGO's tag
pub resp_wrapped : (v : RespValue) → is_bare (resp_spelling v) ≡ false
unfolding is_bare resp_spelling spelled
resp_wrapped v = refl

none_by : (bare : Bool) (token : List ℕ) → is_bare token ≡ false → begun_of (init_in token) ≡ None → begun_by bare token ≡ None
unfolding begun_by first_in
none_by true token wrapped none = ap (λ (b : Bool). begun_of (first_by b token)) wrapped ∙ none
none_by false token wrapped none = none

pub begins_none : (bare : Bool) (v : RespValue) → begun_by bare (resp_spelling v) ≡ None
begins_none bare v = none_by bare (resp_spelling v) (resp_wrapped v) (spnego_none v)

pub second_is : (v : RespValue) → second_in ntlm_list (resp_spelling v) ≡ resp_in (resp_spelling v)
unfolding second_in
second_is v = ap (λ (b : Bool). second_by b (is_bare (resp_spelling v)) (resp_spelling v)) listed

pub final_is : (logon : LogonValue) (signs : Bool) → final_token ntlm_list logon signs ≡ final_resp ntlm_list logon signs
unfolding final_token
final_is logon signs = ap (λ (b : Bool). if b then [] else final_resp ntlm_list logon signs) listed
