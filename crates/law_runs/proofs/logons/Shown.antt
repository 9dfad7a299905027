-- What the client answers to the server's own challenge, and what that shows to the server.
use Rattle.std.proofs.Common.{◌≡◌, ℕ, ◌<◌, ◌≤◌, nat_lt, Bool, true, false, ◌&&◌, if◌then◌else◌, List, length, replicate, refl}
use Rattle.std.proofs.Common.{ap, ◌∙◌, arith, Option, Some, None, Result, Ok, Err}
use Rattle.std.proofs.lemmas.Bool.Decides.{nat_tests}
use Rattle.std.proofs.lemmas.Slice.Eq.{bytes_eq-Decides}
use Rattle.std.specs.Str.{bytes_eq}
use Rattle.spec_crypto.specs.declared.tokens.der.DerError.{DerError}
use Rattle.spec_crypto.specs.declared.tokens.ntlm.NtlmError.{NtlmError}
use Rattle.spec_crypto.specs.declared.tokens.ntlm.LogonError.{LogonError}
use Rattle.spec_crypto.specs.declared.tokens.ntlm.LogonError.TheVariants.{NotAscii, UnknownUser}
use Rattle.spec_crypto.specs.declared.tokens.ntlm.Type1.{Type1}
use Rattle.spec_crypto.specs.tokens.Formulas.{utf16, mech_list_mic}
use Rattle.spec_crypto.specs.tokens.Messages.{Type2Value, Type3Value, type1_in, type2_in, type3_in}
use Rattle.spec_crypto.specs.tokens.Acceptor.{User, LogonValue, challenge_value, challenge, is_ascii_utf16}
use Rattle.spec_crypto.specs.tokens.Acceptor.{user_named, verdict_on, verdict_of, verdict}
use Rattle.spec_crypto.specs.tokens.Answer.{Credentials, first_message, answer_with, has_room, answer_code, answer, answered}
use Rattle.spec_crypto.specs.tokens.Spnego.{RespValue, ntlm_list, resp_in, resp_spelling, IsWritableResp}
use Rattle.spec_crypto.specs.tokens.Tokens.{Users, Begun, Refused, LoggedOn, challenge_token, answer_with_mic}
use Rattle.spec_crypto.specs.tokens.Tokens.{answer_to_message, answer_to, answer_token, shown_with, shown_logon}
use Rattle.spec_crypto.specs.tokens.Tokens.{shown_second, shown_by, shown_if, shown}
use Rattle.law_crypto.specs.ntlm.Own.{IsClient, IsItsUser}
use Rattle.law_runs.proofs.logons.Lengths.{own_challenge, IsUsed, second_size, third_most, rooms, code_most, resp_most, resp_fits}
use Rattle.law_runs.proofs.logons.Begun.{own_type1, type1_reads, own_second, challenged, own_pending, begins_none}
use Rattle.law_runs.proofs.logons.Begun.{challenge_is, second_is}

-- ---- what the laws of tokens and of NTLM say

abbrev pub RespReads : Type 0
RespReads = (v : RespValue) → IsWritableResp v → resp_in (resp_spelling v) ≡ Ok v

abbrev pub ChallengeReads : Type 0
ChallengeReads = (first server second : List ℕ) (now : ℕ) (v : Type1) → length server ≡ 8 → type1_in first ≡ Ok v
    → challenge first server now ≡ Ok second → type2_in second ≡ Ok (challenge_value v server now)

abbrev pub AnswerReads : Type 0
AnswerReads = (c : Credentials) (first second third : List ℕ) (v : Type2Value) → length c.challenge ≡ 8 → length c.key ≡ 16
    → type2_in second ≡ Ok v → answered c first second v ≡ Some third
    → type3_in third ≡ Ok (answer_with c v (answer_code c first second v))

abbrev pub OwnLogon : Type 0
OwnLogon = (c : Credentials) (users : List User) (u : User) (server second third : List ℕ) (now : ℕ) (v : Type2Value)
    → IsClient c → IsItsUser c users u → length server ≡ 8 → challenge first_message server now ≡ Ok second
    → type2_in second ≡ Ok v → answered c first_message second v ≡ Some third
    → verdict users server first_message second third ≡ Ok (record { user = u.name; key = c.key; exchanged = true })

pub record Laws : Type 0 where
  pub resp : RespReads
  pub challenge : ChallengeReads
  pub answer : AnswerReads
  pub logon : OwnLogon

-- ---- the answer

abbrev pub third_of : Credentials → List ℕ → ℕ → List ℕ
third_of c server now = answer c first_message (own_second server now) (own_challenge server now)

abbrev pub client_code : Credentials → List ℕ
client_code c = mech_list_mic c.key true true ntlm_list

abbrev pub answer_value : Credentials → List ℕ → ℕ → RespValue
answer_value c server now = record { state = None; ntlm = false; token = Some (third_of c server now); mic = Some (client_code c) }

abbrev pub token_of : Credentials → List ℕ → ℕ → List ℕ
token_of c server now = resp_spelling (answer_value c server now)

pub second_reads : Laws → (server : List ℕ) (now : ℕ) → length server ≡ 8 → type2_in (own_second server now) ≡ Ok (own_challenge server now)
second_reads laws server now eight =
    laws.challenge first_message server (own_second server now) now own_type1 eight type1_reads (challenged server now)

all_three : (a b c : Bool) → a ≡ true → b ≡ true → c ≡ true → (a && (b && c)) ≡ true
all_three true true true e f g = refl
all_three true true false e f g = g
all_three true false c e f g = f
all_three false b c e f g = e

pub third_is : (c : Credentials) (server : List ℕ) (now : ℕ) → IsUsed c
    → answered c first_message (own_second server now) (own_challenge server now) ≡ Some (third_of c server now)
unfolding answered
third_is c server now used =
    let w = answer_with c (own_challenge server now) (replicate 16 0) in
    let r = rooms c server (replicate 16 0) now used in
    let room : has_room w ≡ true =
    all_three (nat_lt (length w.nt) 65536) (nat_lt (length w.domain) 65536) (nat_lt (length w.user) 65536) r.0 r.1 r.2 in
    λ t. if room t then Some (third_of c server now) else None

pub token_most : (c : Credentials) (server : List ℕ) (now : ℕ) → IsUsed c → length (token_of c server now) ≤ 1391
token_most c server now used =
    let a = resp_most (answer_value c server now) in
    let b = third_most c server now used in
    let d = code_most c.key ntlm_list true in
    omega arith

low : (n k : ℕ) → n < k → nat_lt n k ≡ true
low n k h = grind (arith, nat_tests)

pub token_fits : (c : Credentials) (server : List ℕ) (now : ℕ) → IsUsed c → nat_lt (length (token_of c server now)) 65536 ≡ true
token_fits c server now used = low (length (token_of c server now)) 65536 (let most = token_most c server now used in omega arith)

answer_fits : (c : Credentials) (server : List ℕ) (now : ℕ) → IsUsed c → IsWritableResp (answer_value c server now)
answer_fits c server now used =
    resp_fits (answer_value c server now)
    (let b = third_most c server now used in let d = code_most c.key ntlm_list true in omega arith)

challenge_fits : (server : List ℕ) (now : ℕ) → length server ≡ 8
    → IsWritableResp (record { state = Some 1; ntlm = true; token = Some (own_second server now); mic = None })
challenge_fits server now eight =
    resp_fits (record { state = Some 1; ntlm = true; token = Some (own_second server now); mic = None })
    (let b = second_size server now eight in omega arith)

pub answers : Laws → (c : Credentials) (server : List ℕ) (now : ℕ) → IsUsed c → length server ≡ 8
    → answer_token c (challenge_token ntlm_list (own_second server now)) ≡ Some (token_of c server now)
unfolding answer_token
answers laws c server now used eight =
    let second = own_second server now in
    let v : RespValue = record { state = Some 1; ntlm = true; token = Some second; mic = None } in
    ap (λ (t : List ℕ). answer_to c (resp_in t)) (challenge_is second)
    ∙ (ap (λ (r : Result RespValue DerError). answer_to c r) (laws.resp v (challenge_fits server now eight))
    ∙ (ap (λ (r : Result Type2Value NtlmError). answer_to_message c second r) (second_reads laws server now eight)
    ∙ ap (λ (o : Option (List ℕ)). answer_with_mic c o) (third_is c server now used)))

-- ---- what it shows

abbrev Verdict : Users → Credentials → List ℕ → ℕ → Result LogonValue LogonError
Verdict users c server now = verdict users.list server first_message (own_second server now) (third_of c server now)

shown_is : Laws → (users : Users) (c : Credentials) (server : List ℕ) (now : ℕ) → IsUsed c →
    shown users (Some (own_pending server now)) (token_of c server now)
    ≡ shown_logon ntlm_list (Some (client_code c)) (Verdict users c server now)
unfolding shown
shown_is laws users c server now used =
    let p = own_pending server now in
    ap (λ (b : Option Begun). shown_if b (shown_by users (Some p) (token_of c server now))) (begins_none users.bare (answer_value c server now))
    ∙ ap (λ (r : Result RespValue DerError). shown_second users p r)
    (second_is (answer_value c server now) ∙ laws.resp (answer_value c server now) (answer_fits c server now used))

pub same_bytes : (a : List ℕ) → bytes_eq a a ≡ true
same_bytes a = (bytes_eq-Decides a a).1 refl

client_is : (c : Credentials) → IsUsed c → IsClient c
client_is c used = record { challenge = used.challenge; key = used.key; ascii = used.ascii }

abbrev pub logon_by : User → Credentials → LogonValue
logon_by u c = record { user = u.name; key = c.key; exchanged = true }

pub logged_on : Laws → (users : Users) (u : User) (c : Credentials) (server : List ℕ) (now : ℕ) → IsUsed c → length server ≡ 8
    → IsItsUser c users.list u → shown users (Some (own_pending server now)) (token_of c server now) ≡ LoggedOn (logon_by u c) true
logged_on laws users u c server now used eight own =
    let judged : Verdict users c server now ≡ Ok (logon_by u c) =
    laws.logon c users.list u server (own_second server now) (third_of c server now) now (own_challenge server now) (client_is c used)
    own eight (challenged server now) (second_reads laws server now eight) (third_is c server now used) in
    let same : shown_with ntlm_list (logon_by u c) (Some (client_code c)) ≡ LoggedOn (logon_by u c) true =
    λ t. if same_bytes (client_code c) t then LoggedOn (logon_by u c) true else Refused in
    shown_is laws users c server now used
    ∙ (ap (λ (r : Result LogonValue LogonError). shown_logon ntlm_list (Some (client_code c)) r) judged ∙ same)

refused_by : (b : Bool) (list : List ℕ) (code : Option (List ℕ)) →
    shown_logon list code (if b then Err UnknownUser else Err NotAscii) ≡ Refused
refused_by true list code = refl
refused_by false list code = refl

unknown_judged : Laws → (users : Users) (c : Credentials) (server : List ℕ) (now : ℕ) → IsUsed c → length server ≡ 8
    → user_named (utf16 c.user) users.list ≡ None
    → Verdict users c server now ≡ (if is_ascii_utf16 (utf16 c.user) then Err UnknownUser else Err NotAscii)
unfolding verdict
unknown_judged laws users c server now used eight none =
    let second = own_second server now in
    let third = third_of c server now in
    let w : Type3Value = answer_with c (own_challenge server now) (answer_code c first_message second (own_challenge server now)) in
    let reads : type3_in third ≡ Ok w =
    laws.answer c first_message second third (own_challenge server now) used.challenge used.key (second_reads laws server now eight)
    (third_is c server now used) in
    let judged : verdict_of users.list server first_message second third (Ok w)
    ≡ (if is_ascii_utf16 (utf16 c.user) then Err UnknownUser else Err NotAscii) =
    λ t. if is_ascii_utf16 (utf16 c.user) then verdict_on (none t) server first_message second third w else Err NotAscii in
    ap (λ (r : Result Type3Value NtlmError). verdict_of users.list server first_message second third r) reads ∙ judged

pub refused : Laws → (users : Users) (c : Credentials) (server : List ℕ) (now : ℕ) → IsUsed c → length server ≡ 8
    → user_named (utf16 c.user) users.list ≡ None → shown users (Some (own_pending server now)) (token_of c server now) ≡ Refused
refused laws users c server now used eight none =
    shown_is laws users c server now used
    ∙ (ap (λ (r : Result LogonValue LogonError). shown_logon ntlm_list (Some (client_code c)) r)
    (unknown_judged laws users c server now used eight none)
    ∙ refused_by (is_ascii_utf16 (utf16 c.user)) ntlm_list (Some (client_code c)))
