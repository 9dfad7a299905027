-- What settings say of the client's logon, and that its tokens come to that.
use Rattle.std.proofs.Common.{◌≡◌, ℕ, zero, suc, ◌^◌, ◌<◌, ◌≤◌, true, false, if◌then◌else◌, List, [], ◌∷◌, length, take, refl, sym}
use Rattle.std.proofs.Common.{ap, ◌∙◌, subst, arith, Option, Some, None, Result}
use Rattle.std.proofs.lemmas.Slice.Eq.{bytes_eq-Decides}
use Rattle.std.proofs.lemmas.Str.Ascii.{IsAscii-nil}
use Rattle.std.specs.Str.{IsAscii, bytes_eq}
use Rattle.spec_exchange.specs.Commands.{Shows, Refused as ShowsRefused, Logon}
use Rattle.spec_crypto.specs.declared.tokens.der.DerError.{DerError}
use Rattle.spec_crypto.specs.tokens.Formulas.{utf16, mech_list_mic}
use Rattle.spec_crypto.specs.tokens.Acceptor.{User, user_named}
use Rattle.spec_crypto.specs.tokens.Spnego.{RespValue, ntlm_list, resp_spelling, IsWritableResp}
use Rattle.spec_crypto.specs.tokens.Tokens.{Pending, Shown, Refused, LoggedOn, first_token, challenge_token}
use Rattle.spec_crypto.specs.tokens.Tokens.{shown, is_final, is_final_of}
use Rattle.spec_world.specs.Settings.{WorldSettings, logon_with, logon_of}
use Rattle.spec_world.specs.Ends.{ClientEnd}
use Rattle.spec_world.specs.Logon.{shows_of, exported, exported_by, pending_by, challenge_of, final_by, final_of}
use Rattle.spec_world.specs.Sending.{credentials_of, that_fits, answer_of}
use Rattle.law_ties.specs.wire_facts.Fitting.{AllAscii, HasPassword, IsFitting}
use Rattle.law_ties.specs.wire_facts.Lawful.{HasLogon, IsLawfulAnswered, AreTokensLawful}
use Rattle.law_runs.proofs.logons.Lengths.{IsUsed, code_most, resp_most, resp_fits}
use Rattle.law_runs.proofs.logons.Begun.{own_begun, begins, first_short, own_second, own_pending, pending_is, eight_of, challenge_short}
use Rattle.law_runs.proofs.logons.Begun.{final_is}
use Rattle.law_runs.proofs.logons.Shown.{Laws, RespReads, token_of, token_most, token_fits, answers, same_bytes}
use Rattle.law_runs.proofs.logons.Shown.{logon_by, logged_on, refused}

ascii_of : (bs : List ℕ) → AllAscii bs → IsAscii bs
ascii_of [] h i = IsAscii-nil i
ascii_of (b ∷ bs) (low, rest) zero = low
ascii_of (b ∷ bs) (low, rest) (suc i) = ascii_of bs rest i

used_by : (z : WorldSettings) (n : ClientEnd) → IsFitting z → HasLogon n → IsUsed (credentials_of z.client n)
used_by z n fitting has = record {
  challenge = has.challenge;
  key = has.base;
  ascii = ascii_of z.client.user fitting.client.user.ascii;
  short = fitting.client.user.short;
  domain = refl;
}

-- ---- the server's last token

abbrev server_code : List ℕ → List ℕ
server_code key = mech_list_mic key false true ntlm_list

abbrev final_value : List ℕ → RespValue
final_value key = record { state = Some 0; ntlm = false; token = None; mic = Some (server_code key) }

final_fits : (key : List ℕ) → IsWritableResp (final_value key)
final_fits key = resp_fits (final_value key) (let a = code_most key ntlm_list false in omega arith)

is_taken : RespReads → (key : List ℕ) → is_final key (resp_spelling (final_value key)) ≡ true
unfolding is_final
is_taken reads key =
    ap (λ (r : Result RespValue DerError). is_final_of key r) (reads (final_value key) (final_fits key)) ∙ same_bytes (server_code key)

final_most : (key : List ℕ) → length (resp_spelling (final_value key)) ≤ 87
final_most key = let a = resp_most (final_value key) in let b = code_most key ntlm_list false in omega arith

-- ---- by the user of its name

abbrev Answered : WorldSettings → ClientEnd → List ℕ → ℕ → Type 0
Answered z n server now =
    IsLawfulAnswered z n (Some (own_pending server now)) (token_of (credentials_of z.client n) server now)

short_of : (z : WorldSettings) (n : ClientEnd) (server : List ℕ) (now : ℕ) → IsFitting z → HasLogon n
    → length (token_of (credentials_of z.client n) server now) < 256 ^ 2
short_of z n server now fitting has =
    let most = token_most (credentials_of z.client n) server now (used_by z n fitting has) in omega arith

named_logon : (z : WorldSettings) (u : User) → user_named (utf16 z.client.user) z.server.users.list ≡ Some u → u.password ≡ z.client.password
    → logon_of z ≡ Logon u.name
unfolding logon_of
named_logon z u named same =
    let equal : bytes_eq u.password z.client.password ≡ true = (bytes_eq-Decides u.password z.client.password).1 same in
    let shows : logon_with z.client.password (Some u) ≡ Logon u.name = λ t. if equal t then Logon u.name else ShowsRefused in
    ap (λ (o : Option User). logon_with z.client.password o) named ∙ shows

no_logon : (z : WorldSettings) → user_named (utf16 z.client.user) z.server.users.list ≡ None → logon_of z ≡ ShowsRefused
unfolding logon_of
no_logon z none = ap (λ (o : Option User). logon_with z.client.password o) none

named_answered : Laws → (z : WorldSettings) (n : ClientEnd) (server : List ℕ) (now : ℕ) (u : User) → IsFitting z → HasLogon n
    → length server ≡ 8 → user_named (utf16 z.client.user) z.server.users.list ≡ Some u → u.password ≡ z.client.password
    → Answered z n server now
unfolding exported
named_answered laws z n server now u fitting has eight named same =
    let c = credentials_of z.client n in
    let p = own_pending server now in
    let users = z.server.users in
    let logged : shown users (Some p) (token_of c server now) ≡ LoggedOn (logon_by u c) true =
    logged_on laws users u c server now (used_by z n fitting has) eight (record { named = named; password = same }) in
    let last : final_of users (Some p) (token_of c server now) ≡ resp_spelling (final_value n.base) =
    ap (λ (s : Shown). final_by ntlm_list s) logged ∙ final_is (logon_by u c) true in
    record {
      short = short_of z n server now fitting has;
      shows = ap shows_of logged ∙ sym (named_logon z u named same);
      exported_is = λ user h. ap exported_by logged;
      final = λ user h. ap (is_final n.base) last ∙ is_taken laws.resp n.base;
      final_short = let e = ap {B = ℕ} length last in let most = final_most n.base in omega arith;
    }

never : (user : List ℕ) → ◌≡◌ {A = Shows} ShowsRefused (Logon user) → ⊥
never user h = absurd cc

unknown_answered : Laws → (z : WorldSettings) (n : ClientEnd) (server : List ℕ) (now : ℕ) → IsFitting z → HasLogon n
    → length server ≡ 8 → user_named (utf16 z.client.user) z.server.users.list ≡ None → Answered z n server now
unknown_answered laws z n server now fitting has eight none =
    let c = credentials_of z.client n in
    let p = own_pending server now in
    let users = z.server.users in
    let shut : shown users (Some p) (token_of c server now) ≡ Refused =
    refused laws users c server now (used_by z n fitting has) eight none in
    let last : final_of users (Some p) (token_of c server now) ≡ [] = ap (λ (s : Shown). final_by ntlm_list s) shut in
    let no_user : (user : List ℕ) → logon_of z ≡ Logon user → ⊥ =
    (λ user h. never user (sym (no_logon z none) ∙ h)) in
    record {
      short = short_of z n server now fitting has;
      shows = ap shows_of shut ∙ sym (no_logon z none);
      exported_is = λ user h. absurd (no_user user h);
      final = λ user h. absurd (no_user user h);
      final_short = let e = ap {B = ℕ} length last in omega arith;
    }

answered_by : Laws → (z : WorldSettings) (n : ClientEnd) (server : List ℕ) (now : ℕ) → IsFitting z → HasLogon n → length server ≡ 8
    → (o : Option User) → user_named (utf16 z.client.user) z.server.users.list ≡ o → Answered z n server now
answered_by laws z n server now fitting has eight None none = unknown_answered laws z n server now fitting has eight none
answered_by laws z n server now fitting has eight (Some u) named =
    named_answered laws z n server now u fitting has eight named
    (subst (λ (o : Option User). HasPassword o z.client.password) named fitting.password)

-- ---- the client's answer

answer_is : Laws → (z : WorldSettings) (n : ClientEnd) (server : List ℕ) (now : ℕ) → IsFitting z → HasLogon n → length server ≡ 8
    → answer_of z.client n (challenge_token ntlm_list (own_second server now)) ≡ Some (token_of (credentials_of z.client n) server now)
unfolding answer_of
answer_is laws z n server now fitting has eight =
    let c = credentials_of z.client n in
    let used = used_by z n fitting has in
    let fits : that_fits (Some (token_of c server now)) ≡ Some (token_of c server now) =
    λ t. if token_fits c server now used t then Some (token_of c server now) else None in
    ap (λ (o : Option (List ℕ)). that_fits o) (answers laws c server now used eight) ∙ fits

abbrev AnswersTo : WorldSettings → ClientEnd → Option Pending → Type 0
AnswersTo z n p = (token : List ℕ) × (answer_of z.client n (challenge_of p) ≡ Some token) × IsLawfulAnswered z n p token

answers_to : Laws → (z : WorldSettings) (n : ClientEnd) (fresh : List ℕ) (now : ℕ) → IsFitting z → HasLogon n → length fresh ≡ 8
    → AnswersTo z n (pending_by false first_token fresh now)
answers_to laws z n fresh now fitting has eight =
    let server = take 8 fresh in
    let long = eight_of fresh eight in
    let own : AnswersTo z n (Some (own_pending server now)) = (
      token_of (credentials_of z.client n) server now,
      answer_is laws z n server now fitting has long,
      answered_by laws z n server now fitting has long (user_named (utf16 z.client.user) z.server.users.list) refl,
    ) in
    subst (AnswersTo z n) (sym (pending_is fresh now)) own

pub tokens : Laws → (z : WorldSettings) → IsFitting z → AreTokensLawful z
tokens laws z fitting = record {
  first = (own_begun, begins);
  short = first_short;
  challenge = λ fresh now eight low. challenge_short fresh now eight;
  answer = λ n fresh now has eight low. answers_to laws z n fresh now fitting has eight;
}
