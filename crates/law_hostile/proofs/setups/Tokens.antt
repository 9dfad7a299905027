-- What a token of the client shows to a server, whatever logon is in the making there: its user, or no logon.
use Rattle.std.proofs.Common.{◌≡◌, ℕ, ◌<◌, ◌^◌, ◌==◌, nat_lt, Bool, true, false, if◌then◌else◌, List, [], ◌∷◌, ◌⊎◌, inl, inr}
use Rattle.std.proofs.Common.{length, replicate, refl, sym, ap, ◌∙◌, subst, arith, Option, Some, None, Result, Ok, Err}
use Rattle.std.proofs.lemmas.Bool.Decides.{nat_tests}
use Rattle.std.proofs.lemmas.Slice.Eq.{bytes_eq-Decides}
use Rattle.std.specs.Str.{bytes_eq}
use Rattle.law_server.proofs.tables.Logic.{either, both}
use Rattle.spec_exchange.specs.Content.{same_bytes}
use Rattle.spec_exchange.specs.Commands.{Refused, Logon}
use Rattle.spec_crypto.specs.declared.tokens.der.DerError.{DerError}
use Rattle.spec_crypto.specs.declared.tokens.der.DerError.TheVariants.{NoNtlm}
use Rattle.spec_crypto.specs.declared.tokens.ntlm.NtlmError.{NtlmError}
use Rattle.spec_crypto.specs.declared.tokens.ntlm.LogonError.{LogonError}
use Rattle.spec_crypto.specs.tokens.Formulas.{utf16, mech_list_mic}
use Rattle.spec_crypto.specs.tokens.Messages.{Type2Value, type2_in}
use Rattle.spec_wire.specs.messages.Places.{le}
use Rattle.spec_crypto.specs.tokens.Der.{element, spelled}
use Rattle.spec_crypto.specs.tokens.Spnego.{RespValue, ntlm_list, resp_in, resp_spelling, init_spelling, IsWritableResp}
use Rattle.spec_crypto.specs.tokens.Acceptor.{User, LogonValue, user_named, verdict}
use Rattle.spec_crypto.specs.tokens.Answer.{Credentials, first_message, answer_with, has_room, answer, answered}
use Rattle.spec_crypto.specs.tokens.Tokens.{Users, Begun, Pending, Shown, first_token, is_bare, is_unlisted, second_by, second_in, bare_resp}
use Rattle.spec_crypto.specs.tokens.Tokens.{Bad as TokenBad, Refused as TokenRefused, LoggedOn}
use Rattle.spec_crypto.specs.tokens.Tokens.{answer_resp, answer_with_mic, answer_to_message, answer_to_token, answer_to, answer_token, shown_with, shown_logon}
use Rattle.spec_crypto.specs.tokens.Tokens.{shown_second, shown_by, shown_if, shown, begun_by}
use Rattle.spec_world.specs.Settings.{WorldSettings, logon_with, logon_of}
use Rattle.spec_world.specs.Ends.{ClientEnd}
use Rattle.spec_world.specs.Logon.{shows_of, token_shows}
use Rattle.spec_world.specs.Sending.{credentials_of, that_fits, answer_of, or_no_token}
use Rattle.law_sessions.specs.sessions.Sessions.{logon_user}
use Rattle.law_ties.specs.wire_facts.Fitting.{IsFitting, HasPassword}
use Rattle.law_hostile.specs.loosely.LooseRuns.{shows_user}
use Rattle.law_hostile.specs.meant.Meant.{IsOwnToken, BeginsLogon, AnswersChallenge}
use Rattle.law_hostile.proofs.setups.Users.{own_user, IsOf, verdict_of_own}

abbrev pub RespReads : Type 0
RespReads = (v : RespValue) → IsWritableResp v → resp_in (resp_spelling v) ≡ Ok v

-- ---- which tokens the client has

-- an answer to a challenge of these bytes
pub record IsAnswer (c : Credentials) (token : List ℕ) : Type 0 where
  pub second : List ℕ
  pub value : Type2Value
  pub room : has_room (answer_with c value (replicate 16 0)) ≡ true
  pub code : List ℕ
  pub is : token ≡ answer_resp (answer c first_message second value) code

AllAnswer : Credentials → Option (List ℕ) → Type 0
AllAnswer c None = Unit {0}
AllAnswer c (Some token) = IsAnswer c token

with_room : (c : Credentials) (second : List ℕ) (v : Type2Value) → AllAnswer c (answer_with_mic c (answered c first_message second v))
unfolding answered AllAnswer
with_room c second v =
    either (λ o. AllAnswer c (answer_with_mic c o)) (has_room (answer_with c v (replicate 16 0))) (Some (answer c first_message second v)) None
    (λ on. record { second = second; value = v; room = on; code = mech_list_mic c.key true true ntlm_list; is = refl }) (λ _. tt)

to_message : (c : Credentials) (second : List ℕ) (r : Result Type2Value NtlmError) → AllAnswer c (answer_to_message c second r)
unfolding AllAnswer
to_message c second (Ok v) = with_room c second v
to_message c second (Err e) = tt

to_token : (c : Credentials) (o : Option (List ℕ)) → AllAnswer c (answer_to_token c o)
unfolding AllAnswer
to_token c None = tt
to_token c (Some second) = to_message c second (type2_in second)

to_resp : (c : Credentials) (r : Result RespValue DerError) → AllAnswer c (answer_to c r)
unfolding AllAnswer
to_resp c (Ok v) = to_token c v.token
to_resp c (Err e) = tt

all_answer : (c : Credentials) (token : List ℕ) → AllAnswer c (answer_token c token)
unfolding answer_token
all_answer c token = to_resp c (resp_in token)

below : (n k : ℕ) → nat_lt n k ≡ true → n < k
below n k e = grind (arith, nat_tests)

-- it has no bytes, or is such an answer, and short
fitting : (c : Credentials) (o : Option (List ℕ)) → AllAnswer c o
    → (or_no_token (that_fits o) ≡ []) ⊎ (IsAnswer c (or_no_token (that_fits o)) × (length (or_no_token (that_fits o)) < 65536))
unfolding AllAnswer
fitting c None a = inl refl
fitting c (Some token) a =
    either (λ (o : Option (List ℕ)). (or_no_token o ≡ []) ⊎ (IsAnswer c (or_no_token o) × (length (or_no_token o) < 65536)))
    (nat_lt (length token) 65536) (Some token) None (λ on. inr (a, below (length token) 65536 on)) (λ _. inl refl)

pub answered_by : (z : WorldSettings) (n : ClientEnd) (m : List ℕ)
    → (or_no_token (answer_of z.client n m) ≡ [])
    ⊎ (IsAnswer (credentials_of z.client n) (or_no_token (answer_of z.client n m)) × (length (or_no_token (answer_of z.client n m)) < 65536))
unfolding answer_of
answered_by z n m =
    let c = credentials_of z.client n in fitting c (answer_token c m) (all_answer c m)

-- ---- what they show

abbrev Fine : WorldSettings → Shown → Type 0
Fine z s = shows_user (logon_user (logon_of z)) (shows_of s) ≡ true

same_itself : (xs : List ℕ) → same_bytes xs xs ≡ true
unfolding same_bytes
same_itself [] = refl
same_itself (x ∷ xs) = both (x == x) (same_bytes xs xs) (self x) (same_itself xs)
  where
    self : (n : ℕ) → (n == n) ≡ true
    self n = grind arith

-- the user's own name
named_by : (password : List ℕ) (o : Option User) (u : User) → o ≡ Some u → HasPassword o password → logon_user (logon_with password o) ≡ u.name
named_by password None u e has = absurd (let q : None ≡ Some u = e in cc)
named_by password (Some v) u e has =
    let same : v ≡ u = cc in
    ap (λ b. logon_user (if b then Logon v.name else Refused)) ((bytes_eq-Decides v.password password).1 has)
    ∙ ap (λ (w : User). w.name) same

own_name : (z : WorldSettings) (u : User) → IsFitting z → user_named (utf16 z.client.user) z.server.users.list ≡ Some u
    → logon_user (logon_of z) ≡ u.name
unfolding logon_of
own_name z u fits e = named_by z.client.password (user_named (utf16 z.client.user) z.server.users.list) u e fits.password

logged_fine : (z : WorldSettings) (logon : LogonValue) (signs : Bool) → logon.user ≡ logon_user (logon_of z) → Fine z (LoggedOn logon signs)
logged_fine z logon signs e =
    ap (λ a. same_bytes a (logon_user (logon_of z))) e ∙ same_itself (logon_user (logon_of z))

with_fine : (z : WorldSettings) (list : List ℕ) (logon : LogonValue) (o : Option (List ℕ)) → logon.user ≡ logon_user (logon_of z)
    → Fine z (shown_with list logon o)
with_fine z list logon None e = logged_fine z logon false e
with_fine z list logon (Some code) e =
    either (Fine z) (bytes_eq code (mech_list_mic logon.key true logon.exchanged list)) (LoggedOn logon true) TokenRefused
    (λ _. logged_fine z logon true e) (λ _. refl)

logon_fine : (z : WorldSettings) (list : List ℕ) (o : Option (List ℕ)) (r : Result LogonValue LogonError) → IsFitting z
    → IsOf (utf16 z.client.user) z.server.users.list r → Fine z (shown_logon list o r)
unfolding IsOf
logon_fine z list o (Err e) fits of = refl
logon_fine z list o (Ok logon) fits of = with_fine z list logon o (of.2 ∙ sym (own_name z of.0 fits of.1))

none_shown : (users : Users) (p : Pending) (e : DerError) → shown_second users p (Err e) ≡ TokenBad
none_shown users p e = refl

-- behind a type 1 alone a token of SPNEGO is none
second_fine : (z : WorldSettings) (p : Pending) (token : List ℕ) → is_bare token ≡ false
    → Fine z (shown_second z.server.users p (resp_in token)) → Fine z (shown_by z.server.users (Some p) token)
unfolding second_in
second_fine z p token wrapped fine = by (is_unlisted p.list)
  where
    by : (b : Bool) → Fine z (shown_second z.server.users p (second_by b (is_bare token) token))
    by false = fine
    by true = subst (λ a. Fine z (shown_second z.server.users p (if a then Ok (bare_resp token) else Err NoNtlm))) (sym wrapped) refl

begun_fine : (z : WorldSettings) (o : Option Begun) (s : Shown) → Fine z s → Fine z (shown_if o s)
begun_fine z None s f = f
begun_fine z (Some b) s f = refl

token_fine : (z : WorldSettings) (pending : Option Pending) (token : List ℕ) → is_bare token ≡ false
    → ((p : Pending) → Fine z (shown_second z.server.users p (resp_in token)))
    → shows_user (logon_user (logon_of z)) (token_shows z.server.users pending token) ≡ true
unfolding shown
token_fine z None token wrapped fine = begun_fine z (begun_by z.server.users.bare token) TokenBad refl
token_fine z (Some p) token wrapped fine =
    begun_fine z (begun_by z.server.users.bare token) (shown_by z.server.users (Some p) token) (second_fine z p token wrapped (fine p))

resp_wrapped : (v : RespValue) → is_bare (resp_spelling v) ≡ false
unfolding is_bare resp_spelling spelled
resp_wrapped v = refl

answer_fine : RespReads → (z : WorldSettings) (n : ClientEnd) (token : List ℕ) (p : Pending) → IsFitting z
    → IsAnswer (credentials_of z.client n) token → length token < 65536 → Fine z (shown_second z.server.users p (resp_in token))
answer_fine reads z n token p fits a short =
    let c = credentials_of z.client n in
    let third = answer c first_message a.second a.value in
    let v : RespValue = record { state = None; ntlm = false; token = Some third; mic = Some a.code } in
    let is : token ≡ resp_spelling v = a.is in
    let small : length (resp_spelling v) < 2 ^ 32 = (let l = subst (λ t. length t < 65536) is short in omega (arith, l)) in
    let read : resp_in token ≡ Ok v = ap resp_in is ∙ reads v (record { short = small }) in
    subst (λ r. Fine z (shown_second z.server.users p r)) (sym read)
    (logon_fine z p.list (Some a.code) (verdict z.server.users.list p.server p.first p.second third) fits
    (verdict_of_own (utf16 z.client.user) z.server.users.list p.server p.first p.second third (own_user c first_message a.second a.value a.room)))

first_wrapped : is_bare first_token ≡ false
unfolding is_bare first_token init_spelling spelled
first_wrapped = refl

IsErr : {V E : Type 0} → Result V E → Type 0
IsErr (Ok v) = ⊥
IsErr (Err e) = Unit {0}

first_not : IsErr (resp_in first_token)
unfolding resp_in element first_token init_spelling spelled IsErr first_message le
first_not = tt

none_wrapped : is_bare [] ≡ false
unfolding is_bare
none_wrapped = refl

none_not : IsErr (resp_in [])
unfolding resp_in element IsErr
none_not = tt

bad_fine : (z : WorldSettings) (p : Pending) (r : Result RespValue DerError) → IsErr r → Fine z (shown_second z.server.users p r)
unfolding IsErr
bad_fine z p (Ok v) bad = absurd bad
bad_fine z p (Err e) bad = refl

pub no_token_fine : (z : WorldSettings) (pending : Option Pending)
    → shows_user (logon_user (logon_of z)) (token_shows z.server.users pending []) ≡ true
no_token_fine z pending = token_fine z pending [] none_wrapped (λ p. bad_fine z p (resp_in []) none_not)

pub own_token_fine : RespReads → (z : WorldSettings) (pending : Option Pending) (token : List ℕ) → IsFitting z → IsOwnToken z token
    → shows_user (logon_user (logon_of z)) (token_shows z.server.users pending token) ≡ true
own_token_fine reads z pending token fits (BeginsLogon e) =
    subst (λ t. shows_user (logon_user (logon_of z)) (token_shows z.server.users pending t) ≡ true) (sym e)
    (token_fine z pending first_token first_wrapped (λ p. bad_fine z p (resp_in first_token) first_not))
own_token_fine reads z pending token fits (AnswersChallenge n m e) =
    subst (λ t. shows_user (logon_user (logon_of z)) (token_shows z.server.users pending t) ≡ true) (sym e)
    (by (or_no_token (answer_of z.client n m)) (answered_by z n m))
  where
    by : (t : List ℕ) → (t ≡ []) ⊎ (IsAnswer (credentials_of z.client n) t × (length t < 65536))
        → shows_user (logon_user (logon_of z)) (token_shows z.server.users pending t) ≡ true
    by t (inl none) =
        subst (λ s. shows_user (logon_user (logon_of z)) (token_shows z.server.users pending s) ≡ true) (sym none) (no_token_fine z pending)
    by t (inr a) =
        let q = a.0 in
        let v : RespValue = record {
          state = None;
          ntlm = false;
          token = Some (answer (credentials_of z.client n) first_message q.second q.value);
          mic = Some q.code;
        } in
        token_fine z pending t (ap is_bare q.is ∙ resp_wrapped v) (λ p. answer_fine reads z n t p fits q a.1)

first_short : length first_token < 65536
unfolding first_token init_spelling spelled first_message le
first_short = omega arith

pub token_short : (z : WorldSettings) (token : List ℕ) → IsOwnToken z token → length token < 65536
token_short z token (BeginsLogon e) = subst (λ t. length t < 65536) (sym e) first_short
token_short z token (AnswersChallenge n m e) = subst (λ t. length t < 65536) (sym e) (by (or_no_token (answer_of z.client n m)) (answered_by z n m))
  where
    by : (t : List ℕ) → (t ≡ []) ⊎ (IsAnswer (credentials_of z.client n) t × (length t < 65536)) → length t < 65536
    by t (inl none) = subst (λ s. length s < 65536) (sym none) (omega arith)
    by t (inr a) = a.1
