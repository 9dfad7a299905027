-- The type 3 of a response, with the MIC of the message without it, is the answer.
use Rattle.std.proofs.Common.{◌≡◌, ℕ, ◌<◌, ◌^◌, nat_lt, Bool, true, false, ◌&&◌, List, ◌++◌, length}
use Rattle.std.proofs.Common.{replicate, refl, ap, ◌∙◌, arith, Some, None}
use Rattle.std.proofs.lemmas.Bool.Decides.{nat_tests}
use Rattle.spec_crypto.specs.tokens.Formulas.{utf16, mic}
use Rattle.spec_crypto.specs.tokens.Messages.{Type2Value, type3_spelling}
use Rattle.spec_crypto.specs.tokens.Answer.{Credentials, answer_with, has_room, answer, temp_of, proof_of}
use Rattle.spec_crypto.specs.tokens.Answer
use Rattle.crypto_sessions.specs.declared.ntlmv2.answer.Response.{Response}
use Rattle.crypto_sessions.specs.ntlmv2.Responses.{IsResponse, IsResponseShort, answer_value}

same_value : (c : Credentials) (second : Type2Value) (r : Response) (code : List ℕ) → IsResponse c second r →
    answer_value r code ≡ answer_with c second code
same_value c second r code is = rw (is.nt, is.domain, is.user, is.session_key) refl

pub answered : (c : Credentials) (second : Type2Value) (r : Response) (first second_bytes unsigned code : List ℕ) →
    IsResponse c second r → unsigned ≡ type3_spelling (answer_value r (replicate 16 0)) → code ≡ mic c.key first
    second_bytes unsigned → type3_spelling (answer_value r code) ≡ answer c first second_bytes second
unfolding answer
answered c second r first second_bytes unsigned code is u m =
    let plain : unsigned ≡ type3_spelling (answer_with c second (replicate 16 0)) = u ∙ ap type3_spelling (same_value c
    second r (replicate 16 0) is) in
    ap type3_spelling (same_value c second r code is) ∙ ap (λ (x : List ℕ). type3_spelling (answer_with c second x)) (m
    ∙ ap (mic c.key first second_bytes) plain)

lt : (n : ℕ) → n < 256 ^ 2 → nat_lt n 65536 ≡ true
lt n h = grind (arith, nat_tests)

below : (n : ℕ) → nat_lt n 65536 ≡ true → n < 256 ^ 2
below n h = grind (arith, nat_tests)

all_three : (a b c : Bool) → (a && (b && c)) ≡ true → (a ≡ true) × (b ≡ true) × (c ≡ true)
all_three true true true h = (refl, refl, refl)
all_three true true false h = absurd cc
all_three true false c h = absurd cc
all_three false b c h = absurd cc

not_false : (b : Bool) → (b ≡ true → ⊥) → b ≡ false
not_false true h = absurd (h refl)
not_false false h = refl

-- what is short has room, and the other way round
pub short_has_room : (c : Credentials) (second : Type2Value) (r : Response) (code : List ℕ) → IsResponse c second r →
    IsResponseShort r → has_room (answer_with c second code) ≡ true
short_has_room c second r code is short = rw (← is.nt, ← is.domain, ← is.user, lt _ short.nt, lt _ short.domain, lt _ short.user) refl

pub long_has_none : (c : Credentials) (second : Type2Value) (r : Response) (code : List ℕ) → IsResponse c second r →
    (IsResponseShort r → ⊥) → has_room (answer_with c second code) ≡ false
long_has_none c second r code is long =
    not_false (has_room (answer_with c second code)) (λ e.
    let parts = all_three (nat_lt (length (proof_of c second ++ temp_of c second)) 65536) (nat_lt (length (utf16
    c.domain)) 65536) (nat_lt (length (utf16 c.user)) 65536) e in
    long (record {
      nt = rw is.nt (below _ parts.0);
      domain = rw is.domain (below _ parts.1);
      user = rw is.user (below _ parts.2);
    }))

pub given_answer : (c : Credentials) (second : Type2Value) (r : Response) (first second_bytes unsigned code third : List
    ℕ) → IsResponse c second r → IsResponseShort r → unsigned ≡ type3_spelling (answer_value r (replicate 16 0)) → code ≡ mic
    c.key first second_bytes unsigned → third ≡ type3_spelling (answer_value r code) → Some third ≡ Answer.answered c
    first second_bytes second
unfolding Answer.answered
given_answer c second r first second_bytes unsigned code third is short u m t =
    rw (short_has_room c second r (replicate 16 0) is short)
    (ap Some (t ∙ answered c second r first second_bytes unsigned code is u m))

pub no_answer : (c : Credentials) (second : Type2Value) (r : Response) (first second_bytes : List ℕ) → IsResponse c
    second r → (IsResponseShort r → ⊥) → None ≡ Answer.answered c first second_bytes second
unfolding Answer.answered
no_answer c second r first second_bytes is long = rw (long_has_none c second r (replicate 16 0) is long) refl
