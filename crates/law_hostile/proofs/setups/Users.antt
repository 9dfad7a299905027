-- The user that a client's type 3 names is read as it was written, whatever the challenge was.
use Rattle.std.proofs.Common.{◌≡◌, ℕ, ◌+◌, ◌<◌, ◌^◌, ◌≤◌, ◌==◌, nat_lt, Bool, true, false, ◌&&◌, if◌then◌else◌, List, [], ◌∷◌, ◌++◌, append_assoc}
use Rattle.std.proofs.Common.{length, length-append, replicate, refl, sym, ap, ◌∙◌, subst, arith, Option, Some, None, Result, Ok, Err}
use Rattle.std.proofs.lemmas.Bool.Decides.{nat_tests}
use Rattle.std.specs.Str.{bytes_eq}
use Rattle.md5.proofs.StandardFacts.{length-md5}
use Rattle.law_server.proofs.tables.Logic.{either, front_of, back_of}
use Rattle.spec_wire.specs.messages.Places.{number, number_of, le, bytes_at}
use Rattle.spec_wire.specs.messages.Table.{Num, Raw, Any, with_fields}
use Rattle.spec_wire.proofs.messages.Numbers.{number_of-le, bytes_at-behind}
use Rattle.spec_crypto.specs.declared.tokens.ntlm.NtlmError.{NtlmError}
use Rattle.spec_crypto.specs.declared.tokens.ntlm.LogonError.{LogonError}
use Rattle.spec_crypto.specs.declared.tokens.ntlm.LogonError.TheVariants.{NotAscii, WrongProof, WrongMic}
use Rattle.spec_crypto.specs.tokens.Formulas.{utf16, mic}
use Rattle.spec_crypto.specs.tokens.Messages.{Type2Value, Type3Value, type3_fault, type3_value, type3_spelling, type3_places, ntlm_signature}
use Rattle.spec_crypto.specs.tokens.Messages.{user_at, part_in, given}
use Rattle.spec_crypto.specs.tokens.Acceptor.{User, LogonValue, user_named, is_ascii_utf16, proves, owes_mic, exported_key, logon_of as logon_by}
use Rattle.spec_crypto.specs.tokens.Acceptor.{verdict, verdict_of, verdict_on}
use Rattle.spec_crypto.specs.tokens.Answer.{Credentials, answer_with, answer_code, answer, has_room}

length-mic : (key first second third : List ℕ) → length (mic key first second third) ≡ 16
unfolding mic
length-mic key first second third = length-md5 _

-- ---- the parts in front of the user

abbrev front : Type3Value → List ℕ
front v =
    with_fields []
    ((Raw 8 ntlm_signature ∷ Num 4 3 ∷ type3_places v)
    ++ Num 4 v.flags ∷ Any 8 ∷ Raw 16 v.mic
    ∷ Raw (length v.lm) v.lm ∷ Raw (length v.nt) v.nt ∷ Raw (length v.domain) v.domain ∷ [])

spelled : (v : Type3Value) → type3_spelling v ≡ ((front v ++ v.user) ++ v.workstation) ++ v.session_key
unfolding type3_spelling le
spelled v = refl

joined : (a b c d : List ℕ) → ((a ++ b) ++ c) ++ d ≡ a ++ (b ++ (c ++ d))
joined a b c d = append_assoc (a ++ b) c d ∙ append_assoc a b (c ++ d)

four : (a b c d : List ℕ) → length (((a ++ b) ++ c) ++ d) ≡ length a + length b + length c + length d
four a b c d =
    length-append ((a ++ b) ++ c) d
    ∙ ap (λ n. n + length d) (length-append (a ++ b) c ∙ ap (λ n. n + length c) (length-append a b))

front_is : (v : Type3Value) → length (front v) ≡ 72 + length (((v.mic ++ v.lm) ++ v.nt) ++ v.domain)
unfolding le
front_is v = omega arith

summed : (f p a b c d : ℕ) → f ≡ 72 + p → p ≡ a + b + c + d → a ≡ 16 → f ≡ 88 + b + c + d
summed f p a b c d e g h = omega (arith, e, g, h)

front_long : (v : Type3Value) → length v.mic ≡ 16 → length (front v) ≡ user_at v
front_long v e =
    summed (length (front v)) (length (((v.mic ++ v.lm) ++ v.nt) ++ v.domain)) (length v.mic) (length v.lm) (length v.nt) (length v.domain)
    (front_is v) (four v.mic v.lm v.nt v.domain) e

size_told : (v : Type3Value) → number 2 (type3_spelling v) 36 ≡ number_of (le 2 (length v.user))
unfolding type3_spelling bytes_at le
size_told v = refl

place_told : (v : Type3Value) → number 4 (type3_spelling v) 40 ≡ number_of (le 4 (user_at v))
unfolding type3_spelling bytes_at le
place_told v = refl

at_place : (m : List ℕ) (n at k p : ℕ) → n ≡ k → at ≡ p → bytes_at n m at ≡ bytes_at k m p
at_place m n at k p e f = ap (λ i. bytes_at i m at) e ∙ ap (λ i. bytes_at k m i) f

user_told : (v : Type3Value) → length v.mic ≡ 16 → length v.user < 256 ^ 2 → user_at v < 256 ^ 4 → part_in (type3_spelling v) 36 ≡ v.user
user_told v sixteen short near =
    let m = type3_spelling v in
    at_place m (number 2 m 36) (number 4 m 40) (length v.user) (user_at v)
    (size_told v ∙ number_of-le 2 (length v.user) short) (place_told v ∙ number_of-le 4 (user_at v) near)
    ∙ (ap (λ l. bytes_at (length v.user) l (user_at v)) (spelled v ∙ joined (front v) v.user v.workstation v.session_key)
    ∙ bytes_at-behind (length v.user) (front v) v.user (v.workstation ++ v.session_key) (user_at v) (sym (front_long v sixteen)) refl)

below : (n k : ℕ) → nat_lt n k ≡ true → n < k
below n k e = grind (arith, nat_tests)

near : (a b c d : ℕ) → a ≡ 24 → b < 65536 → c < 65536 → 88 + a + b + c < 256 ^ 4
near a b c d e f g = omega (arith, e, f, g)

-- an answer that has room
pub own_user : (c : Credentials) (first second : List ℕ) (v : Type2Value) → has_room (answer_with c v (replicate 16 0)) ≡ true
    → part_in (answer c first second v) 36 ≡ utf16 c.user
unfolding answer
own_user c first second v room =
    let w = answer_with c v (answer_code c first second v) in
    let nt = below (length w.nt) 65536 (front_of (nat_lt (length w.nt) 65536) _ room) in
    let rest = back_of (nat_lt (length w.nt) 65536) _ room in
    let domain = below (length w.domain) 65536 (front_of (nat_lt (length w.domain) 65536) _ rest) in
    let user = below (length w.user) 65536 (back_of (nat_lt (length w.domain) 65536) _ rest) in
    user_told w (length-mic c.key first second (type3_spelling (answer_with c v (replicate 16 0)))) user
    (near (length w.lm) (length w.nt) (length w.domain) 0 refl nt domain)

-- ---- the server's verdict

-- a logon, where there is one, of a user of that name
unfoldable pub IsOf : List ℕ → List User → Result LogonValue LogonError → Type 0
IsOf bytes users (Err e) = Unit {0}
IsOf bytes users (Ok logon) = (u : User) × (user_named bytes users ≡ Some u) × (logon.user ≡ u.name)

of_user : (bytes : List ℕ) (users : List User) (o : Option User) (server first second third : List ℕ) (v : Type3Value)
    → user_named bytes users ≡ o → IsOf bytes users (verdict_on o server first second third v)
unfolding IsOf
of_user bytes users None server first second third v e = tt
of_user bytes users (Some u) server first second third v e =
    either (IsOf bytes users) (Rattle.std.proofs.Common.not (proves u server v)) (Err WrongProof) _ (λ _. tt)
    (λ _. either (IsOf bytes users) (owes_mic v && Rattle.std.proofs.Common.not (bytes_eq v.mic (mic (exported_key u v) first second third)))
    (Err WrongMic) (Ok (logon_by u v)) (λ _. tt) (λ _. (u, e, refl)))

of_value : (bytes : List ℕ) (users : List User) (server first second third : List ℕ) (v : Type3Value) → v.user ≡ bytes
    → IsOf bytes users (verdict_of users server first second third (Ok v))
unfolding IsOf
of_value bytes users server first second third v e =
    either (IsOf bytes users) (is_ascii_utf16 v.user) (verdict_on (user_named v.user users) server first second third v) (Err NotAscii)
    (λ _. of_user bytes users (user_named v.user users) server first second third v (ap (λ b. user_named b users) (sym e))) (λ _. tt)

of_given : (bytes : List ℕ) (users : List User) (server first second third : List ℕ) (o : Option NtlmError)
    → part_in third 36 ≡ bytes → IsOf bytes users (verdict_of users server first second third (given o (type3_value third)))
unfolding IsOf
of_given bytes users server first second third (Some e) is = tt
of_given bytes users server first second third None is = of_value bytes users server first second third (type3_value third) is

pub verdict_of_own : (bytes : List ℕ) (users : List User) (server first second third : List ℕ) → part_in third 36 ≡ bytes
    → IsOf bytes users (verdict users server first second third)
unfolding verdict
verdict_of_own bytes users server first second third is = of_given bytes users server first second third (type3_fault third) is
