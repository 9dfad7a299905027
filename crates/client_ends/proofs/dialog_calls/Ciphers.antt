-- A logon whose final response has no fault has keys of a cipher where its messages are sealed.
use Rattle.std.proofs.Common.{◌≡◌, ℕ, ◌≤◌, ◌==◌, nat_le, Bool, true, false, not, ◌&&◌, if◌then◌else◌, List, Option, Some, None, Ok}
use Rattle.std.proofs.Common.{refl, sym, ap, subst, ◌∙◌, arith}
use Rattle.std.proofs.lemmas.Bool.Decides.{nat_tests}
use Rattle.std.specs.Prelude.{is_some}
use Rattle.spec_exchange.specs.Client.{SaidSecond}
use Rattle.spec_exchange.specs.Commands.{has_bit}
use Rattle.spec_exchange.specs.Operations.{Refusal, BadChoice, BadSignature, BadToken, HadStatus}
use Rattle.spec_crypto.specs.sessions.Choice.{is_cipher}
use Rattle.spec_crypto.specs.sessions.Derivation.{known}
use Rattle.spec_crypto.specs.declared.sessions.material.Keys.{Keys}
use Rattle.crypto_sessions.specs.session_keys.Sealing.{HasCipher}
use Rattle.spec_wire.specs.declared.messages.header.Header.{Header}
use Rattle.spec_world.specs.Ends.{ClientEnd}
use Rattle.spec_world.specs.Messages.{HeardMessage, has_header, header_in}
use Rattle.spec_world.specs.Settings.{ClientSettings}
use Rattle.spec_world.specs.Dialog.{status_due, first_refusal, flags_fit, has_form, has_token, is_signed, own_final, response_in}
use Rattle.spec_world.specs.Dialog.{seals_told, setup_flags, unless}
use Rattle.client_ends.specs.declared.ends.dialog.Dialog.{Dialog}
use Rattle.client_ends.specs.ends.Shown.{ShowsTalking, settings_of}
use Rattle.client_ends.specs.declared.response_faults.setup.Ended.{Ended}
use Rattle.client_ends.specs.response_faults.Judging.{JudgesFinal, faults, response_judged}
use Rattle.client_ends.proofs.response_faults.Forms.{headed, heard_as}

-- ---- its flags were tested

last_one : (a b c d : Option Refusal) (fits : Bool) (why : Refusal)
    → first_refusal a (first_refusal b (first_refusal c (first_refusal d (unless fits why)))) ≡ None → fits ≡ true
last_one (Some w) b c d fits why e = absurd cc
last_one None (Some w) c d fits why e = absurd cc
last_one None None (Some w) d fits why e = absurd cc
last_one None None None (Some w) fits why e = absurd cc
last_one None None None None true why e = refl
last_one None None None None false why e = absurd cc

by_status : (b : Bool) (status : ℕ) (found : Option Refusal) → (if b then found else Some (HadStatus status)) ≡ None → found ≡ None
by_status true status found e = e
by_status false status found e = absurd cc

flags_tested : (c : ClientSettings) (n : ClientEnd) (b : Bool) (m : List ℕ) (h : Header) → has_header m ≡ true → header_in m ≡ h
    → response_judged c n (SaidSecond b) (response_in (Some m)) ≡ None → flags_fit n (SaidSecond b) m ≡ true
flags_tested c n b m h has is e =
    let none : response_judged c n (SaidSecond b) (Some (headed h m)) ≡ None =
    ap (λ (o : Option HeardMessage). response_judged c n (SaidSecond b) o) (sym (heard_as m h has is)) ∙ e in
    last_one (unless (has_form n (SaidSecond b) (headed h m)) BadToken) None (unless (has_token c n (SaidSecond b) m) BadToken)
    (unless (is_signed n (SaidSecond b) m) BadSignature) (flags_fit n (SaidSecond b) m) (BadChoice 5)
    (by_status (h.status == status_due (SaidSecond b)) h.status (faults c n (SaidSecond b) (headed h m)) none)

-- ---- the last of them

bits : (p q r z : Bool) → (not p && (not q && not (r && z))) ≡ true → r ≡ true → z ≡ false
bits true q r z e s = absurd cc
bits false true r z e s = absurd cc
bits false false true true e s = absurd cc
bits false false true false e s = refl
bits false false false z e s = absurd cc

has_one : (k : ℕ) → (k == 0) ≡ false → 1 ≤ k
has_one k e = grind (arith, nat_tests)

least_cipher : (n : ClientEnd) (b : Bool) (m : List ℕ) → flags_fit n (SaidSecond b) m ≡ true → seals_told m ≡ true
    → 1 ≤ (own_final n b 0).cipher
unfolding seals_told
least_cipher n b m f s =
    has_one (own_final n b 0).cipher
    (bits (has_bit (setup_flags m) 1) (has_bit (setup_flags m) 2) (has_bit (setup_flags m) 4) ((own_final n b 0).cipher == 0) f s)

-- ---- none is above 4

right : (p q : Bool) → (p && q) ≡ true → q ≡ true
right true q e = e
right false q e = absurd cc

at_most : (c : ℕ) → nat_le c 4 ≡ true → c ≤ 4
at_most c e = grind (arith, nat_tests)

by_known : (b : Bool) (c : ℕ) → is_cipher c ≡ b → (if b then c else 0) ≤ 4
by_known true c e = at_most c (right (nat_le 1 c) (nat_le c 4) e)
by_known false c e = omega arith

known_most : (c : ℕ) → known c ≤ 4
known_most c = by_known (is_cipher c) c refl

final_most : (d : Dialog) (n : ClientEnd) (b : Bool) → (b ≡ true → n.keys ≡ d.line.keys) → d.line.keys.cipher ≤ 4
    → (own_final n b 0).cipher ≤ 4
final_most d n true same most = subst (λ (k : Keys). k.cipher ≤ 4) (sym (same refl)) most
final_most d n false same most = known_most n.chosen.cipher

same_cipher : (n : ClientEnd) (b : Bool) (session : ℕ) → (own_final n b session).cipher ≡ (own_final n b 0).cipher
same_cipher n true session = refl
same_cipher n false session = refl

pub final_cipher : (d : Dialog) (n : ClientEnd) (m : List ℕ) (e : Ended) → ShowsTalking d n
    → JudgesFinal d.config n (is_some d.bound) d.session m (Ok e) → e.encrypts ≡ true → HasCipher e.keys
final_cipher d n m e t j on =
    let flags = flags_tested (settings_of d.config) n (is_some d.bound) m e.header j.1.0 j.1.1 j.0 in
    let same : (own_final n (is_some d.bound) 0).cipher ≡ e.keys.cipher =
    sym (same_cipher n (is_some d.bound) d.session) ∙ ap (λ (k : Keys). k.cipher) j.2 in
    record {
      least = subst (λ (k : ℕ). 1 ≤ k) same (least_cipher n (is_some d.bound) m flags (j.3 ∙ on));
      most = subst (λ (k : ℕ). k ≤ 4) same (final_most d n (is_some d.bound) t.keys t.known);
    }
