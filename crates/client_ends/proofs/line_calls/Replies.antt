-- The request that a reply answers, and the line behind it.
use Rattle.std.proofs.Common.{◌≡◌, ℕ, ◌==◌, ◌/◌, ◌%◌, Bool, true, false, if◌then◌else◌, List, Option, Some, None, Err}
use Rattle.std.proofs.Common.{MatchOption, refl, sym, ap, subst, ◌∙◌, arith}
use Rattle.std.proofs.lemmas.Bool.Decides.{nat_tests}
use Rattle.spec_exchange.specs.Network.{Token, ForDialog, ForOp, ForAttach}
use Rattle.spec_crypto.specs.sessions.Nonces.{NonceState}
use Rattle.crypto_sessions.specs.session_keys.Sealing.{HasCipher}
use Rattle.spec_wire.specs.declared.messages.header.Header.{Header}
use Rattle.spec_world.specs.Ends.{ClientEnd}
use Rattle.spec_world.specs.Messages.{HeardMessage, has_header, header_in, heard_in}
use Rattle.spec_world.specs.Dialog.{if_response, is_dialogs, is_response, paid_in, response_in}
use Rattle.client_ends.specs.declared.ends.line.Line.{Line}
use Rattle.client_ends.specs.declared.ends.line.LineError.{LineError}
use Rattle.client_ends.specs.declared.ends.line.LineError.TheVariants.{Memory, NoCredit, Spent, BadReply}
use Rattle.client_ends.specs.ends.Shown.{EndKeeps, ShowsLine, ShowsSeals, token_of}
use Rattle.client_ends.specs.line_calls.Hearing.{LineHears, IsLineAnswer, IsLineOther, Texts, LineUnanswered, Unheard, Waits}
use Rattle.client_ends.specs.declared.line_calls.incoming.Found.{Found}

-- ---- tokens

same_number : (n k : ℕ) → n ≡ k → (n == k) ≡ true
same_number n k e = grind arith

other_number : (n k : ℕ) → (n ≡ k → ⊥) → (n == k) ≡ false
other_number n k h = grind (arith, nat_tests)

by_zero : (b e : Bool) (g k : ℕ) → is_dialogs (Some (if b then ForDialog else if e then ForOp g else ForAttach k)) ≡ b
by_zero true e g k = refl
by_zero false true g k = refl
by_zero false false g k = refl

pub zero_token : (t : ℕ) → t ≡ 0 → is_dialogs (Some (token_of t)) ≡ true
zero_token t z = by_zero (t == 0) (t % 2 == 0) (t / 2) (t / 2) ∙ same_number t 0 z

pub other_token : (t : ℕ) → (t ≡ 0 → ⊥) → is_dialogs (Some (token_of t)) ≡ false
other_token t z = by_zero (t == 0) (t % 2 == 0) (t / 2) (t / 2) ∙ other_number t 0 z

is_dialog : (t : Token) → is_dialogs (Some t) ≡ true → IsLineOther (Some t)
is_dialog ForDialog e = tt
is_dialog (ForOp g) e = absurd (let f : false ≡ true = e in cc)
is_dialog (ForAttach g) e = absurd (let f : false ≡ true = e in cc)

-- of a request that waits
pub waits_as : (n : ClientEnd) (header : Header) (token : ℕ) (r : Option Found) → n.awaited header.message ≡ Some (token_of token)
    → MatchOption r (is_dialogs (Some (token_of token)) ≡ true)
    (λ a. (a.header ≡ header) × (a.token ≡ token) × (is_dialogs (Some (token_of token)) ≡ false))
    → MatchOption r (IsLineOther (n.awaited header.message)) (λ a. Waits n header a.header a.token)
waits_as n header token None w h = subst IsLineOther (sym w) (is_dialog (token_of token) h)
waits_as n header token (Some a) w h = (
  h.0,
  w ∙ ap (λ (t : ℕ). Some (token_of t)) (sym h.1),
  ap (λ (t : ℕ). is_dialogs (Some (token_of t))) h.1 ∙ h.2,
)

pub waits_none : (n : ClientEnd) (header : Header) → n.awaited header.message ≡ None → IsLineOther (n.awaited header.message)
waits_none n header w = subst IsLineOther (sym w) tt

-- ---- a response

pub no_response : (b : Bool) (o : Option Token) → b ≡ false → LineUnanswered b o
no_response true o e = absurd cc
no_response false o e = tt

pub responds : (b : Bool) (n : ClientEnd) (header : Header) (r : Option Found) → b ≡ true
    → MatchOption r (IsLineOther (n.awaited header.message)) (λ a. Waits n header a.header a.token)
    → MatchOption r (LineUnanswered b (n.awaited header.message)) (λ a. (b ≡ true) × Waits n header a.header a.token)
responds true n header None e h = h
responds true n header (Some a) e h = (refl, h)
responds false n header r e h = absurd cc

-- ---- a message

abbrev headed : Header → List ℕ → HeardMessage
headed h m = record { header = h; bytes = m }

heard_as : (m : List ℕ) (h : Header) → has_header m ≡ true → header_in m ≡ h
    → if_response (response_in (Some m)) ≡ (if is_response h then Some (headed h m) else None)
heard_as m h has is =
    ap (λ (b : Bool). if_response (if b then Some (heard_in m) else None)) has
    ∙ ap (λ (k : Header). if_response (Some (headed k m))) is

unheard_by : (b : Bool) (n : ClientEnd) (x : HeardMessage) → LineUnanswered b (n.awaited x.header.message)
    → Unheard n (if b then Some x else None)
unheard_by true n x h = h
unheard_by false n x h = tt

pub message_answers : (n : ClientEnd) (m : List ℕ) (h : Header) (r : Option Found) → has_header m ≡ true → header_in m ≡ h
    → MatchOption r (LineUnanswered (is_response h) (n.awaited h.message)) (λ a. (is_response h ≡ true) × Waits n h a.header a.token)
    → MatchOption r (Unheard n (if_response (response_in (Some m)))) (λ a. IsLineAnswer n m a.header a.token)
message_answers n m h None has is u =
    subst (λ (o : Option HeardMessage). Unheard n o) (sym (heard_as m h has is)) (unheard_by (is_response h) n (headed h m) u)
message_answers n m h (Some a) has is u = record {
  heard =
      heard_as m h has is
      ∙ (ap (λ (b : Bool). if b then Some (headed h m) else None) u.0 ∙ ap (λ (k : Header). Some (headed k m)) (sym u.1.0));
  waits = ap (λ (k : Header). n.awaited k.message) u.1.0 ∙ u.1.1;
  operations = u.1.2;
}

pub headless : (n : ClientEnd) (m : List ℕ) → has_header m ≡ false → Unheard n (if_response (response_in (Some m)))
headless n m has =
    subst (λ (o : Option HeardMessage). Unheard n (if_response o)) (sym (ap (λ (b : Bool). if b then Some (heard_in m) else None) has)) tt

-- ---- the line behind it

pub seals_kept : (old new : Line) (n : ClientEnd) (h : Header) → EndKeeps old new → ShowsSeals old n → ShowsSeals new (paid_in n h)
seals_kept old new n h k s = record {
  keys = s.keys ∙ sym k.keys;
  encrypts = s.encrypts ∙ sym k.encrypts;
  sealing = λ e. subst HasCipher (sym k.keys) (s.sealing (sym k.encrypts ∙ e));
  channel = s.channel ∙ ap (λ (x : NonceState). x.channel) (sym k.nonces);
  counter = s.counter ∙ ap (λ (x : NonceState). x.counter) (sym k.nonces);
}

-- no text, and nothing is heard
pub untold : (n : ClientEnd) (l : Line) (text : Option (List ℕ)) (why : LineError) → ShowsLine l n → Texts text (Err why)
    → LineHears n (if_response (response_in text)) l (Err why)
untold n l text Memory s t = s
untold n l text BadReply s t = (subst (λ (o : Option HeardMessage). Unheard n (if_response o)) (sym t) tt, s)
untold n l text (NoCredit held) s t = absurd t
untold n l text Spent s t = absurd t
