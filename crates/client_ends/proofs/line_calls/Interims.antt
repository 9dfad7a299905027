-- What an interim response is on a line, and the line behind it.
use Rattle.std.proofs.Common.{◌≡◌, ℕ, Bool, true, false, if◌then◌else◌, List, Option, Some, None, Result, Ok, Err, refl, sym, ap, subst, ◌∙◌}
use Rattle.std.specs.Prelude.{◌&&◌}
use Rattle.spec_crypto.specs.sessions.Nonces.{NonceState}
use Rattle.spec_crypto.specs.sessions.Sealing.{opened}
use Rattle.spec_exchange.specs.Network.{Token, ForDialog, ForOp, ForAttach}
use Rattle.crypto_sessions.specs.session_keys.Sealing.{HasCipher}
use Rattle.spec_wire.specs.declared.messages.header.Header.{Header}
use Rattle.spec_world.specs.Dialog.{if_response, is_dialogs, line_response, line_text, response_in}
use Rattle.spec_world.specs.Ends.{ClientEnd}
use Rattle.spec_world.specs.Messages.{HeardMessage}
use Rattle.client_ends.specs.declared.ends.line.Line.{Line}
use Rattle.client_ends.specs.declared.ends.line.LineError.{LineError}
use Rattle.client_ends.specs.declared.ends.line.LineError.TheVariants.{Memory, NoCredit, Spent, BadReply}
use Rattle.client_ends.specs.declared.line_calls.incoming.Answer.{Answer}
use Rattle.client_ends.specs.ends.Shown.{EndKeeps, EndShowsTalk, ShowsLine, ShowsSeals, token_of}
use Rattle.client_ends.specs.line_calls.Hearing.{IsLineAnswer, IsLineOther, LineHears, Texts, Unheard}
use Rattle.client_ends.specs.line_calls.Interim.{GivesReply, LineGives, TakesInterim, credited, interim_in, interim_to, is_operations, is_pending}
use Rattle.client_ends.proofs.line_calls.Replies.{untold}
use Rattle.client_ends.proofs.line_calls.Texts.{sealed_text}

-- ---- which message is one

operation_waits : (t : Token) → is_dialogs (Some t) ≡ false → is_operations (Some t) ≡ true
operation_waits ForDialog e = absurd (let f : true ≡ false = e in cc)
operation_waits (ForOp g) e = refl
operation_waits (ForAttach g) e = refl

other_waits : (o : Option Token) → IsLineOther o → is_operations o ≡ false
other_waits None h = refl
other_waits (Some ForDialog) h = refl
other_waits (Some (ForOp g)) h = absurd h
other_waits (Some (ForAttach g)) h = absurd h

and_true : (b : Bool) → (b && true) ≡ b
and_true true = refl
and_true false = refl

and_false : (b : Bool) → (b && false) ≡ false
and_false true = refl
and_false false = refl

abbrev if_both : Header → Bool → Option Header
if_both h b = if is_pending h && b then Some h else None

pub answered_interim : (n : ClientEnd) (m : List ℕ) (h : Header) (token : ℕ) (r : Option Header) → IsLineAnswer n m h token
    → r ≡ (if is_pending h then Some h else None) → r ≡ interim_to n (if_response (response_in (Some m)))
answered_interim n m h token r a is =
    let waits : is_operations (n.awaited h.message) ≡ true = ap is_operations a.waits ∙ operation_waits (token_of token) a.operations in
    is ∙ sym (ap (interim_to n) a.heard
    ∙ (ap (if_both h) waits ∙ ap (λ (b : Bool). if b then Some h else None) (and_true (is_pending h))))

pub unheard_interim : (n : ClientEnd) (x : Option HeardMessage) → Unheard n x → None ≡ interim_to n x
unheard_interim n None h = refl
unheard_interim n (Some x) h =
    sym (ap (if_both x.header) (other_waits (n.awaited x.header.message) h)
    ∙ ap (λ (b : Bool). if b then Some x.header else None) (and_false (is_pending x.header)))

-- ---- the line behind it

pub credited_line : (old new : Line) (n : ClientEnd) (h : Header) → EndKeeps old new → ShowsSeals old n
    → EndShowsTalk new (credited n h) → ShowsLine new (credited n h)
credited_line old new n h k s talk = (
  talk,
  record {
    keys = s.keys ∙ sym k.keys;
    encrypts = s.encrypts ∙ sym k.encrypts;
    sealing = λ e. subst HasCipher (sym k.keys) (s.sealing (sym k.encrypts ∙ e));
    channel = s.channel ∙ ap (λ (x : NonceState). x.channel) (sym k.nonces);
    counter = s.counter ∙ ap (λ (x : NonceState). x.counter) (sym k.nonces);
  },
)

-- ---- what comes of a frame

pub gives_none : (n : ClientEnd) (x : Option Header) (due : Option HeardMessage) (new : Line) (b : Bool) → b ≡ true
    → TakesInterim n x new b → GivesReply n x due new (Ok None)
gives_none n (Some h) due new true e t = t
gives_none n (Some h) due new false e t = absurd t
gives_none n None due new true e t = absurd t
gives_none n None due new false e t = absurd cc

pub gives_answer : (n : ClientEnd) (x : Option Header) (due : Option HeardMessage) (mid new : Line) (b : Bool) (a : Answer) → b ≡ false
    → TakesInterim n x mid b → (ShowsLine mid n → LineHears n due new (Ok a)) → GivesReply n x due new (Ok (Some a))
gives_answer n (Some h) due mid new true a e t f = absurd cc
gives_answer n (Some h) due mid new false a e t f = absurd t
gives_answer n None due mid new true a e t f = absurd t
gives_answer n None due mid new false a e t f = f t

pub gives_error : (n : ClientEnd) (x : Option Header) (due : Option HeardMessage) (mid new : Line) (b : Bool) (why : LineError)
    → b ≡ false → TakesInterim n x mid b → (ShowsLine mid n → LineHears n due new (Err why)) → GivesReply n x due new (Err why)
gives_error n (Some h) due mid new true why e t f = absurd cc
gives_error n (Some h) due mid new false why e t f = absurd t
gives_error n None due mid new true why e t f = absurd t
gives_error n None due mid new false why e t f = f t

-- ---- what is in a frame

pub plain_in : (n : ClientEnd) (frame : List ℕ) → n.encrypts ≡ false
    → interim_in n frame ≡ interim_to n (if_response (response_in (Some frame)))
plain_in n frame e =
    ap (λ (b : Bool). interim_to n (if_response (response_in (if b then opened n.keys false frame else Some frame)))) e

sealed_in : (n : ClientEnd) (frame : List ℕ) → n.encrypts ≡ true
    → interim_in n frame ≡ interim_to n (if_response (response_in (line_text n frame)))
sealed_in n frame e =
    ap (λ (b : Bool). interim_to n (if_response (response_in (if b then opened n.keys false frame else Some frame)))) e
    ∙ sym (ap (λ (o : Option (List ℕ)). interim_to n (if_response (response_in o))) (sealed_text n frame e))

pub opened_gives : (n : ClientEnd) (frame text : List ℕ) (new : Line) (r : Result (Option Answer) LineError) → n.encrypts ≡ true
    → line_text n frame ≡ Some text
    → GivesReply n (interim_to n (if_response (response_in (Some text)))) (if_response (response_in (Some text))) new r
    → LineGives n frame new r
opened_gives n frame text new r e t h =
    subst (λ (x : Option Header). GivesReply n x (line_response n frame) new r) (sym (sealed_in n frame e))
    (subst (λ (o : Option (List ℕ)). GivesReply n (interim_to n (if_response (response_in o))) (if_response (response_in o)) new r) (sym t) h)

memory_gives : (n : ClientEnd) (x : Option Header) (due : Option HeardMessage) (l : Line) → ShowsLine l n
    → GivesReply n x due l (Err Memory)
memory_gives n (Some h) due l s = s
memory_gives n None due l s = s

pub unopened_gives : (n : ClientEnd) (frame : List ℕ) (l : Line) (why : LineError) → n.encrypts ≡ true → ShowsLine l n
    → Texts (line_text n frame) (Err why) → LineGives n frame l (Err why)
unopened_gives n frame l Memory e s t = memory_gives n (interim_in n frame) (line_response n frame) l s
unopened_gives n frame l BadReply e s t =
    let nothing : interim_in n frame ≡ None = sealed_in n frame e ∙ ap (λ (o : Option HeardMessage). interim_to n (if_response o)) t in
    subst (λ (x : Option Header). GivesReply n x (line_response n frame) l (Err BadReply)) (sym nothing)
    (untold n l (line_text n frame) BadReply s t)
unopened_gives n frame l (NoCredit held) e s t = absurd t
unopened_gives n frame l Spent e s t = absurd t
