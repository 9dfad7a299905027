-- A dialog's two ends behind a response and the next request.
use Rattle.std.proofs.Common.{◌≡◌, ℕ, ◌+◌, ◌≤◌, nat_le, Bool, true, false, ◌&&◌, List, [], ◌∷◌, ◌++◌}
use Rattle.std.proofs.Common.{length, length-append, refl, sym, ap, ◌∙◌, subst, arith, Option, Some}
use Rattle.spec_exchange.specs.Operations.{Op}
use Rattle.spec_exchange.specs.Commands.{Begins}
use Rattle.spec_exchange.specs.State.{Message}
use Rattle.spec_exchange.specs.Client.{Stage, Apart, SaidNegotiate, SaidFirst, SaidSecond, AskedTree}
use Rattle.spec_exchange.specs.Network.{Sent, Received, ForDialog}
use Rattle.spec_wire.specs.credits.Ids.{counted}
use Rattle.spec_wire.specs.credits.Purse.{after_spend, after_add}
use Rattle.spec_wire.specs.credits.Exchange.{Line, sends, hears, after_step, sent_if}
use Rattle.spec_wire.specs.credits.Exchange.{heard as heard_grants}
use Rattle.spec_crypto.specs.tokens.Tokens.{Begun, Pending, Begins as TokenBegins, first_token, begun_by, shown, shown_if, shown_by}
use Rattle.spec_crypto.specs.tokens.Tokens.{Users}
use Rattle.spec_world.specs.Settings.{WorldSettings}
use Rattle.spec_world.specs.Messages.{HeardMessage}
use Rattle.spec_world.specs.Ends.{ClientEnd, ServerEnd, Logons}
use Rattle.spec_world.specs.Logon.{token_shows, shows_of}
use Rattle.spec_world.specs.Dialog.{noted_heard}
use Rattle.spec_world.specs.World.{noted_sent}
use Rattle.spec_world.specs.Sending.{spent}
use Rattle.law_ties.specs.wire_facts.Lawful.{IsLawful}
use Rattle.law_ties.specs.events.Links.{Shared, AllAsked, Asked, LinkReached, Linked, is_lined, dialog_purse, dialog_grant, Waiting}
use Rattle.law_ties.specs.events.Links.{Coming, Waits}
use Rattle.law_ties.specs.events.Links.{Tied}
use Rattle.law_ties.proofs.events.Took.{reach_more}
use Rattle.law_ties.specs.channel_numbers.Counted.{binds}
use Rattle.law_dialogs.specs.dialog_responses.Talking.{goes_on}

-- ---- the client's end behind both

abbrev pub next_end : ClientEnd → Stage → HeardMessage → Stage → List ℕ → ClientEnd
next_end n stage x next frame = noted_sent (spent (noted_heard n stage x) 1 ForDialog) next frame

abbrev pub next_stage : Stage → Stage
next_stage (SaidNegotiate bound) = SaidFirst bound
next_stage (SaidFirst bound) = SaidSecond bound
next_stage stage = stage

-- ---- credits

-- what the response brings pays for the request
pub paid_purse : (stage : Stage) → goes_on stage ≡ true
    → after_spend 1 (after_add (dialog_grant stage) (dialog_purse stage)) ≡ dialog_purse (next_stage stage)
paid_purse (SaidNegotiate bound) e = refl
paid_purse (SaidFirst bound) e = refl
paid_purse (SaidSecond bound) e = absurd (let h : false ≡ true = e in cc)
paid_purse Apart e = absurd (let h : false ≡ true = e in cc)
paid_purse AskedTree e = absurd (let h : false ≡ true = e in cc)

pays_once : (stage : Stage) → goes_on stage ≡ true → nat_le (counted 1) (after_add (dialog_grant stage) (dialog_purse stage)).held ≡ true
pays_once (SaidNegotiate bound) e = refl
pays_once (SaidFirst bound) e = refl
pays_once (SaidSecond bound) e = absurd (let h : false ≡ true = e in cc)
pays_once Apart e = absurd (let h : false ≡ true = e in cc)
pays_once AskedTree e = absurd (let h : false ≡ true = e in cc)

abbrev pub line_on : Line → ℕ → Line
line_on l g = record l {
  purse = after_spend 1 (after_add g l.purse);
  requests = l.requests ++ ((after_add g l.purse).next, 1) ∷ [];
  grants = [];
}

sent_on : (l : Line) → nat_le (counted 1) l.purse.held ≡ true
    → after_step (sends 1) l ≡ record l { purse = after_spend 1 l.purse; requests = l.requests ++ (l.purse.next, 1) ∷ [] }
sent_on l e = ap (λ b. sent_if b 1 l) e

reached_on : (l : Line) (g : ℕ) → LinkReached l → l.grants ≡ g ∷ [] → nat_le (counted 1) (after_add g l.purse).held ≡ true
    → LinkReached (line_on l g)
reached_on l g r e paid =
    let heard : Line = record l { purse = after_add g l.purse; grants = [] } in
    let one : after_step hears l ≡ heard = ap (λ v. heard_grants v l) e in
    subst LinkReached (sent_on heard paid) (reach_more heard (sends 1) (subst LinkReached one (reach_more l hears r)))

-- ---- the link

none_left : (z : WorldSettings) (L : Logons) (k : ℕ) (f : ServerEnd) (qs : List (ℕ × ℕ)) → AllAsked z L k f [] [] qs → qs ≡ []
none_left z L k f [] all = refl
none_left z L k f (q ∷ qs) all = absurd all

none_of : {X : Type 0} (co : Bool) → co ≡ false → co ≡ true → X
none_of co off on = absurd (let h : false ≡ true = sym off ∙ on in cc)

more_counted : (c r n : ℕ) → c + r ≤ n → c + (r + 1) ≤ n + counted 1
more_counted c r n e = omega (arith, e)

pub linked_on : (z : WorldSettings) (op : ℕ → Op) (s t : Shared) (k : ℕ) (was co so : Bool) (n m : ClientEnd) (f : ServerEnd)
    (frame : List ℕ)
    (down : List (List ℕ)) (ys : List Received) (x : Sent) (g : ℕ) (i : Linked z op s k was so n f [] down [] ys) → co ≡ false
    → t.logons ≡ s.logons → i.line.grants ≡ g ∷ [] → nat_le (counted 1) (after_add g i.line.purse).held ≡ true
    → m.purse ≡ after_spend 1 (after_add g n.purse)
    → (so ≡ true → Asked z s.logons k f frame x ((after_add g i.line.purse).next, 1))
    → Linked z op t k co so m f (frame ∷ []) [] (x ∷ []) []
linked_on z op s t k was co so n m f frame down ys x g i off same e paid purse asked =
    let l = i.line in
    let q : ℕ × ℕ = ((after_add g l.purse).next, 1) in
    let none : so ≡ true → l.requests ≡ [] = λ o. none_left z s.logons k f l.requests (i.asked o) in record {
      line = line_on l g;
      reached = reached_on l g i.reached e paid;
      purse = purse ∙ ap (λ p. after_spend 1 (after_add g p)) i.purse;
      window = i.window;
      counted = λ o. subst (λ r. f.counter + r ≤ l.purse.next + counted 1) (sym (length-append l.requests (q ∷ [])))
          (more_counted f.counter (length l.requests) l.purse.next (i.counted o));
      asked = λ o. subst (λ L. AllAsked z L k f (frame ∷ []) (x ∷ []) (l.requests ++ q ∷ [])) (sym same)
          (subst (λ rs. AllAsked z s.logons k f (frame ∷ []) (x ∷ []) (rs ++ q ∷ [])) (sym (none o)) (asked o, tt));
      awaited = λ c o. none_of co off c;
      answers = λ c. none_of co off c;
      session_fits = λ c. none_of co off c;
      sealable = λ c. none_of co off c;
      keys = λ c o. none_of co off c;
      encrypts = λ c o. none_of co off c;
      greeted = λ c o. none_of co off c;
    }

-- ---- a first token begins

first_by : (users : Users) (pending : Option Pending) (o : Option Begun) (b : Begun) (token : List ℕ) → o ≡ Some b
    → shown_if o (shown_by users pending token) ≡ TokenBegins
first_by users pending o b token e = ap (λ q. shown_if q (shown_by users pending token)) e

pub first_shows : (z : WorldSettings) → IsLawful z → (users : Users) (pending : Option Pending)
    → token_shows users pending first_token ≡ Begins
unfolding shown
first_shows z law users pending =
    let tokens = law.tokens in
    let first = tokens.first in
    ap shows_of (first_by users pending (begun_by users.bare first_token) first.0 first_token (first.1 users.bare))

-- ---- both ends

pub going_tie : (z : WorldSettings) (op : ℕ → Op) (s t : Shared) (k : ℕ) (so : Bool) (n : ClientEnd) (f : ServerEnd) (a : List ℕ)
    (y : Received) (stage next : Stage) (frame : List ℕ) (m : Message) (T : Tied z op s k true so n f [] (a ∷ []) [] (y ∷ []))
    (C : Coming z s k so n f a y T.link.line.grants stage) → goes_on stage ≡ true → next ≡ next_stage stage → t.logons ≡ s.logons
    → n.purse ≡ dialog_purse stage → is_lined next ≡ false → (binds next ≡ true → n.keys ≡ t.keys)
    → m.message_id ≡ (noted_heard n stage C.heard).purse.next
    → (so ≡ true → Asked z s.logons k f frame (record { token = ForDialog; message = m }) (m.message_id, 1))
    → (so ≡ true → Waiting z t k (next_end n stage C.heard next frame) f frame (record { token = ForDialog; message = m }) [] next)
    → Tied z op t k true so (next_end n stage C.heard next frame) f (frame ∷ []) [] (record { token = ForDialog; message = m } ∷ []) []
unfolding linked_on
going_tie z op s t k so n f a y stage next frame m T C goes is same purse off keys id asked waits =
    let i = T.link in
    let l = i.line in
    let g = dialog_grant stage in
    let x : Sent = record { token = ForDialog; message = m } in
    let line_purse : l.purse ≡ dialog_purse stage = sym i.purse ∙ purse in
    let paid : nat_le (counted 1) (after_add g l.purse).held ≡ true =
    ap (λ p. nat_le (counted 1) (after_add g p).held) line_purse ∙ pays_once stage goes in
    let at : m.message_id ≡ (after_add g l.purse).next =
    id ∙ (ap (λ c. (after_add c n.purse).next) C.credits ∙ ap (λ p. (after_add g p).next) i.purse) in
    let all = linked_on z op s t k (true && is_lined n.stage) (is_lined next) so n
    (next_end n stage C.heard next frame) f frame (a ∷ []) (y ∷ []) x g
    i off same C.grants_it paid (ap (λ c. after_spend 1 (after_add c n.purse)) C.credits)
    (λ o. subst (λ q. Asked z s.logons k f frame x (q, 1)) at (asked o)) in record {
      link = all;
      bound_keys = λ c e. keys e;
      talk = λ c e. Waits frame x refl refl refl refl waits;
      purse = λ c e. ap (λ c. after_spend 1 (after_add c n.purse)) C.credits
          ∙ (ap (λ p. after_spend 1 (after_add g p)) purse ∙ (paid_purse stage goes ∙ ap dialog_purse (sym is)));
      logon = T.logon;
      salted = T.salted;
    }
