-- Each NoSlot and each NoOpen has its cause, and no outcome is unknown by a success: on every run.
use Rattle.std.proofs.lemmas.List.{append_assoc}
use Rattle.std.proofs.lemmas.Bool.Decides.{nat_tests}
use Rattle.std.proofs.Common.{◌≡◌, ◌≢◌, ℕ, ◌+◌, ◌≤◌, ◌<◌, ◌==◌, nat_lt, nat_le, Bool, true, false, not, ◌&&◌, ◌||◌}
use Rattle.std.proofs.Common.{if◌then◌else◌, List, [], ◌∷◌, ◌++◌, ◌⊎◌, inl, inr, refl, arith, sym, subst, ◌∙◌, ap}
use Rattle.std.proofs.Common.{eqb-true, Option, Some, None, is_some}
use Rattle.spec_exchange.specs.Table.{put, put2}
use Rattle.spec_exchange.specs.Status.{success, user_session_deleted}
use Rattle.spec_exchange.specs.State.{Reply}
use Rattle.spec_exchange.specs.Operations.{Op, OpReply, Outcome, Unsettled, WasOk, WasRefused, NoSlot, NoOpen, Unknown}
use Rattle.spec_exchange.specs.Operations.{Why, WithStatus, SessionLost, is_create, is_lock, is_unsettled, persists}
use Rattle.spec_exchange.specs.Operations.{keeps_limits, create_of, value_in}
use Rattle.spec_exchange.specs.Client.{Client, create_for, is_taken, may_take, take_op, is_gone, is_gone_after}
use Rattle.spec_exchange.specs.Client.{outcome_at_first, begun, begin, again, take_slot, outstanding, lacks_slot}
use Rattle.spec_exchange.specs.Client.{settle_no_slot, settle_no_slots, end_session, outcome_after_end, plain_after_end}
use Rattle.spec_exchange.specs.Client.{unsent_after_end, finish, outcome_after_finish}
use Rattle.spec_exchange.specs.Settling.{Heard as Hearing, Settles, GoesAgain, Attaches, heard, settle, settled, noted}
use Rattle.spec_exchange.specs.Settling.{noted_full, settles_open, with_no_opens, without_open, ok_or_unknown, refused}
use Rattle.spec_exchange.specs.Settling.{was_closed, may_have_acted, refuses_all, goes_again, answered}
use Rattle.spec_exchange.specs.Network.{World, Event, Push, Take, Cut, ForOp, ForAttach, Settings, run, start, happens}
use Rattle.law_sessions.specs.messages.Connections.{Connections, makes_open, its_create}
use Rattle.law_sessions.proofs.messages.Lists.{front_down}
use Rattle.law_sessions.proofs.messages.Reached.{run_more}
use Rattle.law_sessions.proofs.messages.Run.{connections}
use Rattle.law_sessions.proofs.messages.Stays.{Beyond, beyond, settled_stays}
use Rattle.law_server.proofs.tables.Logic.{either, front_of, back_of}
use Rattle.law_answers.proofs.completeness.Client.{Took, Finishing, Pushing, Slotless, Small, Takes, client_keeps}
use Rattle.law_answers.proofs.completeness.Events.{put_off, put_at}
use Rattle.law_outcomes.specs.outcomes.Outcomes.{LacksSlot, LacksOpen, CausesTold, NeverUnread}
use Rattle.law_outcomes.proofs.outcomes.Waiting.{every, reading}
use Rattle.law_outcomes.proofs.outcomes.Answers.{noted_alike, full_alike, same_settled}

-- ---- what is known of outcomes along one event

-- behind this event, which is no push, the operation has no open
record GoneNow (e : Event) (d : Client) (g create : ℕ) : Type 0 where
  quiet : (k : ℕ) → Pushing e k → ⊥
  named : create ≡ create_for d g
  unsent : d.sent g ≡ false
  gone : is_gone d create ≡ true

record Caused (z : Settings) (es : List Event) (e : Event) (d : Client) : Type 0 where
  slot : (g create : ℕ) → d.outcome g ≡ NoSlot create → LacksSlot z (es ++ e ∷ []) g create
  opening : (g create : ℕ) → d.outcome g ≡ NoOpen create → ((run es (start z)).client.outcome g ≡ NoOpen create) ⊎ GoneNow e d g create
  read : (g : ℕ) → d.outcome g ≡ Unknown (WithStatus success) → ⊥

-- as it was before the event
record Old (z : Settings) (es : List Event) (c : Client) : Type 0 where
  slot : (g create : ℕ) → c.outcome g ≡ NoSlot create → LacksSlot z es g create
  opening : (g create : ℕ) → c.outcome g ≡ NoOpen create → LacksOpen z es g create
  read : (g : ℕ) → c.outcome g ≡ Unknown (WithStatus success) → ⊥

later_slot : (z : Settings) (es : List Event) (e : Event) (g create : ℕ) → LacksSlot z es g create → LacksSlot z (es ++ e ∷ []) g create
later_slot z es e g create h =
    record {
      before = h.before;
      after = h.after ++ e ∷ [];
      channel = h.channel;
      front = h.front;
      rest = h.rest;
      pick = h.pick;
      is = ap (λ xs. xs ++ e ∷ []) h.is ∙ append_assoc h.before (Push h.channel (h.front ++ g ∷ h.rest) h.pick ∷ h.after) (e ∷ []);
      named = h.named;
      lacks = h.lacks;
    }

later_open : (z : Settings) (es : List Event) (e : Event) (g create : ℕ) → LacksOpen z es g create → LacksOpen z (es ++ e ∷ []) g create
later_open z es e g create h =
    record {
      before = h.before;
      after = h.after ++ e ∷ [];
      event = h.event;
      is = ap (λ xs. xs ++ e ∷ []) h.is ∙ append_assoc h.before (h.event ∷ h.after) (e ∷ []);
      unsettled = h.unsettled;
      came = h.came;
      named = h.named;
      unsent = h.unsent;
      gone = h.gone;
    }

-- the outcomes are the old ones
from_old : (z : Settings) (es : List Event) (e : Event) (d : Client) → d.outcome ≡ (run es (start z)).client.outcome
    → Old z es (run es (start z)).client → Caused z es e d
from_old z es e d o h =
    let at : (g : ℕ) → d.outcome g ≡ (run es (start z)).client.outcome g = λ g. ap (λ u. u g) o in
    record {
      slot = λ g create q. later_slot z es e g create (h.slot g create (sym (at g) ∙ q));
      opening = λ g create q. inl (sym (at g) ∙ q);
      read = λ g q. h.read g (sym (at g) ∙ q);
    }

-- a push leaves the outcomes
from_push : (z : Settings) (es : List Event) (e : Event) (c d : Client) (k : ℕ) → d.outcome ≡ c.outcome → Pushing e k
    → Caused z es e c → Caused z es e d
from_push z es e c d k o p h =
    let at : (g : ℕ) → d.outcome g ≡ c.outcome g = λ g. ap (λ u. u g) o in
    record {
      slot = λ g create q. h.slot g create (sym (at g) ∙ q);
      opening = λ g create q. only g create (h.opening g create (sym (at g) ∙ q));
      read = λ g q. h.read g (sym (at g) ∙ q);
    }
  where
    only : (g create : ℕ) → ((run es (start z)).client.outcome g ≡ NoOpen create) ⊎ GoneNow e c g create
        → ((run es (start z)).client.outcome g ≡ NoOpen create) ⊎ GoneNow e d g create
    only g create (inl y) = inl y
    only g create (inr y) = absurd (y.quiet k p)

-- ---- a push

begun_same : (c : Client) (k g i : ℕ) → (outstanding (begun c g i) k g).outcome ≡ c.outcome
begun_same c k g i =
    let P : Client → Type 0 = λ d. (outstanding d k g).outcome ≡ c.outcome in
    either P (c.sent g) (again c g) (begin c g i)
    (λ _. either P (is_lock (c.op g)) (record c {
      retried = put2 c.retried (create_for c g) (c.slot_of g) c.session_number;
    }) c (λ _. refl) (λ _. refl))
    (λ _. either P (is_lock (c.op g)) (record (take_slot c g i) { sent = put c.sent g true }) (record c {
      sent = put c.sent g true;
    }) (λ _. refl) (λ _. refl))

slotless_op : (c : Client) (k : ℕ) (gs : List ℕ) → (settle_no_slots c k gs).op ≡ c.op
unfolding settle_no_slots
slotless_op c k [] = refl
slotless_op c k (g ∷ gs) =
    slotless_op (settle_no_slot c k g) k gs ∙ either (λ (d : Client). d.op ≡ c.op) (lacks_slot c k g) (record c {
      outcome = put c.outcome g (NoSlot (create_for c g));
    }) c (λ _. refl) (λ _. refl)

same_slot : (n m : ℕ) → NoSlot n ≡ NoSlot m → n ≡ m
same_slot n m e = cc

slotless_caused : (z : Settings) (es : List Event) (e : Event) (c : Client) (k g : ℕ) → lacks_slot c k g ≡ true
    → Slotless (run es (start z)) e c k g → Caused z es e c → Caused z es e (record c {
      outcome = put c.outcome g (NoSlot (create_for c g));
    })
slotless_caused z es e c k g l s h =
    let w = run es (start z) in
    record {
      slot = λ x create q.
          elim (x == g) as (λ b. x == g ≡ b → (if b then NoSlot (create_for c g) else c.outcome x) ≡ NoSlot create
          → LacksSlot z (es ++ e ∷ []) x create) [
            | true ↦ λ t y. let xg : x ≡ g = eqb-true x g t in subst (λ p. LacksSlot z (es ++ e ∷ []) p create) (sym xg)
                (record {
                  before = es;
                  after = [];
                  channel = k;
                  front = s.front;
                  rest = s.rest;
                  pick = s.pick;
                  is = ap (λ v. es ++ v ∷ []) s.pushes;
                  named = sym (same_slot _ _ y) ∙ ap (λ o. create_of g (o g)) (ap (λ (d : Client). d.op) s.is
                      ∙ slotless_op w.client k s.front);
                  lacks = subst (λ d. lacks_slot d k g ≡ true) s.is l;
                })
            | false ↦ λ t y. h.slot x create y
          ] refl q;
      opening = λ x create q. old x create (either (λ o. o ≡ NoOpen create → c.outcome x ≡ NoOpen create) (x == g)
          (NoSlot (create_for c g)) (c.outcome x) (λ _ y. absurd (cc)) (λ _ y. y) q);
      read = λ x q. h.read x (either (λ o. o ≡ Unknown (WithStatus success) → c.outcome x
          ≡ Unknown (WithStatus success)) (x == g) (NoSlot (create_for c g)) (c.outcome x) (λ _ y. absurd (cc))
          (λ _ y. y) q);
    }
  where
    old : (x create : ℕ) → c.outcome x ≡ NoOpen create → ((run es (start z)).client.outcome x ≡ NoOpen create)
        ⊎ GoneNow e (record c { outcome = put c.outcome g (NoSlot (create_for c g)) }) x create
    old x create q = only (h.opening x create q)
      where
        only : ((run es (start z)).client.outcome x ≡ NoOpen create) ⊎ GoneNow e c x create
            → ((run es (start z)).client.outcome x ≡ NoOpen create)
            ⊎ GoneNow e (record c { outcome = put c.outcome g (NoSlot (create_for c g)) }) x create
        only (inl y) = inl y
        only (inr y) = absurd (y.quiet k (record { slotless = s.front ++ g ∷ s.rest; pick = s.pick; is = s.pushes }))

-- ---- a reply settles

-- Ok, Refused, or unknown by another status than success
abbrev is_answer : Outcome → Bool
is_answer (WasOk reply) = true
is_answer (WasRefused status) = true
is_answer (Unknown (WithStatus status)) = not (status == success)
is_answer _ = false

refused_answer : (op : Op) (asking unanswered : Bool) (status : ℕ) (o : Outcome) → (status == success) ≡ false
    → refused op asking unanswered status ≡ Settles o → is_answer o ≡ true
refused_answer op asking unanswered status o bad =
    let P : Hearing → Type 0 = λ h. h ≡ Settles o → is_answer o ≡ true in
    let unknown : Settles (Unknown (WithStatus status)) ≡ Settles o → is_answer o ≡ true = λ e.
    subst (λ x. is_answer x ≡ true) (same_settled _ o e) (ap not bad) in
    let firm : Settles (WasRefused status) ≡ Settles o → is_answer o ≡ true = λ e. subst (λ x. is_answer x ≡ true)
    (same_settled _ o e) refl in
    either P (not unanswered) _ _ (λ _. firm)
    (λ _. either P (was_closed op asking status) _ _ (λ _ e. subst (λ x. is_answer x ≡ true) (same_settled _ o e) refl)
    (λ _. either P (may_have_acted op asking status) _ _ (λ _. unknown) (λ _. either P (refuses_all op status) _ _
    (λ _. firm) (λ _. unknown))))

read_answer : (o : Outcome) (u : Option OpReply) → is_some u ≡ true → ok_or_unknown u ≡ Settles o → is_answer o ≡ true
read_answer o (Some reply) s e = subst (λ x. is_answer x ≡ true) (same_settled (WasOk reply) o e) refl
read_answer o None s e = absurd (cc)

heard_answer : (c : Client) (g : ℕ) (asking : Bool) (r : Reply) (o : Outcome)
    → (asking ≡ false → r.status ≡ success → is_some (value_in (c.op g) r.body) ≡ true) → heard c g asking r ≡ Settles o
    → is_answer o ≡ true
heard_answer c g asking r o reads =
    let P : Hearing → Type 0 = λ h. h ≡ Settles o → is_answer o ≡ true in
    either P (r.status == user_session_deleted) _ _ (λ _ e. absurd (cc))
    (λ _. either P (r.status == success) (if asking then Attaches else ok_or_unknown (value_in (c.op g) r.body)) _
    (λ s. either P asking Attaches _ (λ _ e. absurd (cc)) (λ own e. read_answer o (value_in (c.op g) r.body)
    (reads own (eqb-true r.status success s)) e))
    (λ s. either P (goes_again c g asking r.status) GoesAgain _ (λ _ e. absurd (cc))
    (λ _ e. refused_answer (c.op g) asking (c.unanswered g) r.status o s e)))

answer_not : (o x : Outcome) (P : Type 0) → is_answer o ≡ true → is_answer x ≡ false → o ≡ x → P
answer_not o x P e f q = absurd (let y = subst (λ u. is_answer u ≡ true) q e in grind arith)

-- what without_open leaves
data Opening (names sent gone : Bool) (create : ℕ) (o outcome : Outcome) : Type 0 where
  Same : outcome ≡ o → Opening names sent gone create o outcome
  Gives : outcome ≡ NoOpen create → names ≡ true → sent ≡ false → gone ≡ true → Opening names sent gone create o outcome

opening_of : (names sent gone : Bool) (create : ℕ) (o : Outcome) → Opening names sent gone create o (without_open names sent gone create o)
opening_of true false true create Unsettled = Gives refl refl refl refl
opening_of true false false create Unsettled = Same refl
opening_of true true gone create Unsettled = Same refl
opening_of false sent gone create Unsettled = Same refl
opening_of names sent gone create (WasOk reply) = Same refl
opening_of names sent gone create (WasRefused status) = Same refl
opening_of names sent gone create (NoSlot n) = Same refl
opening_of names sent gone create (NoOpen n) = Same refl
opening_of names sent gone create (Unknown why) = Same refl

-- what its own create is behind it
still_gone : (d f : Client) (create : ℕ) (a b c : Bool) (n : ℕ) (o : Outcome) → f.closed_ok ≡ d.closed_ok → f.op ≡ d.op
    → f.attached ≡ d.attached → f.live ≡ d.live → f.session_number ≡ d.session_number → is_gone_after d create o ≡ true
    → is_gone_after f create (without_open a b c n o) ≡ true
still_gone d f create a b c n Unsettled s op at lv nu e = absurd (cc)
still_gone d f create a b c n (WasOk reply) s op at lv nu e = rw (s, op, at, lv, nu) e
still_gone d f create a b c n (WasRefused status) s op at lv nu e = refl
still_gone d f create a b c n (NoSlot m) s op at lv nu e = refl
still_gone d f create a b c n (NoOpen m) s op at lv nu e = refl
still_gone d f create a b c n (Unknown why) s op at lv nu e = refl

-- of an operation behind the settling of another or of itself
data Left (c d : Client) (g : ℕ) (o : Outcome) (x : ℕ) : Type 0 where
  Was : d.outcome x ≡ c.outcome x → Left c d g o x
  Now : d.outcome x ≡ o → Left c d g o x
  Lost : (create : ℕ) → d.outcome x ≡ NoOpen create → create ≡ create_for d x → d.sent x ≡ false → is_gone d create ≡ true → Left c d g o x

settled_left : (c f : Client) (g place : ℕ) (o : Outcome) (x : ℕ) → f.outcome ≡ c.outcome
    → ((settled f g o place).outcome x ≡ c.outcome x) ⊎ ((settled f g o place).outcome x ≡ o)
settled_left c f g place o x same = either (λ u. (u ≡ c.outcome x) ⊎ (u ≡ o)) (x == g) o (f.outcome x) (λ _. inr refl)
    (λ _. inl (ap (λ u. u x) same))

settle_left : (c : Client) (g : ℕ) (asking : Bool) (r : Reply) (place : ℕ) (o : Outcome) (x : ℕ)
    → Left c (settle c g asking r place o) g o x
settle_left c g asking r place o x =
    let n = noted c g o r.body in let f = noted_full n g asking r.status in let d = settled f g o place in let create = create_for c g in
    let same : f.outcome ≡ c.outcome = (full_alike n g asking r.status).outcome ∙ (noted_alike c g o r.body).outcome in
    either (λ (e : Client). Left c e g o x) (settles_open (c.op g)) (with_no_opens d create) d
    (λ _. let names = (create_for d x == create) && not (is_create (d.op x)) in let gone = is_gone_after d create (d.outcome create) in
    opened d create names gone refl refl (opening_of names (d.sent x) gone create (d.outcome x)) (settled_left c f g place o x same))
    (λ _. plain d (settled_left c f g place o x same))
  where
    plain : (d : Client) → (d.outcome x ≡ c.outcome x) ⊎ (d.outcome x ≡ o) → Left c d g o x
    plain d (inl e) = Was e
    plain d (inr e) = Now e

    opened : (d : Client) (create : ℕ) (names gone : Bool) → names
        ≡ ((create_for d x == create) && not (is_create (d.op x))) → gone ≡ is_gone_after d create (d.outcome create)
        → Opening names (d.sent x) gone create (d.outcome x) (without_open names (d.sent x) gone create (d.outcome x))
        → (d.outcome x ≡ c.outcome x) ⊎ (d.outcome x ≡ o) → Left c (with_no_opens d create) g o x
    opened d create names gone nm gn (Same e) (inl q) = Was (shape nm gn ∙ e ∙ q)
      where
        shape : names ≡ ((create_for d x == create) && not (is_create (d.op x))) → gone ≡ is_gone_after d create
            (d.outcome create) → (with_no_opens d create).outcome x ≡ without_open names (d.sent x) gone create
            (d.outcome x)
        shape a b = ap (λ u. without_open u (d.sent x) (is_gone_after d create (d.outcome create)) create (d.outcome x))
            (sym a) ∙ ap (λ u. without_open names (d.sent x) u create (d.outcome x)) (sym b)
    opened d create names gone nm gn (Same e) (inr q) =
        Now (ap (λ u. without_open u (d.sent x) (is_gone_after d create (d.outcome create)) create (d.outcome x))
        (sym nm) ∙ (ap (λ u. without_open names (d.sent x) u create (d.outcome x)) (sym gn) ∙ (e ∙ q)))
    opened d create names gone nm gn (Gives e a b c2) q =
        Lost create (ap (λ u. without_open u (d.sent x) (is_gone_after d create (d.outcome create)) create
        (d.outcome x)) (sym nm) ∙ (ap (λ u. without_open names (d.sent x) u create (d.outcome x)) (sym gn) ∙ e))
        (sym (eqb-true (create_for d x) create (front_of (create_for d x == create) _ (sym nm ∙ a)))) b
        (still_gone d (with_no_opens d create) create ((create_for d create == create) && not (is_create (d.op create)))
        (d.sent create) (is_gone_after d create (d.outcome create)) create (d.outcome create) refl refl refl refl
        refl (sym gn ∙ c2))

no_slot_outcome : (n : ℕ) → is_answer (NoSlot n) ≡ false
no_slot_outcome n = refl

settles_caused : (z : Settings) (es : List Event) (e : Event) (k g : ℕ) (asking : Bool) (r : Reply) (place : ℕ)
    (o : Outcome) → Took (run es (start z)) e k g asking r place o → Old z es (run es (start z)).client
    → Caused z es e (settle (run es (start z)).client g asking r place o)
settles_caused z es e k g asking r place o t h =
    record {
      slot = λ x create q. slot_by x create q (settle_left c g asking r place o x);
      opening = λ x create q. open_by x create q (settle_left c g asking r place o x);
      read = λ x q. read_by x q (settle_left c g asking r place o x);
    }
  where
    w : World
    w = run es (start z)

    c : Client
    c = (run es (start z)).client

    d : Client
    d = settle (run es (start z)).client g asking r place o

    answer : is_answer o ≡ true
    answer = heard_answer c g asking r o
        (λ own s. subst (λ q. is_some (value_in (c.op g) q.body) ≡ true) t.says
        (reading z es k 0 t.reply (front_down (w.conns k).down t.reply t.rest t.is) g
        (t.token ∙ ap (λ b. if b then ForAttach g else ForOp g) own) (ap (λ q. q.status) t.says ∙ s))) t.heard_as

    slot_by : (x create : ℕ) → d.outcome x ≡ NoSlot create → Left c d g o x → LacksSlot z (es ++ e ∷ []) x create
    slot_by x create q (Was y) = later_slot z es e x create (h.slot x create (sym y ∙ q))
    slot_by x create q (Now y) = answer_not o (NoSlot create) _ answer refl (sym y ∙ q)
    slot_by x create q (Lost n y a b f) = absurd (let v = sym y ∙ q in cc)

    not_push : (j : ℕ) → Pushing e j → ⊥
    not_push j p = absurd (let v = sym t.takes ∙ p.is in cc)

    same_open : (n m : ℕ) → NoOpen n ≡ NoOpen m → n ≡ m
    same_open n m v = cc

    open_by : (x create : ℕ) → d.outcome x ≡ NoOpen create → Left c d g o x → (c.outcome x ≡ NoOpen create) ⊎ GoneNow e d x create
    open_by x create q (Was y) = inl (sym y ∙ q)
    open_by x create q (Now y) = answer_not o (NoOpen create) _ answer refl (sym y ∙ q)
    open_by x create q (Lost n y a b f) =
        let v : n ≡ create = same_open n create (sym y ∙ q) in
        inr (record { quiet = not_push; named = sym v ∙ a; unsent = b; gone = subst (λ i. is_gone d i ≡ true) v f })

    read_by : (x : ℕ) → d.outcome x ≡ Unknown (WithStatus success) → Left c d g o x → ⊥
    read_by x q (Was y) = h.read x (sym y ∙ q)
    read_by x q (Now y) = answer_not o (Unknown (WithStatus success)) _ answer refl (sym y ∙ q)
    read_by x q (Lost n y a b f) = absurd (let v = sym y ∙ q in cc)

-- ---- the session ends

-- a create that went out, of an operation that isn't one, names itself
abbrev OwnCreate : Client → Type 0
OwnCreate c = (x : ℕ) → c.sent (create_for c x) ≡ true → is_create (c.op x) ≡ false → create_for c (create_for c x) ≡ create_for c x

created_own : (g : ℕ) (op : Op) → makes_open op ≡ true → create_of g op ≡ g
unfolding makes_open
created_own g op e = grind arith

its_is : (g : ℕ) (op : Op) → its_create g op ≡ create_of g op
unfolding its_create
its_is g op = refl

not_made : (op : Op) → is_create op ≡ false → makes_open op ≡ false
unfolding makes_open
not_made op e = e

own_create : (c : Client) (w : World) (a : ℕ → ℕ) → Connections c w.conns a → Beyond c → OwnCreate c
own_create c w a cn far x sent other =
    by (is_taken c x) refl
  where
    by : (b : Bool) → is_taken c x ≡ b → create_for c (create_for c x) ≡ create_for c x
    by false t = absurd (let low = (cn.taken (create_for c x) sent).0 in let zero : create_for c x
        ≡ 0 = ap (create_of x) (far x t).1 in omega (arith, low, zero))
    by true t =
        let p = low_high x c.taken t in let made = (cn.creates x p.0 p.1 (not_made (c.op x) other)).2 in
        created_own (create_for c x) (c.op (create_for c x)) (subst (λ q. makes_open (c.op q) ≡ true) (its_is x (c.op x)) made)
      where
        low_high : (x taken : ℕ) → (nat_lt 0 x && nat_le x taken) ≡ true → 0 < x × x ≤ taken
        low_high x taken e = (grind (arith, nat_tests), grind (arith, nat_tests))

no_both : (b : Bool) → b ≡ true → b ≡ false → ⊥
no_both b e f = absurd (grind arith)

-- what becomes of an unsettled plain create that went out, where the session ends: it gives no open any more
ended_gone : (c : Client) (create : ℕ) → create_for c create ≡ create → persists (c.op create) ≡ false → c.sent create
    ≡ true → is_gone_after (end_session c) create (outcome_after_end c create Unsettled) ≡ true
ended_gone c create own plain s =
    either (λ u. is_gone_after (end_session c) create u ≡ true) (persists (c.op (create_for c create))) Unsettled
    (plain_after_end c create (create_for c create))
    (λ e. absurd (no_both (persists (c.op create)) (ap (λ q. persists (c.op q)) (sym own) ∙ e) plain))
    (λ _. either (λ u. is_gone_after (end_session c) create u ≡ true) (c.sent create) (Unknown (SessionLost c.session_number))
    (if is_create (c.op create) then Unsettled else unsent_after_end (create_for c create)
    (c.sent (create_for c create)) (c.outcome (create_for c create))) (λ _. refl)
    (λ n. absurd (no_both (c.sent create) s n)))

-- one that is settled stays so
settled_gone : (c : Client) (create : ℕ) (o : Outcome) → persists (c.op create) ≡ false → c.outcome create ≡ o
    → is_unsettled o ≡ false → is_gone (end_session c) create ≡ true
settled_gone c create o plain e f = subst (λ u. is_gone_after (end_session c) create (outcome_after_end c create u) ≡ true) (sym e) (by o f)
  where
    shape : (a b : Bool) → b ≡ false → (a || (not b && not (false && (c.attached create == c.session_number)))) ≡ true
    shape a b e = grind arith

    by : (o : Outcome) → is_unsettled o ≡ false → is_gone_after (end_session c) create (outcome_after_end c create o) ≡ true
    by Unsettled f = absurd (cc)
    by (WasOk reply) f = shape (c.closed_ok create) (persists (c.op create)) plain
    by (WasRefused status) f = refl
    by (NoSlot n) f = refl
    by (NoOpen n) f = refl
    by (Unknown why) f = refl

-- as it was; or unknown with the session; or without an open
data Ended (c : Client) (x : ℕ) (outcome : Outcome) : Type 0 where
  AsBefore : outcome ≡ c.outcome x → Ended c x outcome
  WithSession : outcome ≡ Unknown (SessionLost c.session_number) → Ended c x outcome
  OpenGone : outcome ≡ NoOpen (create_for c x) → c.sent x ≡ false → is_gone (end_session c) (create_for c x) ≡ true → Ended c x outcome

unsent_ended : (c : Client) (x : ℕ) → OwnCreate c → is_create (c.op x) ≡ false → c.outcome x ≡ Unsettled
    → persists (c.op (create_for c x)) ≡ false → c.sent x ≡ false → (o : Outcome) → c.outcome (create_for c x) ≡ o
    → Ended c x (unsent_after_end (create_for c x) (c.sent (create_for c x)) o)
unsent_ended c x own other is plain unsent Unsettled e =
    either (Ended c x) (c.sent (create_for c x)) (NoOpen (create_for c x)) Unsettled
    (λ s. OpenGone refl unsent
    (subst (λ u. is_gone_after (end_session c) (create_for c x) (outcome_after_end c (create_for c x) u) ≡ true)
    (sym e) (ended_gone c (create_for c x) (own x s other) plain s))) (λ _. AsBefore (sym is))
unsent_ended c x own other is plain unsent (WasOk reply) e = OpenGone refl unsent
    (settled_gone c (create_for c x) (WasOk reply) plain e refl)
unsent_ended c x own other is plain unsent (WasRefused status) e = OpenGone refl unsent
    (settled_gone c (create_for c x) (WasRefused status) plain e refl)
unsent_ended c x own other is plain unsent (NoSlot n) e = OpenGone refl unsent (settled_gone c (create_for c x) (NoSlot n) plain e refl)
unsent_ended c x own other is plain unsent (NoOpen n) e = OpenGone refl unsent (settled_gone c (create_for c x) (NoOpen n) plain e refl)
unsent_ended c x own other is plain unsent (Unknown why) e = OpenGone refl unsent
    (settled_gone c (create_for c x) (Unknown why) plain e refl)

end_left : (c : Client) (x : ℕ) → OwnCreate c → (o : Outcome) → c.outcome x ≡ o → Ended c x (outcome_after_end c x o)
end_left c x own Unsettled e =
    either (Ended c x) (persists (c.op (create_for c x))) Unsettled (plain_after_end c x (create_for c x)) (λ _. AsBefore (sym e))
    (λ plain. either (Ended c x) (c.sent x) (Unknown (SessionLost c.session_number))
    (if is_create (c.op x) then Unsettled else unsent_after_end (create_for c x) (c.sent (create_for c x))
    (c.outcome (create_for c x))) (λ _. WithSession refl)
    (λ unsent. either (Ended c x) (is_create (c.op x)) Unsettled
    (unsent_after_end (create_for c x) (c.sent (create_for c x)) (c.outcome (create_for c x)))
    (λ _. AsBefore (sym e))
    (λ other. unsent_ended c x own other e plain unsent (c.outcome (create_for c x)) refl)))
end_left c x own (WasOk reply) e = AsBefore (sym e)
end_left c x own (WasRefused status) e = AsBefore (sym e)
end_left c x own (NoSlot n) e = AsBefore (sym e)
end_left c x own (NoOpen n) e = AsBefore (sym e)
end_left c x own (Unknown why) e = AsBefore (sym e)

lost_not : (n : ℕ) → Unknown (SessionLost n) ≡ Unknown (WithStatus success) → ⊥
lost_not n e = absurd (cc)

open_same : (n m : ℕ) → NoOpen n ≡ NoOpen m → n ≡ m
open_same n m e = cc

-- c is the client before the event, or that but for what is outstanding
ends_caused : (z : Settings) (es : List Event) (e : Event) (c : Client) → ((k : ℕ) → Pushing e k → ⊥) → OwnCreate c
    → c.outcome ≡ (run es (start z)).client.outcome → Old z es (run es (start z)).client → Caused z es e (end_session c)
ends_caused z es e c quiet own same h =
    record {
      slot = λ x create q. slot_by x create q (end_left c x own (c.outcome x) refl);
      opening = λ x create q. open_by x create q (end_left c x own (c.outcome x) refl);
      read = λ x q. read_by x q (end_left c x own (c.outcome x) refl);
    }
  where
    back : (x : ℕ) → c.outcome x ≡ (run es (start z)).client.outcome x
    back x = ap (λ u. u x) same

    slot_by : (x create : ℕ) → outcome_after_end c x (c.outcome x) ≡ NoSlot create
        → Ended c x (outcome_after_end c x (c.outcome x)) → LacksSlot z (es ++ e ∷ []) x create
    slot_by x create q (AsBefore y) = later_slot z es e x create (h.slot x create (sym (back x) ∙ (sym y ∙ q)))
    slot_by x create q (WithSession y) = absurd (let v = sym y ∙ q in cc)
    slot_by x create q (OpenGone y a b) = absurd (let v = sym y ∙ q in cc)

    open_by : (x create : ℕ) → outcome_after_end c x (c.outcome x) ≡ NoOpen create
        → Ended c x (outcome_after_end c x (c.outcome x)) → ((run es (start z)).client.outcome x ≡ NoOpen create)
        ⊎ GoneNow e (end_session c) x create
    open_by x create q (AsBefore y) = inl (sym (back x) ∙ (sym y ∙ q))
    open_by x create q (WithSession y) = absurd (let v = sym y ∙ q in cc)
    open_by x create q (OpenGone y a b) =
        let v : create_for c x ≡ create = open_same (create_for c x) create (sym y ∙ q) in
        inr (record { quiet = quiet; named = sym v; unsent = a; gone = subst (λ i. is_gone (end_session c) i ≡ true) v b })

    read_by : (x : ℕ) → outcome_after_end c x (c.outcome x) ≡ Unknown (WithStatus success)
        → Ended c x (outcome_after_end c x (c.outcome x)) → ⊥
    read_by x q (AsBefore y) = h.read x (sym (back x) ∙ (sym y ∙ q))
    read_by x q (WithSession y) = lost_not c.session_number (sym y ∙ q)
    read_by x q (OpenGone y a b) = absurd (let v = sym y ∙ q in cc)

-- ---- all is given up

finish_left : (why : Why) (o : Outcome) → (outcome_after_finish why o ≡ o) ⊎ (outcome_after_finish why o ≡ Unknown why)
finish_left why Unsettled = inr refl
finish_left why (WasOk reply) = inl refl
finish_left why (WasRefused status) = inl refl
finish_left why (NoSlot n) = inl refl
finish_left why (NoOpen n) = inl refl
finish_left why (Unknown u) = inl refl

finished_left : (c : Client) (why : Why) (x : ℕ) → ((finish c why).outcome x ≡ c.outcome x) ⊎ ((finish c why).outcome x ≡ Unknown why)
finished_left c why x = either (λ u. (u ≡ c.outcome x) ⊎ (u ≡ Unknown why)) (is_taken c x)
    (outcome_after_finish why (c.outcome x)) (c.outcome x) (λ _. finish_left why (c.outcome x)) (λ _. inl refl)

unknown_same : (x y : Why) → Unknown x ≡ Unknown y → x ≡ y
unknown_same x y e = cc

finishes_caused : (z : Settings) (es : List Event) (e : Event) (why : Why) → Finishing e why
    → Old z es (run es (start z)).client → Caused z es e (finish (run es (start z)).client why)
finishes_caused z es e why f h =
    let c = (run es (start z)).client in
    record {
      slot = λ x create q. slot_by x create q (finished_left c why x);
      opening = λ x create q. open_by x create q (finished_left c why x);
      read = λ x q. read_by x q (finished_left c why x);
    }
  where
    c : Client
    c = (run es (start z)).client

    slot_by : (x create : ℕ) → (finish c why).outcome x ≡ NoSlot create → ((finish c why).outcome x ≡ c.outcome x)
        ⊎ ((finish c why).outcome x ≡ Unknown why) → LacksSlot z (es ++ e ∷ []) x create
    slot_by x create q (inl y) = later_slot z es e x create (h.slot x create (sym y ∙ q))
    slot_by x create q (inr y) = absurd (let v = sym y ∙ q in cc)

    open_by : (x create : ℕ) → (finish c why).outcome x ≡ NoOpen create → ((finish c why).outcome x ≡ c.outcome x)
        ⊎ ((finish c why).outcome x ≡ Unknown why) → (c.outcome x ≡ NoOpen create) ⊎ GoneNow e (finish c why) x create
    open_by x create q (inl y) = inl (sym y ∙ q)
    open_by x create q (inr y) = absurd (let v = sym y ∙ q in cc)

    read_by : (x : ℕ) → (finish c why).outcome x ≡ Unknown (WithStatus success)
        → ((finish c why).outcome x ≡ c.outcome x) ⊎ ((finish c why).outcome x ≡ Unknown why) → ⊥
    read_by x q (inl y) = h.read x (sym y ∙ q)
    read_by x q (inr y) = absurd (let v = sym f.because ∙ unknown_same why (WithStatus success) (sym y ∙ q) in cc)

-- ---- an operation is taken

first_left : (c : Client) (g : ℕ) (op : Op) → (outcome_at_first c g op ≡ Unsettled)
    ⊎ (outcome_at_first c g op ≡ NoOpen (create_of g op) × is_gone c (create_of g op) ≡ true × is_create op ≡ false)
first_left c g op =
    let P : Outcome → Type 0 = λ r. (r ≡ Unsettled) ⊎ (r ≡ NoOpen (create_of g op) × is_gone c (create_of g op) ≡ true
    × is_create op ≡ false) in
    either P (is_create op) Unsettled _ (λ _. inl refl) (λ n. either P (is_gone c (create_of g op))
    (NoOpen (create_of g op)) Unsettled (λ e. inr (refl, e, n)) (λ _. inl refl))

below_self : (c : Client) (g : ℕ) (op : Op) → may_take c g op ≡ true → is_create op ≡ false → g ≡ c.taken + 1 × create_of g op ≢ g
below_self c g op m n =
    let a = front_of (g == c.taken + 1) _ m in let rest = back_of (keeps_limits op) _ (back_of (g == c.taken + 1) _ m) in (
      eqb-true g (c.taken + 1) a,
      less (is_create op) (nat_lt 0 (create_of g op)) (create_of g op) g
          (is_create (c.op (create_of g op))) n rest,
    )
  where
    less : (a b : Bool) (n g : ℕ) (d : Bool) → a ≡ false → (a || (b && (nat_lt n g && d))) ≡ true → n ≢ g
    less a b n g d e f = grind (arith, nat_tests)

same_gone : (c : Client) (g create : ℕ) (op : Op) → create ≢ g → is_gone c create ≡ true → is_gone (take_op c g op) create ≡ true
same_gone c g create op n e =
    let outcome : (take_op c g op).outcome create ≡ c.outcome create = put_off c.outcome g (outcome_at_first c g op)
    create n in let row : (take_op c g op).op create ≡ c.op create = put_off c.op g op create n in
    subst (λ u. is_gone_after (take_op c g op) create u ≡ true) (sym outcome) (by (c.outcome create) row e)
  where
    by : (o : Outcome) → (take_op c g op).op create ≡ c.op create → is_gone_after c create o ≡ true
        → is_gone_after (take_op c g op) create o ≡ true
    by Unsettled row e = absurd (cc)
    by (WasOk reply) row e =
        subst (λ u. (c.closed_ok create
        || (not (persists u) && not (c.live && (c.attached create == c.session_number)))) ≡ true) (sym row) e
    by (WasRefused status) row e = refl
    by (NoSlot m) row e = refl
    by (NoOpen m) row e = refl
    by (Unknown why) row e = refl

takes_caused : (z : Settings) (es : List Event) (e : Event) (a : ℕ → ℕ) → Connections (run es (start z)).client
    (run es (start z)).conns a → Old z es (run es (start z)).client → Takes (Caused z es e) (run es (start z)) e
takes_caused z es e a cn h g op is m =
    record {
      slot = λ x create q. later_slot z es e x create
          (h.slot x create (either (λ o. o ≡ NoSlot create → c.outcome x ≡ NoSlot create) (x == g)
          (outcome_at_first c g op) (c.outcome x) (λ _ y. absurd (not_slot (first_left c g op) y)) (λ _ y. y) q));
      opening = λ x create q.
          elim (x == g) as (λ b. x == g ≡ b → (if b then outcome_at_first c g op else c.outcome x) ≡ NoOpen create
          → (c.outcome x ≡ NoOpen create) ⊎ GoneNow e d x create) [
            | true ↦ λ t y. let xg : x ≡ g = eqb-true x g t in subst (λ p. (c.outcome p ≡ NoOpen create) ⊎ GoneNow e d p create)
                (sym xg) (new create (first_left c g op) y)
            | false ↦ λ t y. inl y
          ] refl q;
      read = λ x q. h.read x (either (λ o. o ≡ Unknown (WithStatus success) → c.outcome x
          ≡ Unknown (WithStatus success)) (x == g) (outcome_at_first c g op) (c.outcome x)
          (λ _ y. absurd (not_unknown (first_left c g op) y)) (λ _ y. y) q);
    }
  where
    c : Client
    c = (run es (start z)).client

    d : Client
    d = take_op (run es (start z)).client g op

    not_slot : {n : ℕ} → (outcome_at_first c g op ≡ Unsettled) ⊎ (outcome_at_first c g op ≡ NoOpen (create_of g op)
        × is_gone c (create_of g op) ≡ true × is_create op ≡ false) → outcome_at_first c g op ≡ NoSlot n → ⊥
    not_slot (inl y) q = absurd (let v = sym y ∙ q in cc)
    not_slot (inr y) q = absurd (let v = sym y.0 ∙ q in cc)

    not_unknown : (outcome_at_first c g op ≡ Unsettled) ⊎ (outcome_at_first c g op ≡ NoOpen (create_of g op)
        × is_gone c (create_of g op) ≡ true × is_create op ≡ false) → outcome_at_first c g op
        ≡ Unknown (WithStatus success) → ⊥
    not_unknown (inl y) q = absurd (let v = sym y ∙ q in cc)
    not_unknown (inr y) q = absurd (let v = sym y.0 ∙ q in cc)

    not_push : (j : ℕ) → Pushing e j → ⊥
    not_push j p = absurd (let v = sym is ∙ p.is in cc)

    unsent_new : (b : Bool) → c.sent g ≡ b → g ≡ c.taken + 1 → c.sent g ≡ false
    unsent_new false e n = e
    unsent_new true e n = absurd (let high = (cn.taken g e).1 in omega (arith, high, n))

    new : (create : ℕ) → (outcome_at_first c g op ≡ Unsettled) ⊎ (outcome_at_first c g op ≡ NoOpen (create_of g op)
        × is_gone c (create_of g op) ≡ true × is_create op ≡ false) → outcome_at_first c g op ≡ NoOpen create
        → (c.outcome g ≡ NoOpen create) ⊎ GoneNow e d g create
    new create (inl y) q = absurd (let v = sym y ∙ q in cc)
    new create (inr y) q =
        let v : create_of g op ≡ create = open_same (create_of g op) create (sym y.0 ∙ q) in let b = below_self c g op m y.2 in
        inr (record {
          quiet = not_push;
          named = sym v ∙ ap (create_of g) (sym (put_at c.op g op));
          unsent = unsent_new (c.sent g) refl b.0;
          gone = subst (λ i. is_gone d i ≡ true) v (same_gone c g (create_of g op) op b.1 y.1);
        })

-- ---- each event, and each run

no_push_take : (e : Event) (k : ℕ) → e ≡ Take k → (j : ℕ) → Pushing e j → ⊥
no_push_take e k t j p = absurd (let v = sym t ∙ p.is in cc)

no_push_cut : (e : Event) (k : ℕ) → e ≡ Cut k → (j : ℕ) → Pushing e j → ⊥
no_push_cut e k t j p = absurd (let v = sym t ∙ p.is in cc)

caused_small : (z : Settings) (es : List Event) (e : Event) → OwnCreate (run es (start z)).client
    → Old z es (run es (start z)).client → Small (Caused z es e) (run es (start z)) e
caused_small z es e own h =
    let c = (run es (start z)).client in
    record {
      opens = λ k. from_old z es e _ refl h;
      slotless = λ d k g l s i. slotless_caused z es e d k g l s i;
      begins_op = λ d k g i m p j. from_push z es e d (outstanding (begun d g i) k g) k (begun_same d k g i) p j;
      asks = λ d k g m p i. from_push z es e d _ k refl p i;
      settles = λ k g asking r place o on firm t. settles_caused z es e k g asking r place o t h;
      answers = λ g. from_old z es e _ refl h;
      joins = λ k g on. from_old z es e _ refl h;
      ends = λ g d. ends_caused z es e (answered c g) (no_push_take e d.channel d.takes) own refl h;
      cut_ends = λ k on is. ends_caused z es e c (no_push_cut e k is) own refl h;
      cuts = λ k on more is. from_old z es e _ refl h;
      goes = λ k te s y rest is token d. from_old z es e _ refl h;
      accepts = λ k r d. from_old z es e _ refl h;
      binds = λ k talks o live. from_old z es e _ refl h;
      begins = λ k tree at o dead. from_old z es e _ refl h;
      leaves = λ k rs. from_old z es e _ refl h;
      finishes = λ why f. finishes_caused z es e why f h;
    }

abbrev OldAll : Settings → List Event → Type 0
OldAll z es = Old z es (run es (start z)).client

one_caused : (z : Settings) (es : List Event) (e : Event) → OldAll z es → OldAll z (es ++ e ∷ [])
one_caused z es e h =
    let w = run es (start z) in let cn = connections z es in
    let own = own_create w.client w _ cn (beyond z es) in
    let behind : Caused z es e (happens w e).client = client_keeps (Caused z es e) w e (takes_caused z es e _ cn h)
    (caused_small z es e own h) (from_old z es e w.client refl h) in
    subst (λ (v : World). Old z (es ++ e ∷ []) v.client) (sym (run_more es e (start z)))
    (record { slot = behind.slot; opening = λ g create q. by g create q (behind.opening g create q); read = behind.read })
  where
    at : run (es ++ e ∷ []) (start z) ≡ happens (run es (start z)) e
    at = run_more es e (start z)

    -- what had settled before the event had this outcome already
    now : (g create : ℕ) → (happens (run es (start z)) e).client.outcome g ≡ NoOpen create
        → GoneNow e (happens (run es (start z)) e).client g create → (b : Bool)
        → is_unsettled ((run es (start z)).client.outcome g) ≡ b → LacksOpen z (es ++ e ∷ []) g create
    now g create q y false u = later_open z es e g create
        (h.opening g create (sym (settled_stays z es (e ∷ []) g u) ∙ (ap (λ (v : World). v.client.outcome g) at ∙ q)))
    now g create q y true u =
        record {
          before = es;
          after = [];
          event = e;
          is = refl;
          unsettled = u;
          came = subst (λ (v : World). v.client.outcome g ≡ NoOpen create) (sym at) q;
          named = subst (λ (v : World). create ≡ create_for v.client g) (sym at) y.named;
          unsent = subst (λ (v : World). v.client.sent g ≡ false) (sym at) y.unsent;
          gone = subst (λ (v : World). is_gone v.client create ≡ true) (sym at) y.gone;
        }

    by : (g create : ℕ) → (happens (run es (start z)) e).client.outcome g ≡ NoOpen create
        → ((run es (start z)).client.outcome g ≡ NoOpen create) ⊎ GoneNow e (happens (run es (start z)) e).client g create
        → LacksOpen z (es ++ e ∷ []) g create
    by g create q (inl y) = later_open z es e g create (h.opening g create y)
    by g create q (inr y) = now g create q y (is_unsettled ((run es (start z)).client.outcome g)) refl

none_caused : (z : Settings) → OldAll z []
unfolding run
none_caused z = record { slot = λ g create q. absurd (cc); opening = λ g create q. absurd (cc); read = λ g q. absurd (cc) }

causes : (z : Settings) (es : List Event) → OldAll z es
causes z = every (OldAll z) (none_caused z) (one_caused z)

pub causes_told : CausesTold
causes_told z es g create = let h = causes z es in (h.slot g create, h.opening g create)

pub never_unread : NeverUnread
never_unread z es g e = (causes z es).read g e
