-- On a run without losses what settled as Ok or Refused has the reply of the server's step.
use Rattle.std.proofs.lemmas.List.{append_assoc}
use Rattle.std.proofs.Common.{◌≡◌, ◌≢◌, ℕ, ◌==◌, Bool, true, false, not, ◌&&◌, if◌then◌else◌, List, [], ◌∷◌, ◌++◌, refl}
use Rattle.std.proofs.Common.{arith, sym, subst, ◌∙◌, ap, eqb-true, Option, Some, None, is_some, slice_get}
use Rattle.spec_exchange.specs.Table.{put, put2}
use Rattle.spec_exchange.specs.Status.{success, user_session_deleted, disk_full}
use Rattle.spec_exchange.specs.State.{Reply, Body}
use Rattle.spec_exchange.specs.Operations.{Op, OpReply, Outcome, Unsettled, WasOk, WasRefused, NoSlot, NoOpen, Unknown}
use Rattle.spec_exchange.specs.Operations.{is_create, is_lock, is_close, is_firm, create_of, id_in, value_in}
use Rattle.spec_exchange.specs.Operations.{Why}
use Rattle.spec_exchange.specs.Client.{Client, create_for, may_take, take_op, is_gone, is_gone_after, outcome_at_first}
use Rattle.spec_exchange.specs.Client.{begun, begin, again, take_slot, outstanding}
use Rattle.spec_exchange.specs.Settling.{Heard as Hearing, Settles, GoesAgain, Attaches, heard, settle, settled, noted}
use Rattle.spec_exchange.specs.Settling.{noted_full, settles_open, with_no_opens, without_open, ok_or_unknown, refused}
use Rattle.spec_exchange.specs.Settling.{goes_again}
use Rattle.spec_exchange.specs.Network.{World, Event, Submit, Open, Push, Serve, Take, Cut, Drop, Restart, Crash, Wait}
use Rattle.spec_exchange.specs.Network.{Finish, Received, ForOp, ForAttach, Settings, run, start, happens}
use Rattle.law_sessions.proofs.messages.Lists.{front_down}
use Rattle.law_sessions.proofs.messages.Reached.{run_more}
use Rattle.law_server.proofs.tables.Logic.{either, front_of, back_of}
use Rattle.law_sessions.specs.sessions.Sessions.{is_ops}
use Rattle.law_answers.specs.completeness.Completeness.{loses_nothing, without_losses}
use Rattle.law_answers.proofs.completeness.Client.{Took, Ending, Finishing, Small, Takes, client_keeps}
use Rattle.law_answers.proofs.completeness.Columns.{taken_on}
use Rattle.law_answers.proofs.completeness.Lossless.{Here, Rest, rest_of, settled_same, unlost_at, heard_ends}
use Rattle.law_sessions.proofs.messages.Run.{connections}
use Rattle.law_order.proofs.order.Words.{left_firm}
use Rattle.spec_exchange.specs.Operations.{is_unsettled, persists, SessionLost}
use Rattle.spec_exchange.specs.ClientStep.{some_unsettled}
use Rattle.spec_exchange.specs.Client.{is_taken, end_session, outcome_after_end, plain_after_end, unsent_after_end}
use Rattle.spec_exchange.specs.Client.{finish, outcome_after_finish}
use Rattle.law_answers.proofs.completeness.Runs.{session_found}
use Rattle.law_outcomes.specs.outcomes.Outcomes.{OperationAnswered, SettledAs, AsOk, AsRefused, AllAnswered, is_known}
use Rattle.law_outcomes.proofs.outcomes.Waiting.{every, Made, made, reading}

absent : (b : Bool) (P : Type 0) → b ≡ true → b ≡ false → P
absent b P e f = absurd (cc)

-- ---- what a reply settles as, where no copy is unanswered

pub same_settled : (x y : Outcome) → Settles x ≡ Settles y → x ≡ y
same_settled x y e = cc

other_status : (n m : ℕ) → (n == m) ≡ false → n ≢ m
other_status n m e f = absurd (grind arith)

by_value : (op : Op) (r : Reply) (o : Outcome) (u : Option OpReply) → value_in op r.body ≡ u → r.status ≡ success
    → ok_or_unknown u ≡ Settles o → is_firm o ≡ true → SettledAs op true r o
by_value op r o (Some reply) v s e f = subst (SettledAs op true r) (same_settled (WasOk reply) o e) (AsOk reply refl s v)
by_value op r o None v s e f = absent (is_firm o) _ f (subst (λ x. is_firm x ≡ false) (same_settled _ o e) refl)

settles_as : (c : Client) (g : ℕ) (asking : Bool) (r : Reply) (o : Outcome) → c.unanswered g ≡ false
    → heard c g asking r ≡ Settles o → is_firm o ≡ true → SettledAs (c.op g) (not asking) r o
settles_as c g asking r o b =
    let P : Hearing → Type 0 = λ h. h ≡ Settles o → is_firm o ≡ true → SettledAs (c.op g) (not asking) r o in
    either P (r.status == user_session_deleted) _ _ (λ _ e f. absurd (cc))
    (λ _. either P (r.status == success) (if asking then Attaches else ok_or_unknown (value_in (c.op g) r.body)) _
    (λ s. either P asking Attaches _ (λ _ e f. absurd (cc))
    (λ own e f. subst (λ q. SettledAs (c.op g) q r o) (ap not (sym own))
    (by_value (c.op g) r o (value_in (c.op g) r.body) refl (eqb-true r.status success s) e f)))
    (λ s. either P (goes_again c g asking r.status) GoesAgain _ (λ _ e f. absurd (cc))
    (λ _ e f. subst (SettledAs (c.op g) (not asking) r)
    (same_settled (WasRefused r.status) o (ap (λ x. refused (c.op g) asking x r.status) (sym b) ∙ e))
    (AsRefused (other_status r.status success s)))))

-- ---- what settling leaves of an operation that is Ok or Refused behind it

-- as it was, or as the reply says
data Left (c : Client) (g place : ℕ) (o : Outcome) (h : ℕ) (outcome : Outcome) (settled_by : Option ℕ) : Type 0 where
  Stays : is_firm (c.outcome h) ≡ true → outcome ≡ c.outcome h → settled_by ≡ c.settled_by h → Left c g place o h outcome settled_by
  Now : h ≡ g → outcome ≡ o → settled_by ≡ Some place → Left c g place o h outcome settled_by

-- columns that noting leaves alone
pub record Alike (c d : Client) : Type 0 where
  pub outcome : d.outcome ≡ c.outcome
  pub settled_by : d.settled_by ≡ c.settled_by

alike : (c : Client) → Alike c c
alike c = record { outcome = refl; settled_by = refl }

pub noted_alike : (c : Client) (g : ℕ) (o : Outcome) (body : Body) → Alike c (noted c g o body)
noted_alike c g (WasOk reply) body =
    let P : Client → Type 0 = Alike c in
    either P (is_create (c.op g)) (record c {
      file = put c.file g (id_in body);
      attached = put c.attached g c.session_number;
    }) (if is_close (c.op g) then record c {
      closed_ok = put c.closed_ok (create_for c g) true;
    } else c)
    (λ _. record { outcome = refl; settled_by = refl })
    (λ _. either P (is_close (c.op g)) (record c { closed_ok = put c.closed_ok (create_for c g) true }) c (λ _. record {
      outcome = refl;
      settled_by = refl;
    }) (λ _. alike c))
noted_alike c g Unsettled body = alike c
noted_alike c g (WasRefused status) body = alike c
noted_alike c g (NoSlot create) body = alike c
noted_alike c g (NoOpen create) body = alike c
noted_alike c g (Unknown why) body = alike c

pub full_alike : (c : Client) (g : ℕ) (asking : Bool) (status : ℕ) → Alike c (noted_full c g asking status)
full_alike c g asking status =
    either (λ (d : Client). Alike c d) (is_lock (c.op g) && (not asking && (status == disk_full))) (record c {
      full = put2 c.full (create_for c g) (c.slot_of g) true;
    }) c (λ _. record { outcome = refl; settled_by = refl })
    (λ _. alike c)

settled_left : (c d : Client) (g place : ℕ) (o : Outcome) (h : ℕ) → Alike c d
    → is_firm ((settled d g o place).outcome h) ≡ true → Left c g place o h ((settled d g o place).outcome h)
    ((settled d g o place).settled_by h)
settled_left c d g place o h a f =
    elim (h == g) as (λ b. h == g ≡ b → is_firm (if b then o else d.outcome h) ≡ true
    → Left c g place o h (if b then o else d.outcome h) (if b then Some place else d.settled_by h)) [
      | true ↦ λ e q. Now (eqb-true h g e) refl refl
      | false ↦ λ e q. Stays (ap (λ u. is_firm (u h)) (sym a.outcome) ∙ q) (ap (λ u. u h) a.outcome) (ap (λ u. u h) a.settled_by)
    ] refl f

-- one that is Ok or Refused isn't given up
firm_given : (a b c : Bool) (create : ℕ) (o : Outcome) → is_firm (without_open a b c create o) ≡ true → without_open a b c create o ≡ o
firm_given a b c create Unsettled = either (λ r. is_firm r ≡ true → r ≡ Unsettled) (a && (not b && c)) (NoOpen create)
    Unsettled (λ _ e. absurd (cc)) (λ _ e. refl)
firm_given a b c create (WasOk reply) = λ e. refl
firm_given a b c create (WasRefused status) = λ e. refl
firm_given a b c create (NoSlot n) = λ e. refl
firm_given a b c create (NoOpen n) = λ e. refl
firm_given a b c create (Unknown why) = λ e. refl

settle_left : (c : Client) (g : ℕ) (asking : Bool) (r : Reply) (place : ℕ) (o : Outcome) (h : ℕ)
    → is_firm ((settle c g asking r place o).outcome h) ≡ true
    → Left c g place o h ((settle c g asking r place o).outcome h) ((settle c g asking r place o).settled_by h)
settle_left c g asking r place o h =
    let n = noted c g o r.body in let f = noted_full n g asking r.status in let d = settled f g o place in
    let a = noted_alike c g o r.body in let b = full_alike n g asking r.status in
    let all : Alike c f = record { outcome = b.outcome ∙ a.outcome; settled_by = b.settled_by ∙ a.settled_by } in
    either (λ (e : Client). is_firm (e.outcome h) ≡ true → Left c g place o h (e.outcome h) (e.settled_by h))
    (settles_open (c.op g)) (with_no_opens d (create_for c g)) d
    (λ _ q. let names = (create_for d h == create_for c g) && not (is_create (d.op h)) in let gone = is_gone_after d
    (create_for c g) (d.outcome (create_for c g)) in
    let same = firm_given names (d.sent h) gone (create_for c g) (d.outcome h) q in
    subst (λ u. Left c g place o h u (d.settled_by h)) (sym same) (settled_left c f g place o h all (ap is_firm (sym same) ∙ q)))
    (λ _ q. settled_left c f g place o h all q)

-- ---- along one event

record Along (z : Settings) (es : List Event) (e : Event) (d : Client) : Type 0 where
  found : (g : ℕ) → is_firm (d.outcome g) ≡ true → OperationAnswered z (es ++ e ∷ []) g ((run es (start z)).client.op g)
      (d.settled_by g) (d.outcome g)

later_answered : (z : Settings) (es : List Event) (e : Event) (g : ℕ) (op : Op) (settled_by : Option ℕ) (o : Outcome)
    → OperationAnswered z es g op settled_by o → OperationAnswered z (es ++ e ∷ []) g op settled_by o
later_answered z es e g op settled_by o h =
    record {
      before = h.before;
      after = h.after ++ e ∷ [];
      channel = h.channel;
      is = ap (λ xs. xs ++ e ∷ []) h.is ∙ append_assoc h.before (Serve h.channel ∷ h.after) (e ∷ []);
      met = h.met;
      front = h.front;
      rest = h.rest;
      waits = h.waits;
      own = h.own;
      token = h.token;
      place = h.place;
      settled = h.settled;
    }

same_columns : (z : Settings) (es : List Event) (e : Event) (c d : Client) → d.outcome ≡ c.outcome → d.settled_by
    ≡ c.settled_by → Along z es e c → Along z es e d
same_columns z es e c d o b h =
    record {
      found = λ g f. subst (λ u. OperationAnswered z (es ++ e ∷ []) g ((run es (start z)).client.op g) (u g) (d.outcome g))
          (sym b) (subst (λ u. is_firm (u g) ≡ true → OperationAnswered z (es ++ e ∷ []) g ((run es (start z)).client.op g)
          (c.settled_by g) (u g)) (sym o) (h.found g) f);
    }

put_weak : (z : Settings) (es : List Event) (e : Event) (c : Client) (h : ℕ) (o : Outcome) → is_firm o ≡ false
    → Along z es e c → (g : ℕ) → is_firm (put c.outcome h o g) ≡ true → OperationAnswered z (es ++ e ∷ []) g
    ((run es (start z)).client.op g) (c.settled_by g) (put c.outcome h o g)
put_weak z es e c h o n i g f =
    either (λ u. is_firm u ≡ true → OperationAnswered z (es ++ e ∷ []) g ((run es (start z)).client.op g) (c.settled_by g) u)
    (g == h) o (c.outcome g) (λ _ q. absent (is_firm o) _ q n) (λ _ q. i.found g q) f

first_weak : (c : Client) (g : ℕ) (op : Op) → is_firm (outcome_at_first c g op) ≡ false
first_weak c g op =
    let P : Outcome → Type 0 = λ r. is_firm r ≡ false in
    either P (is_create op) Unsettled _ (λ _. refl) (λ _. either P (is_gone c (create_of g op))
    (NoOpen (create_of g op)) Unsettled (λ _. refl) (λ _. refl))

begun_along : (z : Settings) (es : List Event) (e : Event) (c : Client) (k g i : ℕ) → Along z es e c
    → Along z es e (outstanding (begun c g i) k g)
begun_along z es e c k g i h =
    let P : Client → Type 0 = λ d. Along z es e (outstanding d k g) in
    either P (c.sent g) (again c g) (begin c g i)
    (λ _. either P (is_lock (c.op g)) (record c {
      retried = put2 c.retried (create_for c g) (c.slot_of g) c.session_number;
    }) c
    (λ _. same_columns z es e c _ refl refl h) (λ _. same_columns z es e c _ refl refl h))
    (λ _. either P (is_lock (c.op g)) (record (take_slot c g i) { sent = put c.sent g true }) (record c {
      sent = put c.sent g true;
    }) (λ _. same_columns z es e c _ refl refl h)
    (λ _. same_columns z es e c _ refl refl h))

-- what is known at the world before the event
record Known (z : Settings) (es : List Event) (e : Event) : Type 0 where
  here : Here (run es (start z))
  made : (k n : ℕ) (y : Received) → slice_get ((run es (start z)).conns k).down n ≡ Some y → Made z es y
  kept : loses_nothing (run es (start z)) e ≡ true
  rest : some_unsettled (run es (start z)).client (run es (start z)).client.taken ≡ false → Rest (run es (start z)).client

op_token : (asking : Bool) (g : ℕ) → is_ops (if asking then ForAttach g else ForOp g) ≡ true
op_token true g = refl
op_token false g = refl

own_token : (asking : Bool) (g : ℕ) → (if asking then ForAttach g else ForOp g) ≡ (if not asking then ForOp g else ForAttach g)
own_token true g = refl
own_token false g = refl

settles_along : (z : Settings) (es : List Event) (e : Event) (k g : ℕ) (asking : Bool) (r : Reply) (place : ℕ)
    (o : Outcome) → Known z es e → Took (run es (start z)) e k g asking r place o
    → Along z es e (run es (start z)).client
    → Along z es e (settle (run es (start z)).client g asking r place o)
settles_along z es e k g asking r place o f t h =
    record { found = λ p q. by p _ _ (settle_left c g asking r place o p q) (subst (λ u. is_firm u ≡ true) refl q) }
  where
    c : Client
    c = (run es (start z)).client

    m : Made z es t.reply
    m = f.made k 0 t.reply (front_down ((run es (start z)).conns k).down t.reply t.rest t.is)

    by : (p : ℕ) (outcome : Outcome) (settled_by : Option ℕ) → Left c g place o p outcome settled_by → is_firm outcome
        ≡ true → OperationAnswered z (es ++ e ∷ []) p (c.op p) settled_by outcome
    by p outcome settled_by (Stays was same place_same) q = subst (λ u. OperationAnswered z (es ++ e ∷ []) p (c.op p) u outcome)
        (sym place_same) (subst (λ u. OperationAnswered z (es ++ e ∷ []) p (c.op p) (c.settled_by p) u) (sym same)
        (h.found p was))
    by p outcome settled_by (Now pg same placed) q =
        subst (λ i. OperationAnswered z (es ++ e ∷ []) i (c.op i) settled_by outcome) (sym pg)
        (subst (λ u. OperationAnswered z (es ++ e ∷ []) g (c.op g) settled_by u) (sym same)
        (subst (λ u. OperationAnswered z (es ++ e ∷ []) g (c.op g) u o) (sym placed)
        (later_answered z es e g (c.op g) (Some place) o
        (record {
          before = m.before;
          after = m.after;
          channel = m.channel;
          is = m.is;
          met = m.met;
          front = m.front;
          rest = m.rest;
          waits = m.waits;
          own = not asking;
          token = sym m.token ∙ (t.token ∙ own_token asking g);
          place = ap Some (sym t.at ∙ m.place);
          settled = subst (λ u. SettledAs (c.op g) (not asking) u o) (sym t.says ∙ m.reply)
              (settles_as c g asking r o (f.here.client g).0 t.heard_as (ap is_firm (sym same) ∙ q));
        }))))

-- where the client loses something, nothing is unsettled
quiet_cut : (z : Settings) (es : List Event) (e : Event) (k : ℕ) → Known z es e → (run es (start z)).client.ready k
    ≡ true → e ≡ Cut k → Rest (run es (start z)).client
quiet_cut z es e k f on is = f.rest (off (run es (start z)) on (subst (λ v. loses_nothing (run es (start z)) v ≡ true) is f.kept))
  where
    off : (w : World) → w.client.ready k ≡ true → loses_nothing w (Cut k) ≡ true → some_unsettled w.client w.client.taken ≡ false
    off w on l = both (w.client.ready k) (some_unsettled w.client w.client.taken) on l
      where
        both : (a b : Bool) → a ≡ true → not (a && b) ≡ true → b ≡ false
        both a b e f = grind arith

quiet_finish : (z : Settings) (es : List Event) (e : Event) (why : Why) → Known z es e → Finishing e why → Rest (run es (start z)).client
quiet_finish z es e why f d = f.rest (off (run es (start z)) (subst (λ v. loses_nothing (run es (start z)) v ≡ true) d.is f.kept))
  where
    off : (w : World) → loses_nothing w (Finish d.refusal) ≡ true → some_unsettled w.client w.client.taken ≡ false
    off w l = both (some_unsettled w.client w.client.taken) l
      where
        both : (b : Bool) → not b ≡ true → b ≡ false
        both b f = grind arith

-- what is Ok or Refused behind the session's end, or where all is given up, was so
ended_firm : (c : Client) (g : ℕ) (o : Outcome) → is_firm (outcome_after_end c g o) ≡ true → outcome_after_end c g o ≡ o
ended_firm c g Unsettled f = absent (is_firm Unsettled) _ ((left_firm c g Unsettled).0 f) refl
ended_firm c g (WasOk reply) f = refl
ended_firm c g (WasRefused status) f = refl
ended_firm c g (NoSlot n) f = refl
ended_firm c g (NoOpen n) f = refl
ended_firm c g (Unknown why) f = refl

finished_firm : (why : Why) (o : Outcome) → is_firm (outcome_after_finish why o) ≡ true → outcome_after_finish why o ≡ o
finished_firm why Unsettled f = absurd (cc)
finished_firm why (WasOk reply) f = refl
finished_firm why (WasRefused status) f = refl
finished_firm why (NoSlot n) f = refl
finished_firm why (NoOpen n) f = refl
finished_firm why (Unknown u) f = refl

ended_along : (z : Settings) (es : List Event) (e : Event) → Along z es e (run es (start z)).client
    → Along z es e (end_session (run es (start z)).client)
ended_along z es e h =
    let c = (run es (start z)).client in
    record {
      found = λ g f. let same = ended_firm c g (c.outcome g) f in
          subst (λ u. OperationAnswered z (es ++ e ∷ []) g (c.op g) (c.settled_by g) u) (sym same)
          (h.found g (ap is_firm (sym same) ∙ f));
    }

finished_along : (z : Settings) (es : List Event) (e : Event) (why : Why) → Along z es e (run es (start z)).client
    → Along z es e (finish (run es (start z)).client why)
finished_along z es e why h =
    let c = (run es (start z)).client in
    record {
      found = λ g. either (λ u. is_firm u ≡ true → OperationAnswered z (es ++ e ∷ []) g (c.op g) (c.settled_by g) u)
          (is_taken c g) (outcome_after_finish why (c.outcome g)) (c.outcome g)
          (λ _ f. let same = finished_firm why (c.outcome g) f in
          subst (λ u. OperationAnswered z (es ++ e ∷ []) g (c.op g) (c.settled_by g) u) (sym same)
          (h.found g (ap is_firm (sym same) ∙ f))) (λ _ f. h.found g f);
    }

no_end : (z : Settings) (es : List Event) (e : Event) (g : ℕ) (P : Type 0) → Known z es e → Ending (run es (start z)) e g → P
no_end z es e g P f d =
    let w = run es (start z) in
    absurd ((f.here.told d.channel 0 d.reply (front_down (w.conns d.channel).down d.reply d.rest d.is)).0
    (ap is_ops d.token ∙ op_token d.asking g) (heard_ends w.client g d.asking d.reply.reply d.heard_as))

along_small : (z : Settings) (es : List Event) (e : Event) → Known z es e → Along z es e (run es (start z)).client
    → Small (Along z es e) (run es (start z)) e
along_small z es e f h =
    let c = (run es (start z)).client in
    record {
      opens = λ k. same_columns z es e c _ refl refl h;
      slotless = λ d k g l _ i. record { found = put_weak z es e d g (NoSlot (create_for d g)) refl i };
      begins_op = λ d k g i m _ j. begun_along z es e d k g i j;
      asks = λ d k g m _ i. same_columns z es e d _ refl refl i;
      settles = λ k g asking r place o on firm t. settles_along z es e k g asking r place o f t h;
      answers = λ g. same_columns z es e c _ refl refl h;
      joins = λ k g on. same_columns z es e c _ refl refl h;
      ends = λ g d. no_end z es e g _ f d;
      cut_ends = λ k on is. ended_along z es e h;
      cuts = λ k on more is. same_columns z es e c _ refl refl h;
      goes = λ k te s y rest is token d. same_columns z es e c _ refl refl h;
      accepts = λ k r d. same_columns z es e c _ refl refl h;
      binds = λ k talks o live. same_columns z es e c _ refl refl h;
      begins = λ k tree at o dead. same_columns z es e c _ refl refl h;
      leaves = λ k rs. same_columns z es e c _ refl refl h;
      finishes = λ why d. finished_along z es e why h;
    }

takes_along : (z : Settings) (es : List Event) (e : Event) → Along z es e (run es (start z)).client
    → Takes (Along z es e) (run es (start z)) e
takes_along z es e h g op is m = let c = (run es (start z)).client in record {
  found = put_weak z es e c g (outcome_at_first c g op) (first_weak c g op) h;
}

-- ---- the operations are the same ones

taken_same : (c : Client) (g : ℕ) (op : Op) (p : ℕ) → is_firm ((take_op c g op).outcome p) ≡ true → (take_op c g op).op p ≡ c.op p
taken_same c g op p f =
    elim (p == g) as (λ b. is_firm (if b then outcome_at_first c g op else c.outcome p) ≡ true → (if b then op else c.op p) ≡ c.op p) [
      | true ↦ λ q. absent (is_firm (outcome_at_first c g op)) _ q (first_weak c g op)
      | false ↦ λ q. refl
    ] f

same_op : (w : World) (e : Event) (g : ℕ) → is_firm ((happens w e).client.outcome g) ≡ true → (happens w e).client.op g ≡ w.client.op g
same_op w (Submit p op) g = either (λ (c : Client). is_firm (c.outcome g) ≡ true → c.op g ≡ w.client.op g)
    (may_take w.client p op) (take_op w.client p op) w.client (λ _ f. taken_same w.client p op g f) (λ _ f. refl)
same_op w (Open k) g = λ f. ap (λ u. u g) (taken_on w (Open k) refl).op
same_op w (Push k slotless pick) g = λ f. ap (λ u. u g) (taken_on w (Push k slotless pick) refl).op
same_op w (Serve k) g = λ f. ap (λ u. u g) (taken_on w (Serve k) refl).op
same_op w (Take k) g = λ f. ap (λ u. u g) (taken_on w (Take k) refl).op
same_op w (Cut k) g = λ f. ap (λ u. u g) (taken_on w (Cut k) refl).op
same_op w (Drop k) g = λ f. ap (λ u. u g) (taken_on w (Drop k) refl).op
same_op w Restart g = λ f. ap (λ u. u g) (taken_on w Restart refl).op
same_op w (Crash k kept) g = λ f. ap (λ u. u g) (taken_on w (Crash k kept) refl).op
same_op w (Wait n) g = λ f. ap (λ u. u g) (taken_on w (Wait n) refl).op
same_op w (Finish refusal) g = λ f. ap (λ u. u g) (taken_on w (Finish refusal) refl).op

-- ---- every run without losses

kept_front : (es : List Event) (e : Event) (w : World) → without_losses (es ++ e ∷ []) w ≡ true → without_losses es w
    ≡ true × loses_nothing (run es w) e ≡ true
unfolding without_losses run
kept_front [] e w l = (refl, front_of (loses_nothing w e) true l)
kept_front (x ∷ xs) e w l = let h = kept_front xs e (happens w x) (back_of (loses_nothing w x) _ l) in
    (both (loses_nothing w x) (without_losses xs (happens w x)) (front_of (loses_nothing w x) _ l) h.0, h.1)
  where
    both : (a b : Bool) → a ≡ true → b ≡ true → (a && b) ≡ true
    both a b e f = grind arith

abbrev AnsweredAll : Settings → List Event → Type 0
AnsweredAll z es = without_losses es (start z) ≡ true → (g : ℕ) → is_firm ((run es (start z)).client.outcome g) ≡ true
    → OperationAnswered z es g ((run es (start z)).client.op g) ((run es (start z)).client.settled_by g)
    ((run es (start z)).client.outcome g)

one_more : (z : Settings) (es : List Event) (e : Event) → AnsweredAll z es → AnsweredAll z (es ++ e ∷ [])
one_more z es e i l g f =
    let w = run es (start z) in let k = kept_front es e (start z) l in
    let base : Along z es e w.client = record {
      found = λ p q. later_answered z es e p (w.client.op p) (w.client.settled_by p) (w.client.outcome p)
          (i k.0 p q);
    } in
    let known : Known z es e = record {
      here = unlost_at z (session_found z) es k.0;
      made = made z es;
      kept = k.1;
      rest = rest_of w _ (connections z es);
    } in
    let behind : Along z es e (happens w e).client = client_keeps (Along z es e) w e (takes_along z es e base)
    (along_small z es e known base) base in
    subst (λ (v : World). is_firm (v.client.outcome g) ≡ true → OperationAnswered z (es ++ e ∷ []) g (v.client.op g)
    (v.client.settled_by g) (v.client.outcome g)) (sym (run_more es e (start z)))
    (λ q. subst (λ op. OperationAnswered z (es ++ e ∷ []) g op ((happens w e).client.settled_by g)
    ((happens w e).client.outcome g)) (sym (same_op w e g q)) (behind.found g q)) f

none_answered : (z : Settings) → AnsweredAll z []
unfolding run
none_answered z l g f = absurd (cc)

pub answered_all : (z : Settings) (es : List Event) → AnsweredAll z es
answered_all z = every (AnsweredAll z) (none_answered z) (one_more z)

-- ---- and no outcome is unknown

record Clear (d : Client) : Type 0 where
  clear : (g : ℕ) → is_known (d.outcome g) ≡ true

put_clear : (c : Client) (h : ℕ) (o : Outcome) → is_known o ≡ true → Clear c → (g : ℕ) → is_known (put c.outcome h o g) ≡ true
put_clear c h o n i g = either (λ u. is_known u ≡ true) (g == h) o (c.outcome g) (λ _. n) (λ _. i.clear g)

same_clear : (c d : Client) → d.outcome ≡ c.outcome → Clear c → Clear d
same_clear c d o h = record { clear = λ g. subst (λ u. is_known (u g) ≡ true) (sym o) (h.clear g) }

first_clear : (c : Client) (g : ℕ) (op : Op) → is_known (outcome_at_first c g op) ≡ true
first_clear c g op =
    let P : Outcome → Type 0 = λ r. is_known r ≡ true in
    either P (is_create op) Unsettled _ (λ _. refl) (λ _. either P (is_gone c (create_of g op))
    (NoOpen (create_of g op)) Unsettled (λ _. refl) (λ _. refl))

begun_clear : (c : Client) (k g i : ℕ) → Clear c → Clear (outstanding (begun c g i) k g)
begun_clear c k g i h =
    let P : Client → Type 0 = λ d. Clear (outstanding d k g) in
    either P (c.sent g) (again c g) (begin c g i)
    (λ _. either P (is_lock (c.op g)) (record c {
      retried = put2 c.retried (create_for c g) (c.slot_of g) c.session_number;
    }) c (λ _. same_clear c _ refl h)
    (λ _. same_clear c _ refl h))
    (λ _. either P (is_lock (c.op g)) (record (take_slot c g i) { sent = put c.sent g true }) (record c {
      sent = put c.sent g true;
    }) (λ _. same_clear c _ refl h) (λ _. same_clear c _ refl h))

given_clear : (a b c : Bool) (create : ℕ) (o : Outcome) → is_known o ≡ true → is_known (without_open a b c create o) ≡ true
given_clear a b c create Unsettled h = either (λ r. is_known r ≡ true) (a && (not b && c)) (NoOpen create) Unsettled (λ _. refl) (λ _. refl)
given_clear a b c create (WasOk reply) h = h
given_clear a b c create (WasRefused status) h = h
given_clear a b c create (NoSlot n) h = h
given_clear a b c create (NoOpen n) h = h
given_clear a b c create (Unknown why) h = h

settle_clear : (c : Client) (g : ℕ) (asking : Bool) (r : Reply) (place : ℕ) (o : Outcome) → is_known o ≡ true → Clear c
    → Clear (settle c g asking r place o)
settle_clear c g asking r place o n h =
    let m = noted c g o r.body in let f = noted_full m g asking r.status in let d = settled f g o place in
    let same : f.outcome ≡ c.outcome = (full_alike m g asking r.status).outcome ∙ (noted_alike c g o r.body).outcome in
    let i : Clear d = record { clear = put_clear f g o n (same_clear c f same h) } in
    either Clear (settles_open (c.op g)) (with_no_opens d (create_for c g)) d
    (λ _. record {
      clear = λ x. given_clear ((create_for d x == create_for c g) && not (is_create (d.op x))) (d.sent x)
          (is_gone_after d (create_for c g) (d.outcome (create_for c g))) (create_for c g) (d.outcome x) (i.clear x);
    })
    (λ _. i)

read_clear : (o : Outcome) (u : Option OpReply) → is_some u ≡ true → ok_or_unknown u ≡ Settles o → is_known o ≡ true
read_clear o (Some reply) s e = subst (λ x. is_known x ≡ true) (same_settled (WasOk reply) o e) refl
read_clear o None s e = absurd (cc)

-- what a reply comes to, where a success reads and no copy is unanswered
heard_clear : (c : Client) (g : ℕ) (asking : Bool) (r : Reply) (o : Outcome) → c.unanswered g ≡ false
    → (asking ≡ false → r.status ≡ success → is_some (value_in (c.op g) r.body) ≡ true) → heard c g asking r ≡ Settles o
    → is_known o ≡ true
heard_clear c g asking r o b reads =
    let P : Hearing → Type 0 = λ h. h ≡ Settles o → is_known o ≡ true in
    either P (r.status == user_session_deleted) _ _ (λ _ e. absurd (cc))
    (λ _. either P (r.status == success) (if asking then Attaches else ok_or_unknown (value_in (c.op g) r.body)) _
    (λ s. either P asking Attaches _ (λ _ e. absurd (cc)) (λ own e. read_clear o (value_in (c.op g) r.body)
    (reads own (eqb-true r.status success s)) e))
    (λ s. either P (goes_again c g asking r.status) GoesAgain _ (λ _ e. absurd (cc))
    (λ _ e. subst (λ x. is_known x ≡ true)
    (same_settled (WasRefused r.status) o (ap (λ x. refused (c.op g) asking x r.status) (sym b) ∙ e)) refl)))

settles_clear : (z : Settings) (es : List Event) (e : Event) (k g : ℕ) (asking : Bool) (r : Reply) (place : ℕ)
    (o : Outcome) → Known z es e → Took (run es (start z)) e k g asking r place o → Clear (run es (start z)).client
    → Clear (settle (run es (start z)).client g asking r place o)
settles_clear z es e k g asking r place o f t h =
    let w = run es (start z) in
    settle_clear w.client g asking r place o
    (heard_clear w.client g asking r o (f.here.client g).0
    (λ own s. subst (λ q. is_some (value_in (w.client.op g) q.body) ≡ true) t.says
    (reading z es k 0 t.reply (front_down (w.conns k).down t.reply t.rest t.is) g
    (t.token ∙ ap (λ b. if b then ForAttach g else ForOp g) own) (ap (λ q. q.status) t.says ∙ s))) t.heard_as) h

-- an operation that never went out has a known outcome behind the session's end
unsent_clear : (c : Client) (g : ℕ) (o : Outcome) → c.sent g ≡ false → is_known o ≡ true → is_known (outcome_after_end c g o) ≡ true
unsent_clear c g Unsettled s t =
    let P : Outcome → Type 0 = λ r. is_known r ≡ true in
    either P (persists (c.op (create_for c g))) Unsettled (plain_after_end c g (create_for c g)) (λ _. refl)
    (λ _. either P (c.sent g) (Unknown (SessionLost c.session_number)) (if is_create (c.op g) then Unsettled else
    unsent_after_end (create_for c g) (c.sent (create_for c g)) (c.outcome (create_for c g)))
    (λ y. absent (c.sent g) _ y s)
    (λ _. either P (is_create (c.op g)) Unsettled (unsent_after_end (create_for c g) (c.sent (create_for c g))
    (c.outcome (create_for c g))) (λ _. refl) (λ _. lost (c.outcome (create_for c g)))))
  where
    lost : (o : Outcome) → is_known (unsent_after_end (create_for c g) (c.sent (create_for c g)) o) ≡ true
    lost Unsettled = either (λ r. is_known r ≡ true) (c.sent (create_for c g)) (NoOpen (create_for c g)) Unsettled (λ _. refl) (λ _. refl)
    lost (WasOk reply) = refl
    lost (WasRefused status) = refl
    lost (NoSlot n) = refl
    lost (NoOpen n) = refl
    lost (Unknown why) = refl
unsent_clear c g (WasOk reply) s t = t
unsent_clear c g (WasRefused status) s t = t
unsent_clear c g (NoSlot n) s t = t
unsent_clear c g (NoOpen n) s t = t
unsent_clear c g (Unknown why) s t = t

-- where nothing is unsettled, the session's end and giving up leave no outcome unknown
ended_clear : (c : Client) → Rest c → Clear c → Clear (end_session c)
ended_clear c r h = record { clear = λ g. by g (is_unsettled (c.outcome g)) refl }
  where
    by : (g : ℕ) (b : Bool) → is_unsettled (c.outcome g) ≡ b → is_known (outcome_after_end c g (c.outcome g)) ≡ true
    by g true e = unsent_clear c g (c.outcome g) (r.unsent g e) (h.clear g)
    by g false e = subst (λ o. is_known o ≡ true) (sym (settled_same c g (c.outcome g) e)) (h.clear g)

finished_clear : (c : Client) (why : Why) → Rest c → Clear c → Clear (finish c why)
finished_clear c why r h =
    record {
      clear = λ g. either (λ u. is_known u ≡ true) (is_taken c g) (outcome_after_finish why (c.outcome g))
          (c.outcome g) (λ t. subst (λ o. is_known o ≡ true) (sym (same (c.outcome g) (r.settled g t))) (h.clear g))
          (λ _. h.clear g);
    }
  where
    same : (o : Outcome) → is_unsettled o ≡ false → outcome_after_finish why o ≡ o
    same Unsettled e = absurd (cc)
    same (WasOk reply) e = refl
    same (WasRefused status) e = refl
    same (NoSlot n) e = refl
    same (NoOpen n) e = refl
    same (Unknown y) e = refl

clear_small : (z : Settings) (es : List Event) (e : Event) → Known z es e → Clear (run es (start z)).client
    → Small Clear (run es (start z)) e
clear_small z es e f h =
    let c = (run es (start z)).client in
    record {
      opens = λ k. same_clear c _ refl h;
      slotless = λ d k g l _ i. record { clear = put_clear d g (NoSlot (create_for d g)) refl i };
      begins_op = λ d k g i m _ j. begun_clear d k g i j;
      asks = λ d k g m _ i. same_clear d _ refl i;
      settles = λ k g asking r place o on firm t. settles_clear z es e k g asking r place o f t h;
      answers = λ g. same_clear c _ refl h;
      joins = λ k g on. same_clear c _ refl h;
      ends = λ g d. no_end z es e g _ f d;
      cut_ends = λ k on is. ended_clear c (quiet_cut z es e k f on is) h;
      cuts = λ k on more is. same_clear c _ refl h;
      goes = λ k te s y rest is token d. same_clear c _ refl h;
      accepts = λ k r d. same_clear c _ refl h;
      binds = λ k talks o live. same_clear c _ refl h;
      begins = λ k tree at o dead. same_clear c _ refl h;
      leaves = λ k rs. same_clear c _ refl h;
      finishes = λ why d. finished_clear c why (quiet_finish z es e why f d) h;
    }

abbrev ClearAll : Settings → List Event → Type 0
ClearAll z es = without_losses es (start z) ≡ true → Clear (run es (start z)).client

one_clear : (z : Settings) (es : List Event) (e : Event) → ClearAll z es → ClearAll z (es ++ e ∷ [])
one_clear z es e i l =
    let w = run es (start z) in let k = kept_front es e (start z) l in let h = i k.0 in
    let known : Known z es e = record {
      here = unlost_at z (session_found z) es k.0;
      made = made z es;
      kept = k.1;
      rest = rest_of w _ (connections z es);
    } in
    subst (λ (v : World). Clear v.client) (sym (run_more es e (start z)))
    (client_keeps Clear w e (λ g op is m. record {
      clear = put_clear w.client g (outcome_at_first w.client g op) (first_clear w.client g op) h;
    })
    (clear_small z es e known h) h)

none_clear : (z : Settings) → ClearAll z []
unfolding run
none_clear z l = record { clear = λ g. refl }

pub all_answered : AllAnswered
all_answered z es l g = ((every (ClearAll z) (none_clear z) (one_clear z) es l).clear g, answered_all z es l g)
