-- On a run on which nothing is lost and nothing given up, no operation's outcome is unknown for the loss of its session, a
-- refused dialog or a status that an unanswered copy leaves open.
use Rattle.std.proofs.lemmas.List.{append-nil, append_assoc}
use Rattle.std.proofs.Common.{◌≡◌, ◌≢◌, ℕ, ◌+◌, ◌<◌, ◌==◌, Bool, true, false, not, ◌&&◌, if◌then◌else◌, List, [], ◌∷◌}
use Rattle.std.proofs.Common.{◌++◌, ◌⊎◌, inl, inr, refl, arith, sym, subst, ◌∙◌, ap, eqb-true, Option, Some, None}
use Rattle.std.proofs.Common.{slice_get}
use Rattle.spec_exchange.specs.Table.{put, put2}
use Rattle.spec_exchange.specs.Status.{success, user_session_deleted, disk_full}
use Rattle.spec_exchange.specs.Order.{Log}
use Rattle.spec_exchange.specs.State.{Reply, Message, Accept, Body}
use Rattle.spec_exchange.specs.Step.{step}
use Rattle.spec_exchange.specs.Operations.{Op, OpReply, Outcome, Unsettled, WasOk, WasRefused, NoSlot, NoOpen, Unknown}
use Rattle.spec_exchange.specs.Operations.{Why, WithStatus, is_create, is_lock, is_close, is_firm, create_of, id_in}
use Rattle.spec_exchange.specs.Operations.{value_in}
use Rattle.spec_exchange.specs.Client.{Client, Stage, create_for, may_take, take_op, is_gone, is_gone_after}
use Rattle.spec_exchange.specs.Client.{outcome_at_first, may_push, goes_itself, has_its_slot, lacks_slot}
use Rattle.spec_exchange.specs.Client.{settle_no_slot, settle_no_slots, begin, again, begun, take_slot, outstanding}
use Rattle.spec_exchange.specs.Settling.{Heard as Hearing, Settles, GoesAgain, Attaches, EndsSession, heard, hear}
use Rattle.spec_exchange.specs.Settling.{is_awaited, settle, settled, noted, noted_full, settles_open, with_no_opens}
use Rattle.spec_exchange.specs.Settling.{without_open, ok_or_unknown, refused, goes_again}
use Rattle.spec_exchange.specs.Dialogs.{DialogStep, GoesOn, Accepts, Binds, Readies, Refuses, dialog_step}
use Rattle.spec_exchange.specs.ClientStep.{Pick, Act, Nothing, Sends, pick_after, pick_act, act_heard, some_unsettled, IsReady}
use Rattle.spec_exchange.specs.Network.{World, Event, Submit, Open, Push, Serve, Take, Cut, Drop, Restart, Crash, Wait}
use Rattle.spec_exchange.specs.Network.{Finish, Conn, Sent, Received, Token, ForDialog, ForOp, ForAttach, op_of}
use Rattle.spec_exchange.specs.Network.{happens, changed, later, may_open, may_serve, may_take_reply, fresh, client_off}
use Rattle.spec_exchange.specs.Network.{send_up, say_down, behind_front, pushed_by, first_push, answer, serve_front}
use Rattle.spec_exchange.specs.Network.{absorb_front, restarted, server_off, take_reply, took_by, dialog_took, op_took}
use Rattle.spec_exchange.specs.Network.{closed_by, with_client, behind_reply, dialog_ended, run, start, Settings}
use Rattle.law_sessions.proofs.messages.Lists.{get-push, front_down, waited_down}
use Rattle.law_sessions.proofs.messages.Run.{both_ways, ended_well}
use Rattle.law_sessions.proofs.messages.Reached.{run_more}
use Rattle.law_sessions.specs.messages.Connections.{Connections}
use Rattle.law_sessions.proofs.messages.Run.{connections}
use Rattle.law_answers.proofs.completeness.Rounds.{none_unsettled}
use Rattle.std.proofs.lemmas.Bool.Decides.{nat_tests}
use Rattle.spec_exchange.specs.Operations.{NoSession, SessionLost, is_unsettled, persists}
use Rattle.spec_exchange.specs.Client.{is_taken, end_session, cut_channel, ends_at_cut, outcome_after_end}
use Rattle.spec_exchange.specs.Client.{plain_after_end, unsent_after_end, before_after_end, before_after_cut, finish}
use Rattle.spec_exchange.specs.Client.{outcome_after_finish}
use Rattle.spec_exchange.specs.ClientStep.{Asks, CloseChannel, CloseChannels, AllSettled, act, client_after, IsCut}
use Rattle.spec_exchange.specs.Network.{cut_by}
use Rattle.std.proofs.Common.{◌≤◌, nat_lt, nat_le, is_some}
use Rattle.law_server.proofs.tables.Logic.{either, front_of, back_of}
use Rattle.law_sessions.specs.sessions.Sessions.{is_ops}
use Rattle.law_sessions.specs.sessions.Dialogs.{MessageAlone, ReplyAlone, IsLost, Channel, IsClosed, IsReady, IsInDialog, Channels}
use Rattle.law_sessions.proofs.sessions.DialogFacts.{dialogs as dialogs_known}
use Rattle.law_answers.specs.completeness.Completeness.{loses_nothing, without_losses}
use Rattle.law_answers.proofs.completeness.Facts.{StaysPresent}
use Rattle.law_answers.proofs.completeness.Events.{put_at, put_off}

-- ---- replies that wait

-- it doesn't end the session, and it stands in the log under its place
abbrev pub Told : ℕ → (ℕ → ℕ) → Received → Type 0
Told places who y = (is_ops y.token ≡ true → y.reply.status ≢ user_session_deleted) × y.place < places × who y.place ≡ op_of y.token

abbrev pub AllTold : ℕ → (ℕ → ℕ) → (ℕ → Conn) → Type 0
AllTold places who conns = (k n : ℕ) (y : Received) → slice_get (conns k).down n ≡ Some y → Told places who y

one_of : (P : Received → Type 0) (ys : List Received) (z : Received) (n : ℕ) (y : Received) → slice_get (ys ++ z ∷ []) n
    ≡ Some y → ((m : ℕ) → slice_get ys m ≡ Some y → P y) → P z → P y
one_of P ys z n y h old new = by (get-push ys z n).1
  where
    same : (z y : Received) → Some z ≡ Some y → z ≡ y
    same z y e = cc

    by : (slice_get (ys ++ z ∷ []) n ≡ slice_get ys n) ⊎ (slice_get (ys ++ z ∷ []) n ≡ Some z) → P y
    by (inl e) = old n (sym e ∙ h)
    by (inr e) = subst P (same z y (sym e ∙ h)) new

put_told : (places : ℕ) (who : ℕ → ℕ) (conns : ℕ → Conn) (k : ℕ) (d : Conn)
    → ((n : ℕ) (y : Received) → slice_get d.down n ≡ Some y → Told places who y) → AllTold places who conns
    → AllTold places who (put conns k d)
put_told places who conns k d here i j n y h =
    elim (j == k) as (λ b. slice_get (if b then d else conns j).down n ≡ Some y → Told places who y)
    [ true ↦ λ g. here n y g | false ↦ λ g. i j n y g ] h

none_told : (places : ℕ) (who : ℕ → ℕ) (n : ℕ) (y : Received) → slice_get [] n ≡ Some y → Told places who y
none_told places who n y h = absurd (grind arith)

shut_told : (places : ℕ) (who : ℕ → ℕ) (conns : ℕ → Conn) (k : ℕ) → AllTold places who conns
    → AllTold places who (put conns k (client_off (conns k)))
shut_told places who conns k i = put_told places who conns k (client_off (conns k)) (none_told places who) i

sent_told : (places : ℕ) (who : ℕ → ℕ) (conns : ℕ → Conn) (k n0 : ℕ) (t : Token) (m : Message)
    → AllTold places who conns → AllTold places who (put conns k (send_up (conns k) t m n0))
sent_told places who conns k n0 t m i = put_told places who conns k (send_up (conns k) t m n0) (λ n y. i k n y) i

-- ---- outcomes

-- a message of the operation was taken at the place whose reply settled it
pub record At (places : ℕ) (who : ℕ → ℕ) (settled_by : Option ℕ) (g : ℕ) : Type 0 where
  pub place : ℕ
  pub is : settled_by ≡ Some place
  pub low : place < places
  pub own : who place ≡ g

-- not unknown, but for a success whose body doesn't read as the operation's, of which this layer doesn't know that none comes
abbrev pub is_unread : Why → Bool
is_unread (WithStatus status) = status == success
is_unread _ = false

abbrev pub is_told : Outcome → Bool
is_told (Unknown why) = is_unread why
is_told _ = true

abbrev pub Unlost : ℕ → (ℕ → ℕ) → Client → Type 0
Unlost places who c = (g : ℕ) → c.unanswered g ≡ false × is_told (c.outcome g) ≡ true
    × (is_firm (c.outcome g) ≡ true → At places who (c.settled_by g) g)

put_outcome : (f : ℕ → Outcome) (g : ℕ) (o : Outcome) (x : ℕ) → is_told o ≡ true → is_told (f x) ≡ true → is_told (put f g o x) ≡ true
put_outcome f g o x a b = either (λ r. is_told r ≡ true) (x == g) o (f x) (λ _. a) (λ _. b)

put_weak : (f : ℕ → Outcome) (g : ℕ) (o : Outcome) (x : ℕ) (P : Type 0) → is_firm o ≡ false → (is_firm (f x) ≡ true → P)
    → is_firm (put f g o x) ≡ true → P
put_weak f g o x P n h = either (λ r. is_firm r ≡ true → P) (x == g) o (f x) (λ _ e. firm_not (is_firm o) e n) (λ _ e. h e)
  where
    firm_not : (b : Bool) → b ≡ true → b ≡ false → P
    firm_not b e f = absurd (cc)

first_told : (c : Client) (g : ℕ) (op : Op) → is_told (outcome_at_first c g op) ≡ true × is_firm (outcome_at_first c g op) ≡ false
first_told c g op =
    let P : Outcome → Type 0 = λ r. is_told r ≡ true × is_firm r ≡ false in
    either P (is_create op) Unsettled _ (λ _. (refl, refl)) (λ _. either P (is_gone c (create_of g op))
    (NoOpen (create_of g op)) Unsettled (λ _. (refl, refl)) (λ _. (refl, refl)))

takes_op : (places : ℕ) (who : ℕ → ℕ) (c : Client) (g : ℕ) (op : Op) → Unlost places who c → Unlost places who (take_op c g op)
takes_op places who c g op h x =
    let o = outcome_at_first c g op in let t = first_told c g op in (
      (h x).0,
      put_outcome c.outcome g o x t.0 (h x).1,
      put_weak c.outcome g o x (At places who (c.settled_by x) x) t.1 (h x).2,
    )

slotless : (places : ℕ) (who : ℕ → ℕ) (c : Client) (k : ℕ) (gs : List ℕ) → Unlost places who c → Unlost places who (settle_no_slots c k gs)
unfolding settle_no_slots
slotless places who c k [] h = h
slotless places who c k (g ∷ gs) h =
    let o = NoSlot (create_for c g) in
    slotless places who (settle_no_slot c k g) k gs
    (either (Unlost places who) (lacks_slot c k g) (record c { outcome = put c.outcome g o }) c
    (λ _ x. (
      (h x).0,
      put_outcome c.outcome g o x refl (h x).1,
      put_weak c.outcome g o x (At places who (c.settled_by x) x) refl (h x).2,
    )) (λ _. h))

begins : (places : ℕ) (who : ℕ → ℕ) (c : Client) (k g i : ℕ) → Unlost places who c → Unlost places who (outstanding (begun c g i) k g)
begins places who c k g i h =
    let P : Client → Type 0 = λ d. Unlost places who (outstanding d k g) in
    either P (c.sent g) (again c g) (begin c g i)
    (λ _. either P (is_lock (c.op g)) (record c {
      retried = put2 c.retried (create_for c g) (c.slot_of g) c.session_number;
    }) c (λ _. h) (λ _. h))
    (λ _. either P (is_lock (c.op g)) (record (take_slot c g i) { sent = put c.sent g true }) (record c {
      sent = put c.sent g true;
    }) (λ _. h) (λ _. h))

noted_same : (places : ℕ) (who : ℕ → ℕ) (c : Client) (g : ℕ) (o : Outcome) (body : Body) → Unlost places who c
    → Unlost places who (noted c g o body)
noted_same places who c g (WasOk reply) body h =
    let P : Client → Type 0 = Unlost places who in
    either P (is_create (c.op g)) (record c {
      file = put c.file g (id_in body);
      attached = put c.attached g c.session_number;
    }) (if is_close (c.op g) then record c {
      closed_ok = put c.closed_ok (create_for c g) true;
    } else c) (λ _. h)
    (λ _. either P (is_close (c.op g)) (record c { closed_ok = put c.closed_ok (create_for c g) true }) c (λ _. h) (λ _. h))
noted_same places who c g Unsettled body h = h
noted_same places who c g (WasRefused status) body h = h
noted_same places who c g (NoSlot create) body h = h
noted_same places who c g (NoOpen create) body h = h
noted_same places who c g (Unknown why) body h = h

full_same : (places : ℕ) (who : ℕ → ℕ) (c : Client) (g : ℕ) (asking : Bool) (status : ℕ) → Unlost places who c
    → Unlost places who (noted_full c g asking status)
full_same places who c g asking status h =
    either (Unlost places who) (is_lock (c.op g) && (not asking && (status == disk_full))) (record c {
      full = put2 c.full (create_for c g) (c.slot_of g) true;
    }) c (λ _. h) (λ _. h)

given_up : (a b c : Bool) (create : ℕ) (o : Outcome) → is_told o ≡ true → is_told (without_open a b c create o) ≡ true
given_up a b c create Unsettled h = either (λ r. is_told r ≡ true) (a && (not b && c)) (NoOpen create) Unsettled (λ _. refl) (λ _. refl)
given_up a b c create (WasOk reply) h = h
given_up a b c create (WasRefused status) h = h
given_up a b c create (NoSlot n) h = h
given_up a b c create (NoOpen n) h = h
given_up a b c create (Unknown why) h = h

still_firm : (a b c : Bool) (create : ℕ) (o : Outcome) → is_firm (without_open a b c create o) ≡ true → is_firm o ≡ true
still_firm a b c create Unsettled = either (λ r. is_firm r ≡ true → false ≡ true) (a && (not b && c)) (NoOpen create)
    Unsettled (λ _ e. e) (λ _ e. e)
still_firm a b c create (WasOk reply) = λ e. e
still_firm a b c create (WasRefused status) = λ e. e
still_firm a b c create (NoSlot n) = λ e. e
still_firm a b c create (NoOpen n) = λ e. e
still_firm a b c create (Unknown why) = λ e. e

settled_at : (places : ℕ) (who : ℕ → ℕ) (c : Client) (g place : ℕ) (o : Outcome) → is_told o ≡ true → place < places
    → who place ≡ g → Unlost places who c → Unlost places who (settled c g o place)
settled_at places who c g place o t low own h x = (
  (h x).0,
  put_outcome c.outcome g o x t (h x).1,
  elim (x == g) as (λ b. x == g ≡ b → is_firm (if b then o else c.outcome x) ≡ true
      → At places who (if b then Some place else c.settled_by x) x) [
        | true ↦ λ q e. record { place = place; is = refl; low = low; own = own ∙ sym (eqb-true x g q) }
        | false ↦ λ q e. (h x).2 e
      ] refl,
)

settles : (places : ℕ) (who : ℕ → ℕ) (c : Client) (g : ℕ) (asking : Bool) (r : Reply) (place : ℕ) (o : Outcome)
    → is_told o ≡ true → place < places → who place ≡ g → Unlost places who c
    → Unlost places who (settle c g asking r place o)
settles places who c g asking r place o t low own h =
    let n = noted c g o r.body in let f = noted_full n g asking r.status in let d = settled f g o place in
    let i : Unlost places who f = full_same places who n g asking r.status (noted_same places who c g o r.body h) in
    let j : Unlost places who d = settled_at places who f g place o t low own i in
    either (Unlost places who) (settles_open (c.op g)) (with_no_opens d (create_for c g)) d
    (λ _ x. let a = (create_for d x == create_for c g) && not (is_create (d.op x)) in
    let z = is_gone_after d (create_for c g) (d.outcome (create_for c g)) in (
      (j x).0,
      given_up a (d.sent x) z (create_for c g) (d.outcome x) (j x).1,
      λ e.
          (j x).2 (still_firm a (d.sent x) z (create_for c g) (d.outcome x) e),
    )) (λ _. j)

-- ---- what a reply comes to

ok_told : (u : Option OpReply) (o : Outcome) → ok_or_unknown u ≡ Settles o → is_told o ≡ true
ok_told None o e = grind arith
ok_told (Some reply) o e = grind arith

refused_told : (op : Op) (asking : Bool) (status : ℕ) (o : Outcome) → refused op asking false status ≡ Settles o → is_told o ≡ true
refused_told op asking status o e = subst (λ r. is_told r ≡ true) (same e) refl
  where
    same : Settles (WasRefused status) ≡ Settles o → WasRefused status ≡ o
    same e = cc

heard_told : (c : Client) (g : ℕ) (asking : Bool) (r : Reply) (o : Outcome) → c.unanswered g ≡ false
    → heard c g asking r ≡ Settles o → is_told o ≡ true
heard_told c g asking r o b =
    let P : Hearing → Type 0 = λ h. h ≡ Settles o → is_told o ≡ true in
    either P (r.status == user_session_deleted) _ _ (λ _ e. absurd (cc))
    (λ _. either P (r.status == success) (if asking then Attaches else ok_or_unknown (value_in (c.op g) r.body)) _
    (λ _. either P asking Attaches _ (λ _ e. absurd (cc)) (λ _ e. ok_told (value_in (c.op g) r.body) o e))
    (λ _. either P (goes_again c g asking r.status) GoesAgain _ (λ _ e. absurd (cc))
    (λ _ e. refused_told (c.op g) asking r.status o (ap (λ x. refused (c.op g) asking x r.status) (sym b) ∙ e))))

pub heard_ends : (c : Client) (g : ℕ) (asking : Bool) (r : Reply) → heard c g asking r ≡ EndsSession → r.status ≡ user_session_deleted
heard_ends c g asking r =
    let P : Hearing → Type 0 = λ h. h ≡ EndsSession → r.status ≡ user_session_deleted in
    either P (r.status == user_session_deleted) _ _ (λ t e. eqb-true r.status user_session_deleted t)
    (λ _. either P (r.status == success) (if asking then Attaches else ok_or_unknown (value_in (c.op g) r.body)) _
    (λ _. either P asking Attaches _ (λ _ e. absurd (cc)) (λ _ e. absurd (ok (value_in (c.op g) r.body) e)))
    (λ _. either P (goes_again c g asking r.status) GoesAgain _ (λ _ e. absurd (cc))
    (λ _ e. absurd (no (c.op g) asking (c.unanswered g) r.status e))))
  where
    ok : (u : Option OpReply) → ok_or_unknown u ≡ EndsSession → ⊥
    ok None e = absurd (cc)
    ok (Some reply) e = absurd (cc)

    no : (op : Op) (asking b : Bool) (status : ℕ) → refused op asking b status ≡ EndsSession → ⊥
    no op asking b status e = absurd (grind arith)

-- ---- by event

pub record Here (w : World) : Type 0 where
  pub client : Unlost w.log.places w.log.who w.client
  pub told : AllTold w.log.places w.log.who w.conns

with_moment : (w : World) (n : ℕ) → Here w → Here (later w n)
with_moment w n h = record { client = h.client; told = h.told }

-- the log's places are the same
logged_alike : (w v : World) → v.log.places ≡ w.log.places → v.log.who ≡ w.log.who → Unlost w.log.places w.log.who
    v.client → AllTold w.log.places w.log.who v.conns → Here v
logged_alike w v places who h t =
    record {
      client = subst (λ p. Unlost p v.log.who v.client) (sym places) (subst (λ f. Unlost w.log.places f v.client) (sym who) h);
      told = subst (λ p. AllTold p v.log.who v.conns) (sym places) (subst (λ f. AllTold w.log.places f v.conns) (sym who) t);
    }

first_same : (w : World) (g : ℕ) → (first_push w g).places ≡ w.log.places × (first_push w g).who ≡ w.log.who
first_same w g = either (λ (l : Log). l.places ≡ w.log.places × l.who ≡ w.log.who) (w.client.sent g) w.log _
    (λ _. (refl, refl)) (λ _. (refl, refl))

sends_op : (w : World) (k g i : ℕ) (c : Client) → Unlost w.log.places w.log.who c → AllTold w.log.places w.log.who
    w.conns → Here (pushed_by w k (pick_after c k (Some (record { op = g; slot = i })))
    (pick_act c k (Some (record { op = g; slot = i }))))
sends_op w k g i c h t =
    let P : Client → Act → Type 0 = λ d x. Here (pushed_by w k d x) in let p = w.log.places in let f = w.log.who in
    let e = first_same w g in
    both_ways P (may_push c k g) _ _ _ _
    (λ _. both_ways P (goes_itself c g) _ _ _ _
    (λ _. both_ways P (has_its_slot c g i) _ _ _ _
    (λ _. logged_alike w (pushed_by w k (outstanding (begun c g i) k g) (Sends g)) e.0 e.1 (begins p f c k g i h)
    (sent_told p f w.conns k _ (ForOp g) _ t)) (λ _. record { client = h; told = t }))
    (λ _. record { client = h; told = sent_told p f w.conns k _ (ForAttach g) _ t }))
    (λ _. record { client = h; told = t })

picks : (w : World) (k : ℕ) (c : Client) (pick : Option Pick) → Unlost w.log.places w.log.who c
    → AllTold w.log.places w.log.who w.conns → Here (pushed_by w k (pick_after c k pick) (pick_act c k pick))
picks w k c None h t = either (λ x. Here (pushed_by w k c x)) (some_unsettled c c.taken) _ _ (λ _. record {
  client = h;
  told = t;
}) (λ _. record { client = h; told = t })
picks w k c (Some p) h t = sends_op w k p.op p.slot c h t

absent : (b : Bool) (P : Type 0) → b ≡ true → b ≡ false → P
absent b P e f = absurd (cc)

pushes : (w : World) (k : ℕ) (gs : List ℕ) (pick : Option Pick) → w.client.ready k ≡ true → Here w → Here (changed w (Push k gs pick))
pushes w k gs pick on h =
    both_ways (λ d x. Here (pushed_by w k d x)) (w.client.ready k) _ _ _ _
    (λ _. picks w k (settle_no_slots w.client k gs) pick (slotless w.log.places w.log.who w.client k gs h.client)
    h.told) (λ off. absent (w.client.ready k) _ on off)

-- a message of an operation on an open connection is of a ready channel
front_ready : (r : Bool) (t : Stage) (conn : Conn) (x : Sent) (rest : List Sent) → Channel r t conn → conn.up ≡ x ∷ rest
    → conn.client_open ≡ true → x.token ≢ ForDialog → r ≡ true
front_ready r t conn x rest (IsClosed off apart shut none) is o n = absent conn.client_open _ o shut
front_ready r t conn x rest (IsReady on apart stands) is o n = on
front_ready r t conn x rest (IsInDialog off talks stands (MessageAlone y one none token)) is o n =
    absurd (n (ap (λ (z : Sent). z.token) (same conn.up y is one) ∙ token))
  where
    same : (xs : List Sent) (y : Sent) → xs ≡ x ∷ rest → xs ≡ y ∷ [] → x ≡ y
    same xs y e f = grind arith
front_ready r t conn x rest (IsInDialog off talks stands (ReplyAlone y none one token)) is o n = filled conn.up is none
  where
    filled : (xs : List Sent) → xs ≡ x ∷ rest → xs ≡ [] → r ≡ true
    filled xs e f = absurd (cc)
front_ready r t conn x rest (IsInDialog off talks stands (IsLost gone none empty)) is o n = filled conn.up is none
  where
    filled : (xs : List Sent) → xs ≡ x ∷ rest → xs ≡ [] → r ≡ true
    filled xs e f = absurd (cc)

-- one place more
more_at : (places : ℕ) (who : ℕ → ℕ) (n : ℕ) (u : Option ℕ) (g : ℕ) → At places who u g → At (places + 1) (put who places n) u g
more_at places who n u g h = record {
  place = h.place;
  is = h.is;
  low = above h.low;
  own = put_off who places n h.place (below h.low) ∙ h.own;
}
  where
    above : {a b : ℕ} → a < b → a < b + 1
    above l = omega (arith, l)

    below : {a b : ℕ} → a < b → a ≢ b
    below l e = absurd (omega (arith, l, e))

more_unlost : (places : ℕ) (who : ℕ → ℕ) (n : ℕ) (c : Client) → Unlost places who c → Unlost (places + 1) (put who places n) c
more_unlost places who n c h x = ((h x).0, (h x).1, λ e. more_at places who n (c.settled_by x) x ((h x).2 e))

more_told : (places : ℕ) (who : ℕ → ℕ) (n : ℕ) (y : Received) → Told places who y → Told (places + 1) (put who places n) y
more_told places who n y h = (h.0, above h.1, put_off who places n y.place (below h.1) ∙ h.2)
  where
    above : {a b : ℕ} → a < b → a < b + 1
    above l = omega (arith, l)

    below : {a b : ℕ} → a < b → a ≢ b
    below l e = absurd (omega (arith, l, e))

serves : (w : World) (k : ℕ) (xs : List Sent) → (w.conns k).up ≡ xs → ((x : Sent) (rest : List Sent) → (w.conns k).up
    ≡ x ∷ rest → (w.conns k).client_open ≡ true → is_ops x.token ≡ true → (answer w x).reply.status ≢
    user_session_deleted) → Here w → Here (serve_front w k xs)
serves w k [] is f h = h
serves w k (x ∷ rest) is f h =
    let g = put w.conns k (behind_front (w.conns k) rest) in let y : Received = record {
      token = x.token;
      reply = (answer w x).reply;
      place = w.log.places;
    } in
    let p = w.log.places + 1 in let who = put w.log.who w.log.places (op_of x.token) in
    let all : AllTold p who w.conns = λ j n z q. more_told w.log.places w.log.who (op_of x.token) z (h.told j n z q) in
    let i : AllTold p who g = put_told p who w.conns k (behind_front (w.conns k) rest) (λ n z. all k n z) all in
    record {
      client = more_unlost w.log.places w.log.who (op_of x.token) w.client h.client;
      told = put_told p who g k (say_down (g k) y)
          (either (λ (d : Conn). (n : ℕ) (z : Received) → slice_get d.down n ≡ Some z → Told p who z) (g k).client_open
          (record (g k) { down = (g k).down ++ y ∷ [] }) (g k)
          (λ o n z q. one_of (Told p who) (g k).down y n z q (λ m. i k m z) (
            λ ops. f x rest is (stands o) ops,
            next w.log.places,
            put_at w.log.who w.log.places (op_of x.token),
          )) (λ _ n z. i k n z)) i;
    }
  where
    stands : (put w.conns k (behind_front (w.conns k) rest) k).client_open ≡ true → (w.conns k).client_open ≡ true
    stands o = grind arith

    next : (n : ℕ) → n < n + 1
    next n = omega arith

hears : (w : World) (k g : ℕ) (asking : Bool) (r : Reply) (place : ℕ) → r.status ≢ user_session_deleted
    → place < w.log.places → w.log.who place ≡ g → Here w → (h : Hearing) → heard w.client g asking r ≡ h
    → Here (with_client (closed_by w k (act_heard h)) (hear w.client g asking r place h))
hears w k g asking r place n low own i (Settles o) e = record {
  client = settles w.log.places w.log.who w.client g asking r place o (heard_told w.client g asking r o (i.client g).0
      e) low own i.client;
  told = i.told;
}
hears w k g asking r place n low own i GoesAgain e = record { client = i.client; told = i.told }
hears w k g asking r place n low own i Attaches e = record { client = i.client; told = i.told }
hears w k g asking r place n low own i EndsSession e = absurd (n (heard_ends w.client g asking r e))

took : (w : World) (k g : ℕ) (asking : Bool) (r : Reply) (place : ℕ) → r.status ≢ user_session_deleted
    → place < w.log.places → w.log.who place ≡ g → Here w → Here (op_took w k g asking r place)
took w k g asking r place n low own i =
    both_ways (λ c x. Here (with_client (closed_by w k x) c)) (is_awaited w.client k g asking)
    (hear w.client g asking r place (heard w.client g asking r)) w.client (act_heard (heard w.client g asking r))
    Nothing
    (λ _. hears w k g asking r place n low own i (heard w.client g asking r) refl) (λ _. record { client = i.client; told = i.told })

ended : (w : World) (k session tree : ℕ) → Here w → Here (dialog_ended w k (IsReady k session tree))
ended w k session tree i =
    ended_well Here w k session tree (λ _. record { client = i.client; told = i.told }) (λ _ _. record {
      client = i.client;
      told = i.told;
    }) (record {
      client = i.client;
      told = shut_told w.log.places w.log.who w.conns k i.told;
    })

dialogs : (w : World) (k : ℕ) (r : Reply) (d : DialogStep) → Here w → Here (dialog_took w k r d)
dialogs w k r (GoesOn s) i = record { client = i.client; told = sent_told w.log.places w.log.who w.conns k 1 ForDialog _ i.told }
dialogs w k r Accepts i = record { client = i.client; told = sent_told w.log.places w.log.who w.conns k 1 ForDialog _ i.told }
dialogs w k r Binds i = ended w k w.client.session w.client.tree i
dialogs w k r Readies i = ended w k w.client.pending r.tree_id i
dialogs w k r (Refuses status) i = record { client = i.client; told = shut_told w.log.places w.log.who w.conns k i.told }

takes : (w : World) (k : ℕ) (ys : List Received) → (w.conns k).down ≡ ys → Here w → Here (take_reply w k ys)
takes w k [] is h = h
takes w k (y ∷ rest) is h = by y.token refl
  where
    behind : Here (behind_reply w k rest)
    behind = record { client = h.client; told = λ j n z q. let o = waited_down w.conns k y rest j n z is q in h.told j o.0 z o.1 }

    here : Told w.log.places w.log.who y
    here = h.told k 0 y (front_down (w.conns k).down y rest is)

    by : (t : Token) → y.token ≡ t → Here (took_by (behind_reply w k rest) k y.reply y.place t)
    by ForDialog e = dialogs (behind_reply w k rest) k y.reply (dialog_step (w.client.stage k) y.reply.status) behind
    by (ForOp g) e = took (behind_reply w k rest) k g false y.reply y.place (here.0 (ap is_ops e)) here.1 (here.2 ∙ ap op_of e) behind
    by (ForAttach g) e = took (behind_reply w k rest) k g true y.reply y.place (here.0 (ap is_ops e)) here.1 (here.2 ∙ ap op_of e) behind

absorbs : (w : World) (k : ℕ) (xs : List Sent) → Here w → Here (restarted (absorb_front w k xs))
absorbs w k [] h = record { client = h.client; told = h.told }
absorbs w k (x ∷ rest) h =
    let p = w.log.places + 1 in let who = put w.log.who w.log.places (op_of x.token) in
    let all : AllTold p who w.conns = λ j n z q. more_told w.log.places w.log.who (op_of x.token) z (h.told j n z q) in
    record {
      client = more_unlost w.log.places w.log.who (op_of x.token) w.client h.client;
      told = put_told p who w.conns k (behind_front (w.conns k) rest) (λ n z. all k n z) all;
    }

crashes : (w : World) (k : ℕ) (kept : Bool) → Here w → Here (changed w (Crash k kept))
crashes w k true h = absorbs w k (w.conns k).up h
crashes w k false h = record { client = h.client; told = h.told }

-- ---- nothing is unsettled: nothing is outstanding, and what isn't settled never went out

pub record Rest (c : Client) : Type 0 where
  pub none : (g : ℕ) → c.outstanding_on g ≡ None
  pub unsent : (g : ℕ) → is_unsettled (c.outcome g) ≡ true → c.sent g ≡ false
  pub settled : (g : ℕ) → is_taken c g ≡ true → is_unsettled (c.outcome g) ≡ false

off : (b : Bool) → not b ≡ true → b ≡ false
off b e = grind arith

off_by : (a b : Bool) → not (a && b) ≡ true → a ≡ true → b ≡ false
off_by a b e f = grind arith

-- an operation that never went out is unknown for nothing where the session ends
unsent_told : (c : Client) (g : ℕ) (o : Outcome) → c.sent g ≡ false → c.outcome g ≡ o → is_told o ≡ true
    → is_told (outcome_after_end c g o) ≡ true × (is_firm (outcome_after_end c g o) ≡ true → is_firm o ≡ true)
unsent_told c g Unsettled s e t =
    let P : Outcome → Type 0 = λ r. is_told r ≡ true × (is_firm r ≡ true → false ≡ true) in
    either P (persists (c.op (create_for c g))) Unsettled (plain_after_end c g (create_for c g)) (λ _. (refl, λ f. f))
    (λ _. either P (c.sent g) (Unknown (SessionLost c.session_number)) (if is_create (c.op g) then Unsettled else
    unsent_after_end (create_for c g) (c.sent (create_for c g)) (c.outcome (create_for c g)))
    (λ y. absent (c.sent g) _ y s)
    (λ _. either P (is_create (c.op g)) Unsettled (unsent_after_end (create_for c g) (c.sent (create_for c g))
    (c.outcome (create_for c g))) (λ _. (refl, λ f. f)) (λ _. lost (c.outcome (create_for c g)))))
  where
    lost : (o : Outcome) → is_told (unsent_after_end (create_for c g) (c.sent (create_for c g)) o) ≡ true
        × (is_firm (unsent_after_end (create_for c g) (c.sent (create_for c g)) o) ≡ true → false ≡ true)
    lost Unsettled = either (λ r. is_told r ≡ true × (is_firm r ≡ true → false ≡ true)) (c.sent (create_for c g))
        (NoOpen (create_for c g)) Unsettled (λ _. (refl, λ f. f)) (λ _. (refl, λ f. f))
    lost (WasOk reply) = (refl, λ f. f)
    lost (WasRefused status) = (refl, λ f. f)
    lost (NoSlot n) = (refl, λ f. f)
    lost (NoOpen n) = (refl, λ f. f)
    lost (Unknown why) = (refl, λ f. f)
unsent_told c g (WasOk reply) s e t = (t, λ f. f)
unsent_told c g (WasRefused status) s e t = (t, λ f. f)
unsent_told c g (NoSlot n) s e t = (t, λ f. f)
unsent_told c g (NoOpen n) s e t = (t, λ f. f)
unsent_told c g (Unknown why) s e t = (t, λ f. f)

-- one that is settled stays
pub settled_same : (c : Client) (g : ℕ) (o : Outcome) → is_unsettled o ≡ false → outcome_after_end c g o ≡ o
settled_same c g Unsettled e = absurd (cc)
settled_same c g (WasOk reply) e = refl
settled_same c g (WasRefused status) e = refl
settled_same c g (NoSlot n) e = refl
settled_same c g (NoOpen n) e = refl
settled_same c g (Unknown why) e = refl

ended_told : (c : Client) (g : ℕ) → Rest c → is_told (c.outcome g) ≡ true
    → is_told (outcome_after_end c g (c.outcome g)) ≡ true × (is_firm (outcome_after_end c g (c.outcome g)) ≡ true
    → is_firm (c.outcome g) ≡ true)
ended_told c g r t = by (is_unsettled (c.outcome g)) refl
  where
    by : (b : Bool) → is_unsettled (c.outcome g) ≡ b → is_told (outcome_after_end c g (c.outcome g)) ≡ true
        × (is_firm (outcome_after_end c g (c.outcome g)) ≡ true → is_firm (c.outcome g) ≡ true)
    by true e = unsent_told c g (c.outcome g) (r.unsent g e) refl t
    by false e = subst (λ o. is_told o ≡ true × (is_firm o ≡ true → is_firm (c.outcome g) ≡ true))
        (sym (settled_same c g (c.outcome g) e)) (t, λ f. f)

ended_rest : (places : ℕ) (who : ℕ → ℕ) (c : Client) → Rest c → Unlost places who c → Unlost places who (end_session c)
ended_rest places who c r h g =
    let t = ended_told c g r (h g).1 in
    (subst (λ o. before_after_end o (c.asks_attach g) (c.unanswered g) ≡ false) (sym (r.none g)) (h g).0, t.0, λ f. (h g).2 (t.1 f))

cut_rest : (places : ℕ) (who : ℕ → ℕ) (c : Client) (k : ℕ) → Rest c → Unlost places who c → Unlost places who (cut_channel c k)
cut_rest places who c k r h g = (
  subst (λ o. before_after_cut k o (c.asks_attach g) (c.unanswered g) ≡ false)
      (sym (r.none g)) (h g).0,
  (h g).1,
  (h g).2,
)

cut_told : (w : World) (k : ℕ) (x : Act) → AllTold w.log.places w.log.who w.conns → AllTold w.log.places w.log.who (cut_by w k x).conns
cut_told w k CloseChannels i = λ j n y g. none_told w.log.places w.log.who n y g
cut_told w k Nothing i = shut_told w.log.places w.log.who w.conns k i
cut_told w k (Sends g) i = shut_told w.log.places w.log.who w.conns k i
cut_told w k (Asks g) i = shut_told w.log.places w.log.who w.conns k i
cut_told w k CloseChannel i = shut_told w.log.places w.log.who w.conns k i
cut_told w k AllSettled i = shut_told w.log.places w.log.who w.conns k i

cut_log : (w : World) (k : ℕ) (x : Act) → (cut_by w k x).log ≡ w.log
cut_log w k CloseChannels = refl
cut_log w k Nothing = refl
cut_log w k (Sends g) = refl
cut_log w k (Asks g) = refl
cut_log w k CloseChannel = refl
cut_log w k AllSettled = refl

cuts : (w : World) (k : ℕ) → (some_unsettled w.client w.client.taken ≡ false → Rest w.client) → loses_nothing w (Cut k)
    ≡ true → Here w → Here (changed w (Cut k))
cuts w k q l h =
    either Here (w.client.ready k) _ _
    (λ on. let r = q (off_by (w.client.ready k) (some_unsettled w.client w.client.taken) l on) in let x = act w.client (IsCut k) in
    logged_alike w (with_client (cut_by w k x) (client_after w.client (IsCut k)))
    (ap (λ (g : Log). g.places) (cut_log w k x)) (ap (λ (g : Log). g.who) (cut_log w k x))
    (either (Unlost w.log.places w.log.who) (w.client.ready k) _ _
    (λ _. either (Unlost w.log.places w.log.who) (ends_at_cut w.client) (end_session w.client) (cut_channel w.client k)
    (λ _. ended_rest w.log.places w.log.who w.client r h.client) (λ _. cut_rest w.log.places w.log.who w.client k r
    h.client)) (λ _. h.client))
    (cut_told w k x h.told))
    (λ _. record { client = h.client; told = shut_told w.log.places w.log.who w.conns k h.told })

finished : (places : ℕ) (who : ℕ → ℕ) (c : Client) (why : Why) → Rest c → Unlost places who c → Unlost places who (finish c why)
finished places who c why r h g =
    let P : Outcome → Type 0 = λ o. is_told o ≡ true × (is_firm o ≡ true → At places who (c.settled_by g) g) in
    let t = either P (is_taken c g) (outcome_after_finish why (c.outcome g)) (c.outcome g)
    (λ y. subst P (sym (same (c.outcome g) (r.settled g y))) ((h g).1, (h g).2)) (λ _. ((h g).1, (h g).2)) in
    ((h g).0, t.0, t.1)
  where
    same : (o : Outcome) → is_unsettled o ≡ false → outcome_after_finish why o ≡ o
    same Unsettled e = absurd (cc)
    same (WasOk reply) e = refl
    same (WasRefused status) e = refl
    same (NoSlot n) e = refl
    same (NoOpen n) e = refl
    same (Unknown y) e = refl

pub unlost_on : (w : World) (e : Event) → ((k : ℕ) → may_serve w k ≡ true → (x : Sent) (rest : List Sent)
    → (w.conns k).up ≡ x ∷ rest → (w.conns k).client_open ≡ true → is_ops x.token ≡ true → (answer w x).reply.status ≢
    user_session_deleted) → (some_unsettled w.client w.client.taken ≡ false → Rest w.client) → loses_nothing w e ≡ true
    → Here w → Here (happens w e)
unlost_on w (Submit g op) f q l h = record {
  client = either (Unlost w.log.places w.log.who) (may_take w.client g op) (take_op w.client g op) w.client
      (λ _. takes_op w.log.places w.log.who w.client g op h.client) (λ _. h.client);
  told = h.told;
}
unlost_on w (Open k) f q l h =
    either Here (may_open w k) (later (changed w (Open k)) 1) w (λ _. record {
      client = h.client;
      told = put_told w.log.places w.log.who w.conns k
          (fresh w.client k ((step w.server w.moment (Accept k)).reply.status == success))
          (none_told w.log.places w.log.who) h.told;
    }) (λ _. h)
unlost_on w (Push k gs pick) f q l h = either Here (w.client.ready k) (later (changed w (Push k gs pick)) 1) w
    (λ on. with_moment (changed w (Push k gs pick)) 1 (pushes w k gs pick on h)) (λ _. h)
unlost_on w (Serve k) f q l h = either Here (may_serve w k) (later (serve_front w k (w.conns k).up) 1) w
    (λ m. with_moment (serve_front w k (w.conns k).up) 1 (serves w k (w.conns k).up refl (f k m) h)) (λ _. h)
unlost_on w (Take k) f q l h = either Here (may_take_reply w k) (later (changed w (Take k)) 1) w
    (λ _. with_moment (changed w (Take k)) 1 (takes w k (w.conns k).down refl h)) (λ _. h)
unlost_on w (Cut k) f q l h = either Here (w.conns k).client_open (later (changed w (Cut k)) 1) w
    (λ _. with_moment (changed w (Cut k)) 1 (cuts w k q l h)) (λ _. h)
unlost_on w (Drop k) f q l h =
    either Here (w.conns k).server_open (later (changed w (Drop k)) 1) w
    (λ _. record {
      client = h.client;
      told = put_told w.log.places w.log.who w.conns k (server_off (w.conns k)) (λ n y. h.told k n y) h.told;
    })
    (λ _. h)
unlost_on w Restart f q l h = record { client = h.client; told = h.told }
unlost_on w (Crash k kept) f q l h = either Here (may_serve w k) (later (changed w (Crash k kept)) 1) w
    (λ _. with_moment (changed w (Crash k kept)) 1 (crashes w k kept h)) (λ _. h)
unlost_on w (Wait n) f q l h = record { client = h.client; told = h.told }
unlost_on w (Finish refusal) f q l h =
    either Here (not w.client.live) (later (changed w (Finish refusal)) 1) w
    (λ _. with_moment (changed w (Finish refusal)) 1 (record {
      client = finished w.log.places w.log.who w.client (NoSession refusal)
          (q (off (some_unsettled w.client w.client.taken) l)) h.client;
      told = h.told;
    })) (λ _. h)

pub rest_of : (w : World) (a : ℕ → ℕ) → Connections w.client w.conns a → some_unsettled w.client w.client.taken ≡ false → Rest w.client
rest_of w a cn e =
    let all = none_unsettled w.client w.client.taken e in
    record {
      none = λ g. none g (w.client.outstanding_on g) refl;
      unsent = λ g u. unsent g u (w.client.sent g) refl;
      settled = λ g t. let p = taken_of g w.client.taken t in all g p.0 p.1;
    }
  where
    taken_of : (p taken : ℕ) → (nat_lt 0 p && nat_le p taken) ≡ true → 0 < p × p ≤ taken
    taken_of p taken e = (grind (arith, nat_tests), grind (arith, nat_tests))

    some : (o : Option ℕ) (k : ℕ) → o ≡ Some k → is_some o ≡ true
    some o k e = grind arith

    none : (g : ℕ) (o : Option ℕ) → w.client.outstanding_on g ≡ o → w.client.outstanding_on g ≡ None
    none g None q = q
    none g (Some k) q = let p = cn.taken_on g (some (w.client.outstanding_on g) k q) in
        cn.settled g (none_unsettled w.client w.client.taken e g p.0 p.1)

    unsent : (g : ℕ) → is_unsettled (w.client.outcome g) ≡ true → (b : Bool) → w.client.sent g ≡ b → w.client.sent g ≡ false
    unsent g u false s = s
    unsent g u true s = let p = cn.taken g s in absent (is_unsettled (w.client.outcome g)) _ u
        (none_unsettled w.client w.client.taken e g p.0 p.1)

answers_other : (w : World) → Channels w.client w.conns → StaysPresent w → (k : ℕ) → may_serve w k ≡ true
    → (x : Sent) (rest : List Sent) → (w.conns k).up ≡ x ∷ rest → (w.conns k).client_open ≡ true → is_ops x.token ≡ true
    → (answer w x).reply.status ≢ user_session_deleted
answers_other w channels present k m x rest is o ops =
    present k x rest (front_ready (w.client.ready k) (w.client.stage k) (w.conns k) x rest (channels k) is o
    (λ e. no_ops (ap is_ops e))) o (front_of (w.conns k).server_open _ m) is
  where
    no_ops : is_ops x.token ≡ false → ⊥
    no_ops e = absurd (cc)

-- ---- along a run

along : (z : Settings) (es before : List Event) → ((xs : List Event) → StaysPresent (run xs (start z)))
    → without_losses es (run before (start z)) ≡ true → Here (run before (start z))
    → Here (run (before ++ es) (start z))
unfolding without_losses
along z [] before present l h = subst (λ xs. Here (run xs (start z))) (sym (append-nil before)) h
along z (e ∷ es) before present l h =
    let w = run before (start z) in
    let i = unlost_on w e (answers_other w (dialogs_known z before).channels (present before))
    (rest_of w _ (connections z before)) (front_of (loses_nothing w e) _ l) h in
    subst (λ xs. Here (run xs (start z))) (append_assoc before (e ∷ []) es)
    (along z es (before ++ e ∷ []) present (subst (λ v. without_losses es v ≡ true) (sym (run_more before e (start z)))
    (back_of (loses_nothing w e) _ l)) (subst Here (sym (run_more before e (start z))) i))

first : (z : Settings) → Here (start z)
first z = record { client = λ g. (refl, refl, λ e. absurd (cc)); told = λ k n y h. none_told 0 (λ n. 0) n y h }

at_first : (z : Settings) → Here (run [] (start z))
unfolding run
at_first z = first z

-- what is known of each run on which nothing is lost
pub unlost_at : (z : Settings) → ((xs : List Event) → StaysPresent (run xs (start z))) → (es : List Event)
    → without_losses es (start z) ≡ true → Here (run es (start z))
unfolding run
unlost_at z present es l = along z es [] present l (at_first z)
