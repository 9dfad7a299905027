-- One operation goes out on a ready channel where nothing waits, is served and heard: it settles, or its open is attached.
use Rattle.std.proofs.lemmas.Bool.Decides.{nat_tests}
use Rattle.std.proofs.Common.{eqb-true, ◌≡◌, ◌≢◌, ℕ, ◌==◌, nat_lt, Bool, true, false, not, ◌&&◌, if◌then◌else◌, List}
use Rattle.std.proofs.Common.{[], ◌∷◌, ◌++◌, refl, arith, sym, subst, ◌∙◌, ap, Option, Some, None}
use Rattle.spec_exchange.specs.Table.{put, put2}
use Rattle.spec_exchange.specs.Status.{success, user_session_deleted, file_not_available}
use Rattle.spec_exchange.specs.State.{Reply}
use Rattle.spec_exchange.specs.Operations.{Op, OpReply, Outcome, Unsettled, WasOk, WasRefused, NoSlot, NoOpen, Unknown}
use Rattle.spec_exchange.specs.Operations.{WithStatus, IsDone, is_unsettled, is_create, is_lock, is_change, value_in}
use Rattle.spec_exchange.specs.Operations.{weight, charge}
use Rattle.spec_exchange.specs.Client.{Client, create_for, may_push, goes_itself, has_its_slot, settle_no_slots, begin}
use Rattle.spec_exchange.specs.Client.{again, begun, take_slot, outstanding, asked, own_message, ask_message}
use Rattle.spec_exchange.specs.Client.{is_gone_after}
use Rattle.spec_exchange.specs.Settling.{Heard as Hearing, Settles, GoesAgain, Attaches, EndsSession, heard, hear}
use Rattle.spec_exchange.specs.Settling.{is_awaited, settle, settled, noted, noted_full, settles_open, with_no_opens}
use Rattle.spec_exchange.specs.Settling.{without_open, ok_or_unknown, refused, was_closed, may_have_acted, refuses_all}
use Rattle.spec_exchange.specs.Settling.{goes_again}
use Rattle.spec_exchange.specs.ClientStep.{Pick, hear_after, some_unsettled, AllSettled, Act, Nothing, Sends, Asks}
use Rattle.spec_exchange.specs.ClientStep.{pick_after, pick_act, act_heard, push_act, op_after, op_act}
use Rattle.spec_exchange.specs.Network.{World, Push, Conn, Sent, ForOp, ForAttach, happens, changed, later, send_up}
use Rattle.spec_exchange.specs.Network.{pushed_by, transmitted, asked_for, op_took, closed_by, with_client}
use Rattle.law_server.proofs.tables.Logic.{either}
use Rattle.law_answers.proofs.completeness.Events.{if_on, if_off, put_at}

-- ---- the push

-- the operation itself or its DH2C is outstanding on the channel, its message at the end of the up list
pub record Out (c : Client) (w v : World) (k g : ℕ) (asking : Bool) (x : Sent) : Type 0 where
  pub up : (v.conns k).up ≡ (w.conns k).up ++ x ∷ []
  pub down : (v.conns k).down ≡ (w.conns k).down
  pub client_end : (v.conns k).client_open ≡ (w.conns k).client_open
  pub server_end : (v.conns k).server_open ≡ (w.conns k).server_open
  pub token : x.token ≡ (if asking then ForAttach g else ForOp g)
  pub outstanding_on : v.client.outstanding_on g ≡ Some k
  pub asks : v.client.asks_attach g ≡ asking
  pub sequence : asking ≡ false → v.client.sequence_of g ≡ v.client.sequence
  pub outcome : v.client.outcome ≡ c.outcome
  pub ready : v.client.ready ≡ c.ready

begun_same : (c : Client) (g i : ℕ) → (begun c g i).outcome ≡ c.outcome × (begun c g i).ready ≡ c.ready
begun_same c g i =
    let P : Client → Type 0 = λ d. d.outcome ≡ c.outcome × d.ready ≡ c.ready in
    either P (c.sent g) (again c g) (begin c g i)
    (λ _. either P (is_lock (c.op g)) (record c {
      retried = put2 c.retried (create_for c g) (c.slot_of g) c.session_number;
    }) c (λ _. (refl, refl))
    (λ _. (refl, refl)))
    (λ _. either P (is_lock (c.op g)) (record (take_slot c g i) { sent = put c.sent g true }) (record c {
      sent = put c.sent g true;
    }) (λ _. (refl, refl)) (λ _. (refl, refl)))

sent_up : (w : World) (k n : ℕ) (x : Sent) (d : Conn) → d ≡ send_up (w.conns k) x.token x.message n → d.up
    ≡ (w.conns k).up ++ x ∷ [] × d.down ≡ (w.conns k).down × d.client_open ≡ (w.conns k).client_open × d.server_open
    ≡ (w.conns k).server_open
sent_up w k n x d e = (ap (λ q. q.up) e, ap (λ q. q.down) e, ap (λ q. q.client_open) e, ap (λ q. q.server_open) e)

itself_out : (c : Client) (w : World) (k g i : ℕ) → (x : Sent)
    × Out c w (later (transmitted w k g (outstanding (begun c g i) k g)) 1) k g false x
itself_out c w k g i =
    let b = begun c g i in let d = outstanding b k g in let m = own_message d k (w.conns k).next_id g in let x : Sent =
    record { token = ForOp g; message = m } in let n = charge (weight (d.op g)) in
    let s = sent_up w k n x (put w.conns k (send_up (w.conns k) (ForOp g) m n) k)
    (put_at w.conns k (send_up (w.conns k) (ForOp g) m n)) in let q = begun_same c g i in (
      x,
      record {
        up = s.0;
        down = s.1;
        client_end = s.2;
        server_end = s.3;
        token = refl;
        outstanding_on = put_at b.outstanding_on g (Some k);
        asks = put_at b.asks_attach g false;
        sequence = λ _. put_at b.sequence_of g b.sequence;
        outcome = q.0;
        ready = q.1;
      },
    )

ask_out : (c : Client) (w : World) (k g : ℕ) → (x : Sent) × Out c w (later (asked_for w k g (asked c k g)) 1) k g true x
ask_out c w k g =
    let d = asked c k g in let m = ask_message d k (w.conns k).next_id g in let x : Sent = record { token = ForAttach g; message = m } in
    let s = sent_up w k 1 x (put w.conns k (send_up (w.conns k) (ForAttach g) m 1) k)
    (put_at w.conns k (send_up (w.conns k) (ForAttach g) m 1)) in (
      x,
      record {
        up = s.0;
        down = s.1;
        client_end = s.2;
        server_end = s.3;
        token = refl;
        outstanding_on = put_at c.outstanding_on g (Some k);
        asks = put_at c.asks_attach g true;
        sequence = λ e. absurd (cc);
        outcome = refl;
        ready = refl;
      },
    )

pushed_is : (w : World) (k : ℕ) (slotless : List ℕ) (pick : Option Pick) → w.client.ready k ≡ true
    → happens w (Push k slotless pick) ≡ later (pushed_by w k (pick_after (settle_no_slots w.client k slotless) k pick)
    (pick_act (settle_no_slots w.client k slotless) k pick)) 1
pushed_is w k slotless pick on =
    let c = settle_no_slots w.client k slotless in
    if_on (w.client.ready k) (later (changed w (Push k slotless pick)) 1) w on
    ∙ ap (λ d. later (pushed_by w k d (push_act w.client k slotless pick)) 1) (if_on (w.client.ready k) (pick_after c k pick) w.client on)
    ∙ ap (λ x. later (pushed_by w k (pick_after c k pick) x) 1) (if_on (w.client.ready k) (pick_act c k pick) _ on)

pub own_push : (w : World) (k g i : ℕ) (slotless : List ℕ) → w.client.ready k ≡ true
    → may_push (settle_no_slots w.client k slotless) k g ≡ true → goes_itself (settle_no_slots w.client k slotless) g
    ≡ true
    → has_its_slot (settle_no_slots w.client k slotless) g i ≡ true → (x : Sent)
    × Out (settle_no_slots w.client k slotless) w (happens w (Push k slotless (Some (record { op = g; slot = i }))))
    k g false x
own_push w k g i slotless on may itself slot =
    let c = settle_no_slots w.client k slotless in let p : Pick = record { op = g; slot = i } in
    let after : op_after c k g i ≡ outstanding (begun c g i) k g = if_on (may_push c k g) _ c may
    ∙ if_on (goes_itself c g) _ (asked c k g) itself ∙ if_on (has_its_slot c g i) (outstanding (begun c g i) k g) c
    slot in
    let acts : op_act c k g i ≡ Sends g = if_on (may_push c k g) _ Nothing may ∙ if_on (goes_itself c g) _ (Asks g)
    itself ∙ if_on (has_its_slot c g i) (Sends g) Nothing slot in
    subst (λ v. (x : Sent) × Out c w v k g false x)
    (sym (pushed_is w k slotless (Some p) on ∙ ap (λ d. later (pushed_by w k d (op_act c k g i)) 1) after
    ∙ ap (λ a. later (pushed_by w k (outstanding (begun c g i) k g) a) 1) acts)) (itself_out c w k g i)

pub ask_push : (w : World) (k g i : ℕ) (slotless : List ℕ) → w.client.ready k ≡ true
    → may_push (settle_no_slots w.client k slotless) k g ≡ true → goes_itself (settle_no_slots w.client k slotless) g
    ≡ false
    → (x : Sent) × Out (settle_no_slots w.client k slotless) w (happens w (Push k slotless (Some (record { op = g; slot = i })))) k g true x
ask_push w k g i slotless on may other =
    let c = settle_no_slots w.client k slotless in let p : Pick = record { op = g; slot = i } in
    let after : op_after c k g i ≡ asked c k g = if_on (may_push c k g) _ c may ∙ if_off (goes_itself c g) _ (asked c k g) other in
    let acts : op_act c k g i ≡ Asks g = if_on (may_push c k g) _ Nothing may ∙ if_off (goes_itself c g) _ (Asks g) other in
    subst (λ v. (x : Sent) × Out c w v k g true x)
    (sym (pushed_is w k slotless (Some p) on ∙ ap (λ d. later (pushed_by w k d (op_act c k g i)) 1) after
    ∙ ap (λ a. later (pushed_by w k (asked c k g) a) 1) acts)) (ask_out c w k g)

-- a push that sends nothing: the locks without a slot are settled
pub record Quiet (c : Client) (w v : World) : Type 0 where
  pub client : v.client ≡ c
  pub conns : v.conns ≡ w.conns

pub quiet_push : (w : World) (k : ℕ) (slotless : List ℕ) → w.client.ready k ≡ true
    → Quiet (settle_no_slots w.client k slotless) w (happens w (Push k slotless None))
quiet_push w k slotless on =
    let c = settle_no_slots w.client k slotless in
    subst (λ v. Quiet c w v) (sym (pushed_is w k slotless None on))
    (either (λ (x : Act). Quiet c w (later (pushed_by w k c x) 1)) (some_unsettled c c.taken) Nothing AllSettled
    (λ _. record { client = refl; conns = refl }) (λ _. record { client = refl; conns = refl }))

-- ---- the reply

-- what a reply other than that of a session that is gone comes to, where the client's sequence is the copy's
pub data Comes (c : Client) (g : ℕ) (asking : Bool) (h : Hearing) : Type 0 where
  ItSettles : (o : Outcome) → h ≡ Settles o → Comes c g asking h
  ItAttaches : asking ≡ true → h ≡ Attaches → Comes c g asking h

not_again : (c : Client) (g : ℕ) (asking : Bool) (status : ℕ) → (asking ≡ false → c.sequence_of g ≡ c.sequence)
    → goes_again c g asking status ≡ false
not_again c g true status e = grind arith
not_again c g false status e = let q = e refl in same (is_change (c.op g)) (status == file_not_available) (c.sequence_of g) c.sequence q
  where
    same : (a b : Bool) (n m : ℕ) → n ≡ m → (true && (a && (b && nat_lt n m))) ≡ false
    same a b n m e = grind (arith, nat_tests)

ok_settles : (o : Option OpReply) → (out : Outcome) × ok_or_unknown o ≡ Settles out
ok_settles None = (Unknown _, refl)
ok_settles (Some reply) = (WasOk reply, refl)

refused_settles : (op : Op) (asking before : Bool) (status : ℕ) → (out : Outcome) × refused op asking before status ≡ Settles out
refused_settles op asking before status =
    let P : Hearing → Type 0 = λ h. (out : Outcome) × h ≡ Settles out in
    let u = Settles (Unknown (WithStatus status)) in let n = Settles (WasRefused status) in
    either P (not before) n _ (λ _. (WasRefused status, refl))
    (λ _. either P (was_closed op asking status) (Settles (WasOk IsDone)) _ (λ _. (WasOk IsDone, refl))
    (λ _. either P (may_have_acted op asking status) u _ (λ _. (Unknown (WithStatus status), refl))
    (λ _. either P (refuses_all op status) n u (λ _. (WasRefused status, refl)) (λ _. (Unknown (WithStatus status), refl)))))

pub comes : (c : Client) (g : ℕ) (asking : Bool) (r : Reply) → r.status ≢ user_session_deleted
    → (asking ≡ false → c.sequence_of g ≡ c.sequence) → Comes c g asking (heard c g asking r)
comes c g asking r n e =
    let P : Hearing → Type 0 = λ h. Comes c g asking h in
    either P (r.status == user_session_deleted) EndsSession _ (λ d. absurd (n (eqb-true r.status user_session_deleted d)))
    (λ _. either P (r.status == success) _ _
    (λ _. either P asking Attaches (ok_or_unknown (value_in (c.op g) r.body)) (λ a. ItAttaches a refl)
    (λ _. let q = ok_settles (value_in (c.op g) r.body) in ItSettles q.0 q.1))
    (λ _. either P (goes_again c g asking r.status) GoesAgain (refused (c.op g) asking (c.unanswered g) r.status)
    (λ again. absurd (off (goes_again c g asking r.status) again (not_again c g asking r.status e)))
    (λ _. let q = refused_settles (c.op g) asking (c.unanswered g) r.status in ItSettles q.0 q.1)))
  where
    off : (b : Bool) → b ≡ true → b ≡ false → ⊥
    off b e f = absurd (cc)

pub awaited_now : (c : Client) (k g : ℕ) (asking : Bool) → c.outstanding_on g ≡ Some k → c.asks_attach g ≡ asking
    → is_awaited c k g asking ≡ true
awaited_now c k g true on asks = grind arith
awaited_now c k g false on asks = grind arith

-- the reply is heard, and the channels stay as they are
pub took_now : (w : World) (k g : ℕ) (asking : Bool) (r : Reply) (place : ℕ) (h : Hearing) → is_awaited w.client k g
    asking ≡ true → heard w.client g asking r ≡ h → act_heard h ≡ Nothing → op_took w k g asking r place
    ≡ with_client w (hear w.client g asking r place h)
took_now w k g asking r place h awaited is quiet =
    ap (λ x. with_client (closed_by w k x) (hear_after w.client k g asking r place))
    (if_on (is_awaited w.client k g asking) (act_heard (heard w.client g asking r)) Nothing awaited
    ∙ ap act_heard is ∙ quiet)
    ∙ ap (λ c. with_client w c)
    (if_on (is_awaited w.client k g asking) (hear w.client g asking r place (heard w.client g asking r)) w.client
    awaited ∙ ap (λ x. hear w.client g asking r place x) is)

pub settled_now : (c : Client) (g : ℕ) (asking : Bool) (r : Reply) (place : ℕ) (o : Outcome) → is_unsettled o ≡ false
    → is_unsettled ((settle c g asking r place o).outcome g) ≡ false
settled_now c g asking r place o firm =
    let n = noted_full (noted c g o r.body) g asking r.status in let d = settled n g o place in
    either (λ (e : Client). is_unsettled (e.outcome g) ≡ false) (settles_open (c.op g)) (with_no_opens d (create_for c g)) d
    (λ _. stays_firm ((create_for d g == create_for c g) && not (is_create (d.op g))) (d.sent g)
    (is_gone_after d (create_for c g) (d.outcome (create_for c g))) (create_for c g) (d.outcome g) (here n))
    (λ _. here n)
  where
    here : (n : Client) → is_unsettled (put n.outcome g o g) ≡ false
    here n = ap is_unsettled (put_at n.outcome g o) ∙ firm

    stays_firm : (a b e : Bool) (m : ℕ) (r : Outcome) → is_unsettled r ≡ false → is_unsettled (without_open a b e m r) ≡ false
    stays_firm a b e m Unsettled f = absurd (cc)
    stays_firm a b e m (WasOk reply) f = refl
    stays_firm a b e m (WasRefused status) f = refl
    stays_firm a b e m (NoSlot create) f = refl
    stays_firm a b e m (NoOpen create) f = refl
    stays_firm a b e m (Unknown why) f = refl
