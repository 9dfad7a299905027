-- Each event keeps what holds of the connections, and so does each run.
use Rattle.std.proofs.lemmas.Bool.{eqb-false}
use Rattle.std.proofs.Common.{eqb-true, ◌≡◌, ◌≢◌, ℕ, ◌+◌, ◌≤◌, ◌<◌, ◌==◌, nat_lt, nat_le, Bool, true, false, not, ◌&&◌}
use Rattle.std.proofs.Common.{◌||◌, if◌then◌else◌, List, [], ◌∷◌, refl, arith, sym, subst, ◌∙◌, ap, Option, Some, None}
use Rattle.std.proofs.Common.{is_some, is_none, zero, suc}
use Rattle.std.proofs.lemmas.Bool.Decides.{nat_tests}
use Rattle.spec_exchange.specs.Table.{put, put2, is_at, is_filled}
use Rattle.spec_exchange.specs.Status.{success, user_session_deleted, disk_full}
use Rattle.spec_exchange.specs.State.{Reply, Answer, Body}
use Rattle.spec_exchange.specs.Operations.{Op, Outcome, Unsettled, WasOk, WasRefused, NoSlot, NoOpen, Unknown}
use Rattle.spec_exchange.specs.Operations.{NoSession, is_unsettled, is_ok, is_create, is_close, OpReply, value_in}
use Rattle.spec_exchange.specs.Operations.{id_in, is_lock, is_change, create_of, holds_up, weight, charge}
use Rattle.spec_exchange.specs.Client.{Client, Stage, Apart, SaidNegotiate, SaidFirst, SaidSecond, AskedTree}
use Rattle.spec_exchange.specs.Client.{create_for, guid_for, may_take, outcome_at_first, may_push, has_its_slot}
use Rattle.spec_exchange.specs.Client.{goes_itself, lacks_slot, settle_no_slot, settle_no_slots, waits, begin, again}
use Rattle.spec_exchange.specs.Client.{take_slot, outstanding, own_message, ask_message, cut_channel, ends_at_cut}
use Rattle.spec_exchange.specs.Client.{end_session, is_gone_after, bind_channel, begin_session, leave_dialog}
use Rattle.spec_exchange.specs.Settling.{Heard as Hearing, Settles, GoesAgain, Attaches, EndsSession, heard, hear}
use Rattle.spec_exchange.specs.Settling.{is_awaited, settle, settled, noted, noted_full, settles_open, with_no_opens}
use Rattle.spec_exchange.specs.Settling.{give_up_on, without_open, ok_or_unknown, refused, was_closed, may_have_acted}
use Rattle.spec_exchange.specs.Settling.{refuses_all, goes_again, answered}
use Rattle.spec_exchange.specs.Dialogs.{DialogStep, GoesOn, Accepts, Binds, Readies, Refuses, dialog_step}
use Rattle.spec_exchange.specs.Dialogs.{dialog_message, went_on, accepted}
use Rattle.spec_exchange.specs.ClientStep.{Pick, Act, Nothing, CloseChannels, pick_after, pick_act, act_heard}
use Rattle.spec_exchange.specs.ClientStep.{some_unsettled, IsReady, CloseChannel, becomes_ready, last_number}
use Rattle.spec_exchange.specs.Network.{World, Event, Submit, Open, Push, Serve, Take, Cut, Drop, Restart, Crash, Wait}
use Rattle.spec_exchange.specs.Network.{Finish, Conn, Sent, Received, Token, ForDialog, ForOp, ForAttach, op_of}
use Rattle.spec_exchange.specs.Network.{happens, run, start, Settings, no_conn, changed, later, may_open, may_serve}
use Rattle.spec_exchange.specs.Network.{max_channel, pushed_by, answer, absorbed, replied, serve_front, absorb_front}
use Rattle.spec_exchange.specs.Network.{behind_front, take_front, take_reply, took_by, dialog_took, op_took, closed_by}
use Rattle.spec_exchange.specs.Network.{cut_by, with_client, send_up, behind_reply, restarted, dialog_ended, one_cut}
use Rattle.spec_exchange.specs.Runs.{is_once, is_send_of, acts, acts_now, front_acts}
use Rattle.law_sessions.specs.messages.Connections.{Connections, Unsent, Ready, copies, count_up, count_down, is_bound}
use Rattle.law_sessions.specs.messages.Connections.{makes_open, shuts_open, acts_once, its_create, its_request, create_at, opens}
use Rattle.law_sessions.proofs.messages.Lists.{counted_up, counted_down, front_up, front_down}
use Rattle.law_sessions.proofs.messages.Facts.{deleted_is_quiet}
use Rattle.law_server.proofs.tables.Logic.{either, front_of, back_of, not_true, both, at_of}
use Rattle.law_sessions.proofs.messages.Submit.{submit_keeps}
use Rattle.law_sessions.proofs.messages.Opened.{opened_keeps}
use Rattle.law_sessions.proofs.messages.Dropped.{dropped_keeps}
use Rattle.law_sessions.proofs.messages.AllDropped.{all_dropped_keeps}
use Rattle.law_sessions.proofs.messages.Outcomes.{outcomes_keeps}
use Rattle.law_sessions.proofs.messages.TakeSlot.{take_slot_keeps}
use Rattle.law_sessions.proofs.messages.Start.{start_keeps}
use Rattle.law_sessions.proofs.messages.Absorb.{absorb_keeps}
use Rattle.law_sessions.proofs.messages.Behind.{behind_keeps}
use Rattle.law_sessions.proofs.messages.WentOn.{went_on_keeps}
use Rattle.law_sessions.proofs.messages.Accepted.{accepted_keeps}
use Rattle.law_sessions.proofs.messages.DialogRefused.{dialog_refused_keeps}
use Rattle.law_sessions.proofs.messages.DialogSent.{dialog_sent_keeps}
use Rattle.law_sessions.proofs.messages.Bound.{bound_keeps}
use Rattle.law_sessions.proofs.messages.Readied.{readied_keeps}
use Rattle.law_sessions.proofs.messages.DialogOff.{dialog_off_keeps}
use Rattle.law_sessions.proofs.messages.Cut.{cut_keeps}
use Rattle.law_sessions.proofs.messages.Leave.{leave_keeps}
use Rattle.law_sessions.proofs.messages.Answered.{answered_keeps}
use Rattle.law_sessions.proofs.messages.Joined.{joined_keeps}
use Rattle.law_sessions.proofs.messages.Opens.{opens_keeps}
use Rattle.law_sessions.proofs.messages.Shuts.{shuts_keeps}
use Rattle.law_sessions.proofs.messages.Fills.{fills_keeps}
use Rattle.law_sessions.proofs.messages.Retried.{retried_keeps}
use Rattle.law_sessions.proofs.messages.Finished.{finished_keeps}
use Rattle.law_sessions.proofs.messages.Settle.{settle_keeps}
use Rattle.law_sessions.proofs.messages.Send.{send_keeps}
use Rattle.law_sessions.proofs.messages.Ask.{ask_keeps}
use Rattle.law_sessions.proofs.messages.Say.{say_keeps}

abbrev pub ConnectionsHold : World → (ℕ → ℕ) → Type 0
ConnectionsHold w a = Connections w.client w.conns a

-- ---- Submit

pub next_of : (c : Client) (g : ℕ) (op : Op) → may_take c g op ≡ true → g ≡ c.taken + 1
next_of c g op may = eqb-true g (c.taken + 1) (grind arith)

pub create_below : (c : Client) (g : ℕ) (op : Op) → may_take c g op ≡ true → makes_open op ≡ false → 0 < its_create g op
    × its_create g op < g × makes_open (c.op (its_create g op)) ≡ true
unfolding makes_open its_create
create_below c g op may kind = (grind (arith, nat_tests), grind (arith, nat_tests), grind (arith, nat_tests))

pub submits : (w : World) (a : ℕ → ℕ) (g : ℕ) (op : Op) → ConnectionsHold w a → ConnectionsHold (changed w (Submit g op)) a
submits w a g op i =
    either (λ d. Connections d w.conns a) (may_take w.client g op) _ _
    (λ may. submit_keeps w.client w.conns a g op (outcome_at_first w.client g op) (next_of w.client g op may)
    (create_below w.client g op may) i)
    (λ _. i)

-- ---- Push

pub none_of : (o : Option ℕ) → is_none o ≡ true → o ≡ None
none_of None e = refl
none_of (Some k) e = absurd (cc)

-- what a push finds
pub record MayPush (c : Client) (k g : ℕ) : Type 0 where
  pub ready : c.ready k ≡ true
  pub above : 0 < g
  pub within : g ≤ c.taken
  pub pending : is_unsettled (c.outcome g) ≡ true
  pub none : c.outstanding_on g ≡ None
  pub has_open : opens c g ≡ true

pub opens_of : (c : Client) (g : ℕ) → (is_create (c.op g) || is_ok (c.outcome (create_of g (c.op g)))) ≡ true → opens c g ≡ true
unfolding makes_open its_create
opens_of c g e = e

pub all_of : (r l h u n o w : Bool) → (r && ((l && h) && (u && (n && (o && not w))))) ≡ true → r ≡ true × l ≡ true × h
    ≡ true × u ≡ true × n ≡ true × o ≡ true × w ≡ false
all_of r l h u n o w e = (grind arith, grind arith, grind arith, grind arith, grind arith, grind arith, grind arith)

pub parts_of : (c : Client) (k g : ℕ) → may_push c k g ≡ true
    → c.ready k ≡ true × nat_lt 0 g ≡ true × nat_le g c.taken ≡ true × is_unsettled (c.outcome g) ≡ true
    × is_none (c.outstanding_on g) ≡ true × (is_create (c.op g) || is_ok (c.outcome (create_of g (c.op g)))) ≡ true
    × waits c g g ≡ false
parts_of c k g may = all_of (c.ready k) (nat_lt 0 g) (nat_le g c.taken) (is_unsettled (c.outcome g))
    (is_none (c.outstanding_on g)) (is_create (c.op g) || is_ok (c.outcome (create_of g (c.op g)))) (waits c g g) may

pub above_of : (g : ℕ) → nat_lt 0 g ≡ true → 0 < g
above_of g e = grind (arith, nat_tests)

pub within_of : (g t : ℕ) → nat_le g t ≡ true → g ≤ t
within_of g t e = grind (arith, nat_tests)

pub found : (c : Client) (k g : ℕ) → may_push c k g ≡ true → MayPush c k g
found c k g may =
    let p = parts_of c k g may in
    record {
      ready = p.0;
      above = above_of g p.1;
      within = within_of g c.taken p.2;
      pending = p.3;
      none = none_of (c.outstanding_on g) p.4;
      has_open = opens_of c g p.5;
    }

pub free_of : (c : Client) (k g : ℕ) → may_push c k g ≡ true → waits c g g ≡ false
free_of c k g may = (parts_of c k g may).6

pub slotless_same : (c : Client) (g : ℕ) (out : Outcome) → is_unsettled (c.outcome g) ≡ true → (h : ℕ)
    → is_unsettled (c.outcome h) ≡ false → put c.outcome g out h ≡ c.outcome h
slotless_same c g out pending h s = grind arith

pub slotless_still : (c : Client) (g : ℕ) (out : Outcome) → c.outstanding_on g ≡ None
    → ((h : ℕ) → is_unsettled (c.outcome h) ≡ false → c.outstanding_on h ≡ None) → (h : ℕ)
    → is_unsettled (put c.outcome g out h) ≡ false → c.outstanding_on h ≡ None
slotless_still c g out none st h u = let s = st h in grind arith

pub no_slot : (c : Client) (conns : ℕ → Conn) (a : ℕ → ℕ) (k g : ℕ) → Connections c conns a → Connections (settle_no_slot c k g) conns a
no_slot c conns a k g i =
    either (λ d. Connections d conns a) (lacks_slot c k g) _ _
    (λ lacks. let may = found c k g (front_of (may_push c k g) _ lacks) in
    outcomes_keeps c conns a (put c.outcome g (NoSlot (create_for c g))) (slotless_same c g (NoSlot (create_for c g))
    may.pending) (slotless_still c g (NoSlot (create_for c g)) may.none i.settled) i)
    (λ _. i)

pub no_slots : (c : Client) (conns : ℕ → Conn) (a : ℕ → ℕ) (k : ℕ) (gs : List ℕ) → Connections c conns a
    → Connections (settle_no_slots c k gs) conns a
unfolding settle_no_slots
no_slots c conns a k [] i = i
no_slots c conns a k (g ∷ gs) i = no_slots (settle_no_slot c k g) conns a k gs (no_slot c conns a k g i)

-- a lower operation of the same open that holds it up is settled
pub rest_waits : (x s r : Bool) → (if x then (if s then true else r) else r) ≡ false → r ≡ false
rest_waits x s r e = grind arith

pub first_waits : (x s r : Bool) → (if x then (if s then true else r) else r) ≡ false → x ≡ true → s ≡ false
first_waits x s r e h = grind arith

pub same_test : (n m : ℕ) → n ≡ m → (n == m) ≡ true
same_test n m e = grind arith

pub no_wait : (c : Client) (g m n : ℕ) → waits c g m ≡ false → n < m → create_for c n ≡ create_for c g
    → holds_up (c.op n) (c.op g) ≡ true → is_unsettled (c.outcome n) ≡ false
unfolding waits
no_wait c g zero n w l e h = absurd (omega arith)
no_wait c g (suc m) n w l e h =
    elim (n == m) as (λ b. n == m ≡ b → is_unsettled (c.outcome n) ≡ false) [
      | true ↦ λ q. let s : m ≡ n = sym (eqb-true n m q) in
          subst (λ x. is_unsettled (c.outcome x) ≡ false) s
          (first_waits ((create_for c m == create_for c g) && holds_up (c.op m) (c.op g)) (is_unsettled (c.outcome m)) (waits c g m) w
          (both _ _ (same_test _ _ (ap (λ x. create_for c x) s ∙ e)) (ap (λ x. holds_up (c.op x) (c.op g)) s ∙ h)))
      | false ↦ λ q. let d = eqb-false n m q in
          no_wait c g m n (rest_waits ((create_for c m == create_for c g) && holds_up (c.op m) (c.op g))
          (is_unsettled (c.outcome m)) (waits c g m) w) (omega (arith, d)) e h
    ] refl

-- a close waits for all of its open but the create, and all of it wait for the close
pub close_holds : (a b : Op) → makes_open a ≡ false → (shuts_open b || shuts_open a) ≡ true → holds_up a b ≡ true
unfolding makes_open shuts_open
close_holds a b c e = grind arith

pub own_create : (g : ℕ) (op : Op) → makes_open op ≡ true → its_create g op ≡ g
unfolding makes_open its_create
own_create g op e = grind arith

pub no_lower : (c : Client) (g n : ℕ) → waits c g g ≡ false → n < g → create_at c n ≡ create_at c g
    → holds_up (c.op n) (c.op g) ≡ true → is_unsettled (c.outcome n) ≡ false
unfolding its_create
no_lower c g n w l e h = no_wait c g g n w l e h

pub ok_is_settled : (o : Outcome) → is_ok o ≡ true → is_unsettled o ≡ false
ok_is_settled o e = grind arith

pub makes_one : (op : Op) (o : Outcome) → (makes_open op || is_ok o) ≡ true → makes_open op ≡ false → is_ok o ≡ true
makes_one op o e f = grind arith

pub not_both : (a b : Op) (g : ℕ) → its_create g b ≡ g → makes_open b ≡ true → shuts_open b ≡ false
unfolding makes_open shuts_open
not_both a b g e m = grind arith

pub lower_at : (c : Client) (g : ℕ) → opens c g ≡ true → waits c g g ≡ false
    → (n : ℕ) → 0 < n → n < g → create_at c n ≡ create_at c g → (shuts_open (c.op g) || shuts_open (c.op n)) ≡ true
    → is_unsettled (c.outcome n) ≡ false
lower_at c g has free n low l same one =
    elim (makes_open (c.op n)) as (λ b. makes_open (c.op n) ≡ b → is_unsettled (c.outcome n) ≡ false) [
      | true ↦ λ m. of_create m
      | false ↦ λ m. no_lower c g n free l same (close_holds (c.op n) (c.op g) m one)
    ] refl
  where
    of_create : makes_open (c.op n) ≡ true → is_unsettled (c.outcome n) ≡ false
    of_create m =
        let mine = own_create n (c.op n) m in
        elim (makes_open (c.op g)) as (λ b. makes_open (c.op g) ≡ b → is_unsettled (c.outcome n) ≡ false) [
          | true ↦ λ q. let own = own_create g (c.op g) q in absurd (grind arith)
          | false ↦ λ q. let ok = makes_one (c.op g) (c.outcome (create_at c g)) has q in let e : create_at c g ≡ n = sym same ∙ mine in
              ok_is_settled (c.outcome n) (subst (λ x. is_ok (c.outcome x) ≡ true) e ok)
        ] refl

pub own_body : (c : Client) (k id g : ℕ) → (own_message c k id g).command ≡ its_request (c.op g) (guid_for c g)
    (c.file (create_at c g)) (c.slot_of g) (c.number_of g)
unfolding its_request its_create
own_body c k id g = refl

abbrev pub Lowest : Client → ℕ → Type 0
Lowest c g = (n : ℕ) → 0 < n → n < g → create_at c n ≡ create_at c g → (shuts_open (c.op g) || shuts_open (c.op n))
    ≡ true → is_unsettled (c.outcome n) ≡ false

pub idle_of : (c : Client) (a : ℕ → ℕ) (g : ℕ) → Unsent c a → c.outstanding_on g ≡ None → is_unsettled (c.outcome g)
    ≡ true → acts_once (c.op g) ≡ true → c.unanswered g ≡ false → a g ≡ 0
idle_of c a g u none pending o b = let q = u g o b in grind arith

abbrev pub Out : (ℕ → Conn) → (ℕ → ℕ) → ℕ → ℕ → Client → Type 0
Out conns a k g c = Connections (outstanding c k g)
    (put conns k (send_up (conns k) (ForOp g) (own_message c k (conns k).next_id g) (charge (weight (c.op g))))) a

-- it goes out from this table
pub sent_out : (c : Client) (conns : ℕ → Conn) (a : ℕ → ℕ) (k g : ℕ) → Connections c conns a → MayPush c k g → c.sent g
    ≡ true → Lowest c g → Out conns a k g c
sent_out c conns a k g i may sent lowest =
    send_keeps c conns a k g (charge (weight (c.op g))) (own_message c k (conns k).next_id g) may.ready may.none
    may.above may.within may.pending may.has_open lowest sent (own_body c k (conns k).next_id g) refl refl
    (idle_of c a g i.unsent may.none may.pending) i

pub put_own : (f : ℕ → Bool) (g : ℕ) → put f g true g ≡ true
put_own f g = grind arith

pub begun_out : (c : Client) (conns : ℕ → Conn) (a : ℕ → ℕ) (k g s : ℕ) → Connections c conns a → MayPush c k g
    → Lowest c g → (b : Bool) → c.sent g ≡ b → Out conns a k g (if b then again c g else begin c g s)
begun_out c conns a k g s i may low true e =
    either (Out conns a k g) (is_lock (c.op g)) _ _
    (λ _. sent_out (record c { retried = put2 c.retried (create_for c g) (c.slot_of g) c.session_number }) conns a k g
    (retried_keeps c conns a (create_for c g) (c.slot_of g) i)
    (record {
      ready = may.ready;
      above = may.above;
      within = may.within;
      pending = may.pending;
      none = may.none;
      has_open = may.has_open;
    }) e low)
    (λ _. sent_out c conns a k g i may e low)
begun_out c conns a k g s i may low false e =
    either (Out conns a k g) (is_lock (c.op g)) _ _
    (λ _. sent_out (record (take_slot c g s) { sent = put c.sent g true }) conns a k g
    (start_keeps (take_slot c g s) conns a g e may.has_open may.above may.within
    (take_slot_keeps c conns a g s e i))
    (record {
      ready = may.ready;
      above = may.above;
      within = may.within;
      pending = may.pending;
      none = may.none;
      has_open = may.has_open;
    }) (put_own c.sent g) low)
    (λ _. sent_out (record c { sent = put c.sent g true }) conns a k g (start_keeps c conns a g e may.has_open may.above may.within i)
    (record {
      ready = may.ready;
      above = may.above;
      within = may.within;
      pending = may.pending;
      none = may.none;
      has_open = may.has_open;
    }) (put_own c.sent g) low)

-- two choices by one test
pub both_ways : {X Y : Type 0} (P : X → Y → Type 0) (b : Bool) (x y : X) (u v : Y) → (b ≡ true → P x u)
    → (b ≡ false → P y v) → P (if b then x else y) (if b then u else v)
both_ways P true x y u v f g = f refl
both_ways P false x y u v f g = g refl

-- a dialog that ended well: a bound channel, the first one of a new session, or one that failed
pub ended_well : (P : World → Type 0) (w : World) (k session tree : ℕ)
    → (w.client.live ≡ true → P (with_client w (bind_channel w.client k)))
    → (w.client.live ≡ false → w.client.session < session → P (with_client w (begin_session w.client k session tree)))
    → P (one_cut (with_client w (leave_dialog w.client k)) k)
    → P (dialog_ended w k (IsReady k session tree))
ended_well P w k session tree binds begins fails =
    both_ways (λ c x. P (with_client (closed_by w k x) c)) (becomes_ready w.client session)
    (if w.client.live then bind_channel w.client k else begin_session w.client k session tree)
    (leave_dialog w.client k) Nothing CloseChannel
    (λ b. either (λ c. P (with_client w c)) w.client.live (bind_channel w.client k)
    (begin_session w.client k session tree) binds
    (λ l. begins l (newer_id w.client.live w.client.session w.client.session_number session l b)))
    (λ _. fails)
  where
    newer_id : (live : Bool) (old number session : ℕ) → live ≡ false
        → (if live then session == old else nat_lt old session && nat_lt number last_number) ≡ true → old < session
    newer_id live old number session l b = grind (arith, nat_tests)

pub pushes_op : (w : World) (a : ℕ → ℕ) (k g s : ℕ) (c : Client) → Connections c w.conns a
    → ConnectionsHold (pushed_by w k (pick_after c k (Some (record { op = g; slot = s })))
    (pick_act c k (Some (record { op = g; slot = s })))) a
pushes_op w a k g s c i =
    let P : Client → Act → Type 0 = λ d x. ConnectionsHold (pushed_by w k d x) a in
    both_ways P (may_push c k g) _ _ _ _
    (λ may. let m = found c k g may in let low = lower_at c g m.has_open (free_of c k g may) in
    both_ways P (goes_itself c g) _ _ _ _
    (λ _. both_ways P (has_its_slot c g s) _ _ _ _ (λ _. begun_out c w.conns a k g s i m low (c.sent g) refl) (λ _. i))
    (λ _. ask_keeps c w.conns a k g 1 (ask_message c k (w.conns k).next_id g) m.ready m.none m.above m.within m.pending m.has_open low i))
    (λ _. i)

pub picks : (w : World) (a : ℕ → ℕ) (k : ℕ) (c : Client) (pick : Option Pick) → Connections c w.conns a
    → ConnectionsHold (pushed_by w k (pick_after c k pick) (pick_act c k pick)) a
picks w a k c None i = either (λ x. ConnectionsHold (pushed_by w k c x) a) (some_unsettled c c.taken) _ _ (λ _. i) (λ _. i)
picks w a k c (Some p) i = pushes_op w a k p.op p.slot c i

pub pushes : (w : World) (a : ℕ → ℕ) (k : ℕ) (slotless : List ℕ) (pick : Option Pick) → w.client.ready k ≡ true
    → ConnectionsHold w a → ConnectionsHold (changed w (Push k slotless pick)) a
pushes w a k slotless pick ready i =
    both_ways (λ d x. ConnectionsHold (pushed_by w k d x) a) (w.client.ready k) _ _ _ _
    (λ _. picks w a k (settle_no_slots w.client k slotless) pick (no_slots w.client w.conns a k slotless i))
    (λ off. absurd (grind arith))

-- ---- Serve

pub put_at_self : (f : ℕ → Conn) (k q : ℕ) → put f k (f k) q ≡ f q
put_at_self f k q = elim (q == k) as (λ b. q == k ≡ b → put f k (f k) q ≡ f q) [
  | true ↦ λ e. let s = eqb-true q k e in grind arith
  | false ↦ λ e. grind arith
] refl

pub put_self : (f : ℕ → Conn) (k : ℕ) → f ≡ put f k (f k)
put_self f k = λ t q. sym (put_at_self f k q) t

pub still_open : (f : ℕ → Conn) (k : ℕ) (rest : List Sent) → (put f k (behind_front (f k) rest) k).client_open ≡ true
    → (f k).client_open ≡ true
still_open f k rest o = grind arith

pub front_gone : (f : ℕ → Conn) (k : ℕ) (x : Sent) (rest : List Sent) → (f k).up ≡ x ∷ rest
    → copies (op_of x.token) (f k) ≤ 1 → copies (op_of x.token) (put f k (behind_front (f k) rest) k) ≡ 0
front_gone f k x rest is one = grind arith

pub front_reply_gone : (f : ℕ → Conn) (k : ℕ) (y : Received) (rest : List Received) → (f k).down ≡ y ∷ rest
    → copies (op_of y.token) (f k) ≤ 1 → copies (op_of y.token) (put f k (take_front (f k) rest) k) ≡ 0
front_reply_gone f k y rest is one = grind arith

pub more_up : (c : Conn) (g : ℕ) → 1 ≤ count_up g c.up → 1 ≤ copies g c
more_up c g l = omega (arith, l)

pub more_down : (c : Conn) (g : ℕ) → 1 ≤ count_down g c.down → 1 ≤ copies g c
more_down c g l = omega (arith, l)

pub no_dialog : (c : Client) (conns : ℕ → Conn) (k : ℕ) → Ready c conns → 1 ≤ copies 0 (conns k) → c.ready k ≡ false
no_dialog c conns k r l = let q = r k in grind arith

abbrev pub counted : (ℕ → ℕ) → Sent → Bool → ℕ → ℕ
counted a x acted h = if is_send_of h x.token && acted then a h + 1 else a h

pub not_counted : (a : ℕ → ℕ) (x : Sent) (acted : Bool) (g : ℕ) → acted ≡ false → a g ≡ 0 → counted a x acted g ≡ 0
not_counted a x acted g e z = grind arith

pub says : (w : World) (a : ℕ → ℕ) (k : ℕ) (x : Sent) (rest : List Sent) (A : Answer) (place : ℕ) → (w.conns k).up
    ≡ x ∷ rest → (A.reply.status ≡ user_session_deleted → A.acted ≡ false) → ConnectionsHold w a
    → ConnectionsHold (replied (absorbed w k x rest A) k (record { token = x.token; reply = A.reply; place = place })) (counted a x A.acted)
says w a k x rest A place is quiet i =
    let f0 = front_up (w.conns k).up x rest is in let n0 = counted_up (op_of x.token) (w.conns k).up 0 x f0 refl in
    let f : ℕ → Conn = put w.conns k (behind_front (w.conns k) rest) in
    let j = absorb_keeps w.client w.conns a k x rest A.acted is i in
    either (λ d. Connections w.client (put f k d) (counted a x A.acted)) (f k).client_open _ _
    (λ o. let stands = still_open w.conns k rest o in
    say_keeps w.client f (counted a x A.acted) k (record { token = x.token; reply = A.reply; place = place }) o
    (front_gone w.conns k x rest is (i.once k (op_of x.token)))
    (i.outstanding k (op_of x.token) stands (more_up (w.conns k) (op_of x.token) n0))
    (λ g t. i.own_up k 0 g x f0 stands t) (λ g t. i.attach_up k 0 g x f0 stands t)
    (λ e. no_dialog w.client w.conns k i.ready (more_up (w.conns k) 0 (counted_up 0 (w.conns k).up 0 x f0 e)))
    (λ g t. (i.bodies k 0 g x f0 t).0)
    (λ g t ao st b. not_counted a x A.acted g (quiet st) (i.first k 0 g x f0 t ao b).1) j)
    (λ _. subst (λ v. Connections w.client v (counted a x A.acted)) (put_self f k) j)

pub serves : (w : World) (a : ℕ → ℕ) (k : ℕ) → ConnectionsHold w a → (xs : List Sent) → (w.conns k).up ≡ xs
    → ConnectionsHold (serve_front w k xs) (λ g. if front_acts w xs g then a g + 1 else a g)
serves w a k i [] is = i
serves w a k i (x ∷ rest) is = says w a k x rest (answer w x) w.log.places is
    (deleted_is_quiet w.server w.moment x.message x.message.command) i

pub absorbs : (w : World) (a : ℕ → ℕ) (k : ℕ) → ConnectionsHold w a → (xs : List Sent) → (w.conns k).up ≡ xs
    → ConnectionsHold (absorb_front w k xs) (λ g. if front_acts w xs g then a g + 1 else a g)
absorbs w a k i [] is = i
absorbs w a k i (x ∷ rest) is = absorb_keeps w.client w.conns a k x rest (answer w x).acted is i

pub serve_open : (w : World) (a : ℕ → ℕ) (k : ℕ) → ConnectionsHold w a → (b : Bool)
    → ConnectionsHold (if b then later (serve_front w k (w.conns k).up) 1 else w)
    (λ g. if b && front_acts w (w.conns k).up g then a g + 1 else a g)
serve_open w a k i true = serves w a k i (w.conns k).up refl
serve_open w a k i false = i

pub restarts : (w : World) (a : ℕ → ℕ) → ConnectionsHold w a → ConnectionsHold (restarted w) a
restarts w a i = all_dropped_keeps w.client w.conns a i

pub crash_open : (w : World) (a : ℕ → ℕ) (k : ℕ) → ConnectionsHold w a → (kept b : Bool)
    → ConnectionsHold (if b then later (if kept then restarted (absorb_front w k (w.conns k).up) else restarted w) 1
    else w) (λ g. if kept && (b && front_acts w (w.conns k).up g) then a g + 1 else a g)
crash_open w a k i true true = restarts (absorb_front w k (w.conns k).up) _ (absorbs w a k i (w.conns k).up refl)
crash_open w a k i true false = i
crash_open w a k i false true = restarts w a i
crash_open w a k i false false = i

-- ---- Take

-- the answer to a table's line is settled for good, or no line that settles
abbrev pub settles_firm : Hearing → Bool
settles_firm (Settles outcome) = not (is_unsettled outcome)
settles_firm GoesAgain = false
settles_firm Attaches = false
settles_firm EndsSession = false

pub ok_firm : (v : Option OpReply) → settles_firm (ok_or_unknown v) ≡ true
ok_firm None = refl
ok_firm (Some reply) = refl

pub refused_firm : (op : Op) (asking unanswered : Bool) (status : ℕ) → settles_firm (refused op asking unanswered status) ≡ true
refused_firm op asking unanswered status =
    let P : Hearing → Type 0 = λ h. settles_firm h ≡ true in
    either P (not unanswered) _ _ (λ _. refl) (λ _. either P (was_closed op asking status) _ _ (λ _. refl)
    (λ _. either P (may_have_acted op asking status) _ _ (λ _. refl) (λ _. either P (refuses_all op status) _ _ (λ _. refl) (λ _. refl))))

abbrev pub line : Bool → Bool → Bool → Bool → Hearing → Hearing → Hearing
line b1 b2 b3 asking x y = if b1 then EndsSession else if b2 then (if asking then Attaches else x) else if b3 then GoesAgain else y

pub line_again : (b1 b2 b3 asking : Bool) (x y : Hearing) → settles_firm x ≡ true → settles_firm y ≡ true
    → line b1 b2 b3 asking x y ≡ GoesAgain → b3 ≡ true
line_again b1 b2 b3 asking x y e f h = grind arith

pub line_attaches : (b1 b2 b3 asking : Bool) (x y : Hearing) → settles_firm x ≡ true → settles_firm y ≡ true
    → line b1 b2 b3 asking x y ≡ Attaches → asking ≡ true
line_attaches b1 b2 b3 asking x y e f h = grind arith

pub line_ends : (b1 b2 b3 asking : Bool) (x y : Hearing) → settles_firm x ≡ true → settles_firm y ≡ true
    → line b1 b2 b3 asking x y ≡ EndsSession → b1 ≡ true
line_ends b1 b2 b3 asking x y e f h = grind arith

pub line_firm : (b1 b2 b3 asking : Bool) (x y : Hearing) (o : Outcome) → settles_firm x ≡ true → settles_firm y ≡ true
    → line b1 b2 b3 asking x y ≡ Settles o → is_unsettled o ≡ false
line_firm b1 b2 b3 asking x y o e f h = grind arith

pub heard_again : (c : Client) (g : ℕ) (asking : Bool) (r : Reply) → heard c g asking r ≡ GoesAgain → goes_again c g asking r.status ≡ true
heard_again c g asking r h = line_again (r.status == user_session_deleted) (r.status == success)
    (goes_again c g asking r.status) asking (ok_or_unknown (value_in (c.op g) r.body))
    (refused (c.op g) asking (c.unanswered g) r.status) (ok_firm (value_in (c.op g) r.body))
    (refused_firm (c.op g) asking (c.unanswered g) r.status) h

pub heard_attaches : (c : Client) (g : ℕ) (asking : Bool) (r : Reply) → heard c g asking r ≡ Attaches → asking ≡ true
heard_attaches c g asking r h = line_attaches (r.status == user_session_deleted) (r.status == success)
    (goes_again c g asking r.status) asking (ok_or_unknown (value_in (c.op g) r.body))
    (refused (c.op g) asking (c.unanswered g) r.status) (ok_firm (value_in (c.op g) r.body))
    (refused_firm (c.op g) asking (c.unanswered g) r.status) h

pub heard_ends : (c : Client) (g : ℕ) (asking : Bool) (r : Reply) → heard c g asking r ≡ EndsSession → r.status ≡ user_session_deleted
heard_ends c g asking r h = eqb-true r.status user_session_deleted (line_ends (r.status == user_session_deleted)
    (r.status == success) (goes_again c g asking r.status) asking (ok_or_unknown (value_in (c.op g) r.body))
    (refused (c.op g) asking (c.unanswered g) r.status) (ok_firm (value_in (c.op g) r.body))
    (refused_firm (c.op g) asking (c.unanswered g) r.status) h)

pub heard_firm : (c : Client) (g : ℕ) (asking : Bool) (r : Reply) (o : Outcome) → heard c g asking r ≡ Settles o → is_unsettled o ≡ false
heard_firm c g asking r o h = line_firm (r.status == user_session_deleted) (r.status == success)
    (goes_again c g asking r.status) asking (ok_or_unknown (value_in (c.op g) r.body))
    (refused (c.op g) asking (c.unanswered g) r.status) o (ok_firm (value_in (c.op g) r.body))
    (refused_firm (c.op g) asking (c.unanswered g) r.status) h

-- a create, lock or unlock doesn't go out again by a reply
pub once_again : (c : Client) (g : ℕ) (asking : Bool) (status : ℕ) → goes_again c g asking status ≡ true
    → acts_once (c.op g) ≡ true → (n : ℕ) → n ≡ 0
unfolding acts_once
once_again c g asking status e o n = change_once (c.op g) (front_of (is_change (c.op g)) _ (back_of (not asking) _ e)) o n
  where
    change_once : (op : Op) → is_change op ≡ true → is_once op ≡ true → (n : ℕ) → n ≡ 0
    change_once op e f n = absurd (grind arith)

pub is_create_of : (op : Op) → is_create op ≡ true → makes_open op ≡ true
unfolding makes_open
is_create_of op e = e

-- ---- the reply that settles

pub record Noted (c d : Client) (conns : ℕ → Conn) (a : ℕ → ℕ) : Type 0 where
  pub keeps : Connections d conns a
  pub outstanding_on : d.outstanding_on ≡ c.outstanding_on
  pub op : d.op ≡ c.op

pub noted_keeps : (c : Client) (conns : ℕ → Conn) (a : ℕ → ℕ) (g : ℕ) (body : Body) → Connections c conns a
    → is_some (c.outstanding_on g) ≡ true → (o : Outcome) → Noted c (noted c g o body) conns a
noted_keeps c conns a g body i out (WasOk reply) =
    let P : Client → Type 0 = λ d. Noted c d conns a in
    either P (is_create (c.op g)) _ _
    (λ e. record { keeps = opens_keeps c conns a g (id_in body) (is_create_of (c.op g) e) out i; outstanding_on = refl; op = refl })
    (λ _. either P (is_close (c.op g)) _ _ (λ _. record {
      keeps = shuts_keeps c conns a (create_for c g) i;
      outstanding_on = refl;
      op = refl;
    }) (λ _. record { keeps = i; outstanding_on = refl; op = refl }))
noted_keeps c conns a g body i out Unsettled = record { keeps = i; outstanding_on = refl; op = refl }
noted_keeps c conns a g body i out (WasRefused status) = record { keeps = i; outstanding_on = refl; op = refl }
noted_keeps c conns a g body i out (NoSlot create) = record { keeps = i; outstanding_on = refl; op = refl }
noted_keeps c conns a g body i out (NoOpen create) = record { keeps = i; outstanding_on = refl; op = refl }
noted_keeps c conns a g body i out (Unknown why) = record { keeps = i; outstanding_on = refl; op = refl }

pub full_keeps : (c d : Client) (conns : ℕ → Conn) (a : ℕ → ℕ) (g : ℕ) (asking : Bool) (status : ℕ) → Noted c d conns a
    → Noted c (noted_full d g asking status) conns a
full_keeps c d conns a g asking status n =
    either (λ e. Noted c e conns a) (is_lock (d.op g) && (not asking && (status == disk_full))) _ _
    (λ _. record {
      keeps = fills_keeps d conns a (create_for d g) (d.slot_of g) n.keeps;
      outstanding_on = n.outstanding_on;
      op = n.op;
    }) (λ _. n)

pub without_same : (names sent gone : Bool) (create : ℕ) (o : Outcome) → is_unsettled o ≡ false → without_open names sent gone create o ≡ o
without_same names sent gone create Unsettled e = absurd (cc)
without_same names sent gone create (WasOk reply) e = refl
without_same names sent gone create (WasRefused status) e = refl
without_same names sent gone create (NoSlot n) e = refl
without_same names sent gone create (NoOpen n) e = refl
without_same names sent gone create (Unknown why) e = refl

pub without_new : (names sent gone : Bool) (create : ℕ) (o : Outcome) → is_unsettled o ≡ true
    → is_unsettled (without_open names sent gone create o) ≡ false → names ≡ true
without_new names sent gone create Unsettled e f = grind arith
without_new names sent gone create (WasOk reply) e f = absurd (cc)
without_new names sent gone create (WasRefused status) e f = absurd (cc)
without_new names sent gone create (NoSlot n) e f = absurd (cc)
without_new names sent gone create (NoOpen n) e f = absurd (cc)
without_new names sent gone create (Unknown why) e f = absurd (cc)

-- where a create is settling, or a close, nothing else of the open is outstanding
abbrev pub Clear : Client → ℕ → ℕ → Type 0
Clear c g h = makes_open (c.op h) ≡ false → create_at c h ≡ create_at c g → h ≢ g → c.outstanding_on h ≡ None

pub off_of : (c : Client) (h : ℕ) → (o : Option ℕ) → c.outstanding_on h ≡ o
    → (is_some (c.outstanding_on h) ≡ true → c.outstanding_on h ≡ None) → c.outstanding_on h ≡ None
off_of c h None e f = e
off_of c h (Some j) e f = f (grind arith)

pub made_by : (op : Op) (o : Outcome) → (makes_open op || is_ok o) ≡ true → makes_open op ≡ false → is_unsettled o ≡ false
made_by op o e f = ok_is_settled o (makes_one op o e f)

pub clear_create : (c : Client) (conns : ℕ → Conn) (a : ℕ → ℕ) (k g h : ℕ) → Connections c conns a → c.outstanding_on g
    ≡ Some k → makes_open (c.op g) ≡ true → Clear c g h
clear_create c conns a k g h i on create other same apart =
    off_of c h (c.outstanding_on h) refl (λ s.
    let own = own_create g (c.op g) create in let ok = made_by (c.op h) (c.outcome (create_at c h)) (i.asked_open h s) other in
    let ok2 : is_unsettled (c.outcome g) ≡ false = subst (λ x. is_unsettled (c.outcome x) ≡ false) (same ∙ own) ok in
    let off = i.settled g ok2 in absurd (grind arith))

pub some_of : (o : Option ℕ) (k : ℕ) → o ≡ Some k → is_some o ≡ true
some_of o k e = grind arith

pub either_shuts : (a b : Bool) → a ≡ true → (a || b) ≡ true
either_shuts a b e = grind arith

pub either_shuts2 : (a b : Bool) → b ≡ true → (a || b) ≡ true
either_shuts2 a b e = grind arith

pub clear_close : (c : Client) (conns : ℕ → Conn) (a : ℕ → ℕ) (k g h : ℕ) → Connections c conns a → c.outstanding_on g
    ≡ Some k → shuts_open (c.op g) ≡ true → Clear c g h
clear_close c conns a k g h i on shuts other same apart =
    off_of c h (c.outstanding_on h) refl (λ s.
    elim (nat_lt h g) as (λ b. nat_lt h g ≡ b → c.outstanding_on h ≡ None) [
      | true ↦ λ l. i.settled h (i.lower g h (some_of (c.outstanding_on g) k on) (i.taken_on h s).0 (low h g l) same
          (either_shuts (shuts_open (c.op g)) (shuts_open (c.op h)) shuts))
      | false ↦ λ l. let off = i.settled g (i.lower h g s (i.taken_on g (some_of (c.outstanding_on g) k on)).0
          (high h g l apart) (sym same) (either_shuts2 (shuts_open (c.op h)) (shuts_open (c.op g)) shuts)) in
          absurd (grind arith)
    ] refl)
  where
    low : (h g : ℕ) → nat_lt h g ≡ true → h < g
    low h g l = grind (arith, nat_tests)

    high : (h g : ℕ) → nat_lt h g ≡ false → h ≢ g → g < h
    high h g l d = grind (arith, nat_tests)

abbrev pub settled_at : Client → ℕ → Outcome → ℕ → Client
settled_at c g o place = settled c g o place

pub names_of : (c : Client) (create h : ℕ) → ((create_for c h == create) && not (is_create (c.op h))) ≡ true
    → create_at c h ≡ create × makes_open (c.op h) ≡ false
unfolding its_create makes_open
names_of c create h e = (
  eqb-true (create_for c h) create (front_of (create_for c h == create) _ e),
  not_true (is_create (c.op h)) (back_of (create_for c h == create) _ e),
)

pub own_for : (c : Client) (g : ℕ) → create_for c g ≡ create_at c g
unfolding its_create
own_for c g = refl

pub kinds_of : (op : Op) → (is_create op || is_close op) ≡ true → makes_open op ≡ false → shuts_open op ≡ true
unfolding makes_open shuts_open
kinds_of op e f = grind arith

pub clear_at : (c : Client) (conns : ℕ → Conn) (a : ℕ → ℕ) (k g h : ℕ) → Connections c conns a → c.outstanding_on g
    ≡ Some k → settles_open (c.op g) ≡ true → Clear c g h
clear_at c conns a k g h i on may =
    elim (makes_open (c.op g)) as (λ b. makes_open (c.op g) ≡ b → Clear c g h) [
      | true ↦ λ m. clear_create c conns a k g h i on m
      | false ↦ λ m. clear_close c conns a k g h i on (kinds_of (c.op g) may m)
    ] refl

pub put_none : (f : ℕ → Option ℕ) (g h : ℕ) → h ≡ g → put f g None h ≡ None
put_none f g h e = grind arith

pub put_off : (f : ℕ → Option ℕ) (g h : ℕ) → h ≢ g → f h ≡ None → put f g None h ≡ None
put_off f g h d e = grind arith

pub gives_up_still : (c : Client) (conns : ℕ → Conn) (a : ℕ → ℕ) (k g place create : ℕ) (o : Outcome)
    → Connections c conns a → Connections (settled c g o place) conns a → c.outstanding_on g ≡ Some k
    → settles_open (c.op g) ≡ true
    → create ≡ create_at c g → (h : ℕ) → is_unsettled (give_up_on (settled c g o place) create h) ≡ false
    → (settled c g o place).outstanding_on h ≡ None
gives_up_still c conns a k g place create o i j on may own h u =
    elim (is_unsettled ((settled c g o place).outcome h)) as (λ b. is_unsettled ((settled c g o place).outcome h) ≡ b
    → put c.outstanding_on g None h ≡ None) [
      | false ↦ λ s. j.settled h s
      | true ↦ λ s.
          let n = without_new ((create_for c h == create) && not (is_create (c.op h))) (c.sent h)
          (is_gone_after (settled c g o place) create ((settled c g o place).outcome create)) create
          ((settled c g o place).outcome h) s u in
          let names = names_of c create h n in
          elim (h == g) as (λ b. h == g ≡ b → put c.outstanding_on g None h ≡ None) [
            | true ↦ λ q. put_none c.outstanding_on g h (eqb-true h g q)
            | false ↦ λ q. let d1 = eqb-false h g q in put_off c.outstanding_on g h d1
                (clear_at c conns a k g h i on may names.1 (names.0 ∙ own) d1)
          ] refl
    ] refl

pub gives_up : (c : Client) (conns : ℕ → Conn) (a : ℕ → ℕ) (k g place create : ℕ) (o : Outcome) → Connections c conns a
    → Connections (settled c g o place) conns a → c.outstanding_on g ≡ Some k → settles_open (c.op g) ≡ true
    → create ≡ create_at c g → Connections (with_no_opens (settled c g o place) create) conns a
gives_up c conns a k g place create o i j on may own =
    let d = settled c g o place in
    outcomes_keeps d conns a (give_up_on d create)
    (λ h. without_same ((create_for c h == create) && not (is_create (c.op h))) (c.sent h)
    (is_gone_after d create (d.outcome create)) create (d.outcome h))
    (gives_up_still c conns a k g place create o i j on may own) j

pub settles : (c : Client) (conns : ℕ → Conn) (a : ℕ → ℕ) (k g : ℕ) (asking : Bool) (r : Reply) (place : ℕ)
    (o : Outcome) → Connections c conns a → c.outstanding_on g ≡ Some k → copies g (conns k) ≡ 0 → is_unsettled o
    ≡ false
    → Connections (settle c g asking r place o) conns a
settles c conns a k g asking r place o i on none firm =
    let n = full_keeps c (noted c g o r.body) conns a g asking r.status
    (noted_keeps c conns a g r.body i (some_of (c.outstanding_on g) k on) o) in
    by_noted c (noted_full (noted c g o r.body) g asking r.status) conns a k g place o on none firm n
  where
    by_noted : (c d : Client) (conns : ℕ → Conn) (a : ℕ → ℕ) (k g place : ℕ) (o : Outcome) → c.outstanding_on g ≡ Some k
        → copies g (conns k) ≡ 0 → is_unsettled o ≡ false → Noted c d conns a
        → Connections (if settles_open (c.op g) then with_no_opens (settled d g o place) (create_for c g) else settled d g o place) conns a
    by_noted c d conns a k g place o on none firm n =
        let on2 : d.outstanding_on g ≡ Some k = ap (λ f. f g) n.outstanding_on ∙ on in
        let j = settle_keeps d conns a k g place o on2 none firm n.keeps in
        either (λ e. Connections e conns a) (settles_open (c.op g))
        (with_no_opens (settled d g o place) (create_for c g)) (settled d g o place)
        (λ may. gives_up d conns a k g place (create_for c g) o n.keeps j on2 (ap (λ f. settles_open (f g)) n.op ∙ may)
        (own_for c g ∙ ap (λ f. its_create g (f g)) (sym n.op)))
        (λ _. j)

-- ---- what a reply does

pub awaited_of : (c : Client) (k g : ℕ) (asking : Bool) → is_awaited c k g asking ≡ true → c.outstanding_on g ≡ Some k
    × c.asks_attach g ≡ asking
awaited_of c k g asking e = (
  at_of k (c.outstanding_on g) (front_of (is_at k (c.outstanding_on g)) _ e),
  same_of (c.asks_attach g) asking (back_of (is_at k (c.outstanding_on g)) _ e),
)
  where
    same_of : (x y : Bool) → (if x then y else not y) ≡ true → x ≡ y
    same_of x y e = grind arith

pub unclear : (b c : Bool) (P : Type 0) → b ≡ c → b ≡ true → c ≡ false → P
unclear b c P e f g = absurd (grind arith)

pub hears : (w : World) (a : ℕ → ℕ) (k g : ℕ) (asking : Bool) (r : Reply) (place : ℕ) → ConnectionsHold w a
    → w.client.outstanding_on g ≡ Some k → w.client.asks_attach g ≡ asking → copies g (w.conns k) ≡ 0
    → (asking ≡ false → acts_once (w.client.op g) ≡ true → r.status ≡ user_session_deleted → w.client.unanswered g ≡ false → a g ≡ 0)
    → (h : Hearing) → heard w.client g asking r ≡ h
    → ConnectionsHold (with_client (closed_by w k (act_heard h)) (hear w.client g asking r place h)) a
hears w a k g asking r place i on asks none gone (Settles o) e = settles w.client w.conns a k g asking r place o i on
    none (heard_firm w.client g asking r o e)
hears w a k g asking r place i on asks none gone GoesAgain e =
    answered_keeps w.client w.conns a k g on none (λ o b k. once_again w.client g asking r.status
    (heard_again w.client g asking r e) o (a g)) i
hears w a k g asking r place i on asks none gone Attaches e =
    joined_keeps w.client w.conns a k g on none (λ o b q. unclear asking (w.client.asks_attach g) (a g ≡ 0) (sym asks)
    (heard_attaches w.client g asking r e) q) i
hears w a k g asking r place i on asks none gone EndsSession e =
    leave_keeps (answered w.client g) w.conns a (answered_keeps w.client w.conns a k g on none
    (λ o b q. gone (sym asks ∙ q) o (heard_ends w.client g asking r e) b) i)

pub took : (w : World) (a : ℕ → ℕ) (k g : ℕ) (asking : Bool) (r : Reply) (place : ℕ) → ConnectionsHold w a → copies g (w.conns k) ≡ 0
    → (asking ≡ false → acts_once (w.client.op g) ≡ true → r.status ≡ user_session_deleted → w.client.unanswered g
    ≡ false → a g ≡ 0) → ConnectionsHold (op_took w k g asking r place) a
took w a k g asking r place i none gone =
    both_ways (λ c x. ConnectionsHold (with_client (closed_by w k x) c) a) (is_awaited w.client k g asking)
    (hear w.client g asking r place (heard w.client g asking r)) w.client (act_heard (heard w.client g asking r))
    Nothing
    (λ aw. let q = awaited_of w.client k g asking aw in hears w a k g asking r place i q.0 q.1 none gone (heard w.client g asking r) refl)
    (λ _. i)

-- ---- dialogs

pub goes_on_bound : (t s : Stage) (status : ℕ) → dialog_step t status ≡ GoesOn s → is_bound s ≡ is_bound t
goes_on_bound Apart s status e = absurd (cc)
goes_on_bound (SaidNegotiate bound) s status e = grind arith
goes_on_bound (SaidFirst bound) s status e = grind arith
goes_on_bound (SaidSecond bound) s status e = grind arith
goes_on_bound AskedTree s status e = grind arith

readies : (w : World) (a : ℕ → ℕ) (k session tree : ℕ) → ConnectionsHold w a → copies 0 (w.conns k) ≡ 0
    → w.client.ready k ≡ false → (w.conns k).client_open ≡ true
    → ConnectionsHold (dialog_ended w k (IsReady k session tree)) a
readies w a k session tree i none apart stands =
    ended_well (λ v. ConnectionsHold v a) w k session tree (λ live. bound_keeps w.client w.conns a k live stands none i)
    (λ _ _. readied_keeps w.client w.conns a k session tree stands none i)
    (dialog_off_keeps w.client w.conns a k apart i)

pub dialogs : (w : World) (a : ℕ → ℕ) (k : ℕ) (r : Reply) → ConnectionsHold w a → copies 0 (w.conns k) ≡ 0
    → w.client.ready k ≡ false → (w.conns k).client_open ≡ true
    → (d : DialogStep) → dialog_step (w.client.stage k) r.status ≡ d → ConnectionsHold (dialog_took w k r d) a
dialogs w a k r i none apart stands (GoesOn stage) e =
    dialog_sent_keeps (went_on w.client k stage r) w.conns a k 1 (dialog_message (went_on w.client k stage r) k
    (w.conns k).next_id stage) none apart
    (went_on_keeps w.client w.conns a k stage r (λ b. i.stages k (sym (goes_on_bound (w.client.stage k) stage r.status e) ∙ b)) i)
dialogs w a k r i none apart stands Accepts e =
    dialog_sent_keeps (accepted w.client k) w.conns a k 1 (dialog_message (accepted w.client k) k (w.conns k).next_id
    AskedTree) none apart (accepted_keeps w.client w.conns a k i)
dialogs w a k r i none apart stands Binds e = readies w a k w.client.session w.client.tree i none apart stands
dialogs w a k r i none apart stands Readies e = readies w a k w.client.pending r.tree_id i none apart stands
dialogs w a k r i none apart stands (Refuses status) e = dialog_refused_keeps w.client w.conns a k status apart i

-- ---- a reply that is taken

pub reply_open : (f : ℕ → Conn) (k : ℕ) (rest : List Received) → (f k).client_open ≡ true
    → (put f k (take_front (f k) rest) k).client_open ≡ true
reply_open f k rest o = grind arith

pub takes_by : (w : World) (a : ℕ → ℕ) (k : ℕ) (y : Received) (rest : List Received) → (w.conns k).down ≡ y ∷ rest
    → (w.conns k).client_open ≡ true → ConnectionsHold w a → (t : Token) → y.token ≡ t
    → ConnectionsHold (took_by (behind_reply w k rest) k y.reply y.place t) a
takes_by w a k y rest is o i ForDialog e =
    let zero_of : op_of y.token ≡ 0 = ap op_of e in let f0 = front_down (w.conns k).down y rest is in
    dialogs (behind_reply w k rest) a k y.reply (behind_keeps w.client w.conns a k y rest is i)
    (subst (λ g. copies g (put w.conns k (take_front (w.conns k) rest) k) ≡ 0) zero_of
    (front_reply_gone w.conns k y rest is (i.once k (op_of y.token))))
    (no_dialog w.client w.conns k i.ready (more_down (w.conns k) 0 (counted_down 0 (w.conns k).down 0 y f0 zero_of)))
    (reply_open w.conns k rest o) (dialog_step (w.client.stage k) y.reply.status) refl
takes_by w a k y rest is o i (ForOp g) e =
    let f0 = front_down (w.conns k).down y rest is in
    took (behind_reply w k rest) a k g false y.reply y.place (behind_keeps w.client w.conns a k y rest is i)
    (subst (λ g. copies g (put w.conns k (take_front (w.conns k) rest) k) ≡ 0) (ap op_of e)
    (front_reply_gone w.conns k y rest is (i.once k (op_of y.token))))
    (λ _ ao st b. i.deleted k 0 g y f0 e ao st b)
takes_by w a k y rest is o i (ForAttach g) e =
    took (behind_reply w k rest) a k g true y.reply y.place (behind_keeps w.client w.conns a k y rest is i)
    (subst (λ g. copies g (put w.conns k (take_front (w.conns k) rest) k) ≡ 0) (ap op_of e)
    (front_reply_gone w.conns k y rest is (i.once k (op_of y.token))))
    (λ q. absurd (cc))

pub takes : (w : World) (a : ℕ → ℕ) (k : ℕ) → (w.conns k).client_open ≡ true → ConnectionsHold w a
    → (ys : List Received) → (w.conns k).down ≡ ys → ConnectionsHold (take_reply w k ys) a
takes w a k o i [] is = i
takes w a k o i (y ∷ rest) is = takes_by w a k y rest is o i y.token refl

-- ---- Cut

pub cuts_ready : (w : World) (a : ℕ → ℕ) (k : ℕ) → ConnectionsHold w a → (b e : Bool) → b ≡ true
    → ConnectionsHold (with_client (cut_by w k (if b && e then CloseChannels else Nothing))
    (if b then (if e then end_session w.client else cut_channel w.client k) else w.client)) a
cuts_ready w a k i true true h = leave_keeps w.client w.conns a i
cuts_ready w a k i true false h = cut_keeps w.client w.conns a k i
cuts_ready w a k i false e h = absurd (cc)

pub cuts : (w : World) (a : ℕ → ℕ) (k : ℕ) → ConnectionsHold w a → ConnectionsHold (changed w (Cut k)) a
cuts w a k i =
    either (λ v. ConnectionsHold v a) (w.client.ready k) _ _ (λ ready. cuts_ready w a k i (w.client.ready k)
    (ends_at_cut w.client) ready) (λ apart. dialog_off_keeps w.client w.conns a k apart i)

-- ---- every event

-- the counts behind an event
abbrev pub after : World → Event → (ℕ → ℕ) → ℕ → ℕ
after w e a g = if acts_now w e g then a g + 1 else a g

pub closed_of : (w : World) (k : ℕ) → may_open w k ≡ true → (w.conns k).client_open ≡ false
closed_of w k m = not_true (w.conns k).client_open (front_of (not (w.conns k).client_open) _ (back_of (nat_lt k max_channel) _ m))

pub keeps : (w : World) (a : ℕ → ℕ) (e : Event) → ConnectionsHold w a → ConnectionsHold (happens w e) (after w e a)
keeps w a (Submit g op) i = submits w a g op i
keeps w a (Open k) i = either (λ v. ConnectionsHold v a) (may_open w k) _ _ (λ m. opened_keeps w.client w.conns a k _
    (closed_of w k m) i) (λ _. i)
keeps w a (Push k slotless pick) i = either (λ v. ConnectionsHold v a) (w.client.ready k) _ _
    (λ ready. pushes w a k slotless pick ready i) (λ _. i)
keeps w a (Serve k) i = serve_open w a k i (may_serve w k)
keeps w a (Take k) i = either (λ v. ConnectionsHold v a) ((w.conns k).client_open && is_filled (w.conns k).down) _ _
    (λ m. takes w a k (front_of (w.conns k).client_open _ m) i (w.conns k).down refl) (λ _. i)
keeps w a (Cut k) i = either (λ v. ConnectionsHold v a) (w.conns k).client_open _ _ (λ _. cuts w a k i) (λ _. i)
keeps w a (Drop k) i = either (λ v. ConnectionsHold v a) (w.conns k).server_open _ _ (λ _. dropped_keeps w.client w.conns a k i) (λ _. i)
keeps w a Restart i = restarts w a i
keeps w a (Crash k kept) i = crash_open w a k i kept (may_serve w k)
keeps w a (Wait n) i = i
keeps w a (Finish refusal) i = either (λ v. ConnectionsHold v a) (not w.client.live) _ _
    (λ d. finished_keeps w.client w.conns a (NoSession refusal) (not_true w.client.live d) i) (λ _. i)

-- ---- runs

pub no_conn_counts : (g : ℕ) → copies g no_conn ≤ 1
no_conn_counts g = grind arith

pub begins : (z : Settings) → ConnectionsHold (start z) (λ g. 0)
begins z =
    record {
      once = λ k g. grind arith;
      outstanding = λ k g o. absurd (cc);
      own_up = λ k n g x h. absurd (cc);
      attach_up = λ k n g x h. absurd (cc);
      own_down = λ k n g x h. absurd (cc);
      attach_down = λ k n g x h. absurd (cc);
      down_open = λ k o. refl;
      on_ready = λ g k e. absurd (cc);
      ready = λ k e. absurd (cc);
      stages = λ k e. absurd (cc);
      settled = λ g e. refl;
      taken = λ g e. absurd (cc);
      taken_on = λ g e. absurd (cc);
      creates = λ g l m. absurd (omega arith);
      lower = λ h n e. absurd (cc);
      has_open = λ g e. absurd (cc);
      asked_open = λ g e. absurd (cc);
      fresh = λ g e. (refl, refl, refl);
      bodies = λ k n g x h. absurd (cc);
      first = λ k n g x h. absurd (cc);
      unsent = λ g o b n u. refl;
      sent_replies = λ k n g y h. absurd (cc);
      deleted = λ k n g y h. absurd (cc);
    }

pub counts : List Event → World → (ℕ → ℕ) → ℕ → ℕ
counts [] w a = a
counts (e ∷ es) w a = counts es (happens w e) (after w e a)

pub always : (es : List Event) (w : World) (a : ℕ → ℕ) → ConnectionsHold w a → ConnectionsHold (run es w) (counts es w a)
unfolding run counts
always [] w a i = i
always (e ∷ es) w a i = always es (happens w e) (after w e a) (keeps w a e i)

pub one_more : (b : Bool) (x n : ℕ) → (if b then x + 1 else x) + n ≡ x + ((if b then 1 else 0) + n)
one_more true x n = omega arith
one_more false x n = omega arith

pub counts_acts : (es : List Event) (w : World) (a : ℕ → ℕ) (g : ℕ) → counts es w a g ≡ a g + acts es w g
unfolding counts acts
counts_acts [] w a g = omega arith
counts_acts (e ∷ es) w a g = counts_acts es (happens w e) (after w e a) g ∙ one_more (acts_now w e g) (a g) (acts es (happens w e) g)

pub from_zero : (n m : ℕ) → m ≡ 0 + n → m ≡ n
from_zero n m e = omega (arith, e)

pub same_counts : (es : List Event) (w : World) → counts es w (λ g. 0) ≡ acts es w
same_counts es w = λ t g. from_zero (acts es w g) (counts es w (λ x. 0) g) (counts_acts es w (λ x. 0) g) t

pub connections : (z : Settings) (es : List Event) → Connections (run es (start z)).client (run es (start z)).conns (acts es (start z))
connections z es = subst (λ a. Connections (run es (start z)).client (run es (start z)).conns a)
    (same_counts es (start z)) (always es (start z) (λ g. 0) (begins z))
