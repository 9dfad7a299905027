-- Each event keeps what holds of creates, and so does each run.
use Rattle.std.proofs.Common.{eqb-true, ◌≡◌, ℕ, ◌+◌, ◌≤◌, ◌<◌, ◌==◌, Bool, true, false, not, ◌&&◌, if◌then◌else◌, List}
use Rattle.std.proofs.Common.{[], ◌∷◌, refl, arith, sym, subst, ◌∙◌, ap, Option, Some, None, slice_get}
use Rattle.spec_exchange.specs.Table.{put, put2, is_filled}
use Rattle.spec_exchange.specs.Status.{success, user_session_deleted, disk_full, no_memory, duplicate_objectid}
use Rattle.spec_exchange.specs.State.{Reply, Answer}
use Rattle.spec_exchange.specs.Operations.{Op, Outcome, Unsettled, WasOk, WasRefused, NoSlot, NoOpen, Unknown}
use Rattle.spec_exchange.specs.Operations.{NoSession, OpReply, Why, WithStatus, IsDone, is_unsettled, is_ok, is_create}
use Rattle.spec_exchange.specs.Operations.{is_close, is_lock, value_in, id_in, weight, charge, reconnect_of}
use Rattle.spec_exchange.specs.Client.{Client, Stage, Apart, SaidNegotiate, SaidFirst, SaidSecond, AskedTree}
use Rattle.spec_exchange.specs.Client.{create_for, guid_for, may_take, outcome_at_first, may_push, has_its_slot}
use Rattle.spec_exchange.specs.Client.{needs_slot, goes_itself, lacks_slot, settle_no_slot, settle_no_slots, begin}
use Rattle.spec_exchange.specs.Client.{again, take_slot, outstanding, own_message, ask_message, cut_channel}
use Rattle.spec_exchange.specs.Client.{ends_at_cut, end_session, is_gone_after}
use Rattle.spec_exchange.specs.Settling.{Heard as Hearing, Settles, GoesAgain, Attaches, EndsSession, heard, hear}
use Rattle.spec_exchange.specs.Settling.{is_awaited, settle, settled, noted, noted_full, settles_open, with_no_opens}
use Rattle.spec_exchange.specs.Settling.{give_up_on, without_open, ok_or_unknown, was_closed, may_have_acted}
use Rattle.spec_exchange.specs.Settling.{refuses_all, goes_again, answered}
use Rattle.spec_exchange.specs.Dialogs.{DialogStep, GoesOn, Accepts, Binds, Readies, Refuses, dialog_step}
use Rattle.spec_exchange.specs.Dialogs.{dialog_message, stage_command, went_on, accepted}
use Rattle.spec_exchange.specs.ClientStep.{Pick, Act, Nothing, CloseChannels, pick_after, pick_act, act_heard, some_unsettled, IsReady}
use Rattle.spec_exchange.specs.Network.{World, Event, Submit, Open, Push, Serve, Take, Cut, Drop, Restart, Crash, Wait}
use Rattle.spec_exchange.specs.Network.{Finish, Conn, Sent, Received, Token, ForDialog, ForOp, ForAttach, op_of}
use Rattle.spec_exchange.specs.Network.{happens, changed, later, may_open, may_serve, pushed_by, answer, absorbed}
use Rattle.spec_exchange.specs.Network.{replied, serve_front, absorb_front, behind_front, take_front, take_reply}
use Rattle.spec_exchange.specs.Network.{took_by, dialog_took, op_took, closed_by, cut_by, with_client, send_up}
use Rattle.spec_exchange.specs.Network.{behind_reply, restarted, dialog_ended}
use Rattle.spec_exchange.specs.Runs.{front_acts, never_acted}
use Rattle.law_sessions.specs.messages.Connections.{Connections, copies, makes_open, acts_once}
use Rattle.law_sessions.proofs.messages.Lists.{front_up, front_down, own_up_count}
use Rattle.law_sessions.proofs.messages.Behind.{behind_keeps}
use Rattle.law_sessions.proofs.messages.Answered.{answered_keeps}
use Rattle.law_sessions.proofs.messages.Run.{next_of, found, both_ways, put_self, front_reply_gone, awaited_of, heard_firm}
use Rattle.law_sessions.proofs.messages.Run.{heard_ends, after, ended_well}
use Rattle.law_server.proofs.tables.Logic.{either, front_of, back_of}
use Rattle.law_sessions.specs.sessions.Sessions.{RankedUp, PresentAccepted, LiveAccepted, is_ops}
use Rattle.law_creates.specs.Creates.{Seen, seen, Creates, Restarts, guid_at, named, is_current, is_barred, refuses}
use Rattle.law_creates.specs.Creates.{is_of_dialog, is_of_ask}
use Rattle.law_creates.proofs.Facing.{once_of}
use Rattle.law_creates.proofs.Moved.{counted}
use Rattle.law_creates.proofs.Says.{SayFor}
use Rattle.law_creates.proofs.Served.{Below, facing, Good, answered as answered_by, accepts, ends}
use Rattle.law_creates.proofs.Submit.{submit_creates}
use Rattle.law_creates.proofs.Opened.{opened_creates}
use Rattle.law_creates.proofs.Dropped.{dropped_creates}
use Rattle.law_creates.proofs.Outcomes.{outcomes_creates}
use Rattle.law_creates.proofs.TakeSlot.{take_slot_creates}
use Rattle.law_creates.proofs.Start.{start_creates}
use Rattle.law_creates.proofs.Front.{front_creates}
use Rattle.law_creates.proofs.Behind.{behind_creates}
use Rattle.law_creates.proofs.WentOn.{went_on_creates}
use Rattle.law_creates.proofs.Accepted.{accepted_creates}
use Rattle.law_creates.proofs.DialogRefused.{dialog_refused_creates}
use Rattle.law_creates.proofs.DialogSent.{dialog_sent_creates}
use Rattle.law_creates.proofs.Bound.{bound_creates}
use Rattle.law_creates.proofs.Readied.{readied_creates}
use Rattle.law_creates.proofs.DialogOff.{dialog_off_creates}
use Rattle.law_creates.proofs.Cut.{cut_creates}
use Rattle.law_creates.proofs.Leave.{leave_creates}
use Rattle.law_creates.proofs.Answered.{answered_creates}
use Rattle.law_creates.proofs.Opens.{opens_creates}
use Rattle.law_creates.proofs.Joined.{joined_creates}
use Rattle.law_creates.proofs.Shuts.{shuts_creates}
use Rattle.law_creates.proofs.Fills.{fills_creates}
use Rattle.law_creates.proofs.Retried.{retried_creates}
use Rattle.law_creates.proofs.Finished.{finished_creates}
use Rattle.law_creates.proofs.Settle.{settle_creates}
use Rattle.law_creates.proofs.Send.{send_creates}
use Rattle.law_creates.proofs.Ask.{ask_creates}
use Rattle.law_creates.proofs.Say.{say_creates}
use Rattle.law_creates.proofs.Restarted.{restarted_creates}

abbrev pub CreatesHold : World → (ℕ → ℕ) → Type 0
CreatesHold w a = Creates w.client w.conns (seen w.server) a

-- ---- Submit

first_out : (c : Client) (g : ℕ) (op : Op) → makes_open op ≡ true → outcome_at_first c g op ≡ Unsettled
unfolding makes_open
first_out c g op e = grind arith

submits : (w : World) (a : ℕ → ℕ) (g : ℕ) (op : Op) → Connections w.client w.conns a → CreatesHold w a
    → CreatesHold (changed w (Submit g op)) a
submits w a g op f i =
    either (λ d. Creates d w.conns (seen w.server) a) (may_take w.client g op) _ _
    (λ may. submit_creates w.client w.conns (seen w.server) a g op (outcome_at_first w.client g op)
    (next_of w.client g op may) (first_out w.client g op) f i)
    (λ _. i)

-- ---- Push

lock_makes_none : (op : Op) (b : Bool) → (is_lock op && b) ≡ true → makes_open op ≡ false
unfolding makes_open
lock_makes_none op b e = grind arith

put_other : (f : ℕ → Outcome) (g h : ℕ) (o : Outcome) → (h ≡ g → true ≡ false) → put f g o h ≡ f h
put_other f g h o d = elim (h == g) as (λ b. h == g ≡ b → put f g o h ≡ f h)
    [ true ↦ λ e. absurd (let x = d (eqb-true h g e) in cc) | false ↦ λ e. grind arith ] refl

no_slot : (c : Client) (conns : ℕ → Conn) (v : Seen) (a : ℕ → ℕ) (k g : ℕ) → Creates c conns v a → Creates (settle_no_slot c k g) conns v a
no_slot c conns v a k g i =
    either (λ d. Creates d conns v a) (lacks_slot c k g) _ _
    (λ lacks. let other = lock_makes_none (c.op g) _
    (front_of (needs_slot c g) _ (back_of (goes_itself c g) _ (back_of (may_push c k g) _ lacks))) in
    outcomes_creates c conns v a (put c.outcome g (NoSlot (create_for c g)))
    (λ h mk. put_other c.outcome g h _ (λ e. sym mk ∙ (ap (λ x. makes_open (c.op x)) e ∙ other))) i)
    (λ _. i)

no_slots : (c : Client) (conns : ℕ → Conn) (v : Seen) (a : ℕ → ℕ) (k : ℕ) (gs : List ℕ) → Creates c conns v a
    → Creates (settle_no_slots c k gs) conns v a
unfolding settle_no_slots
no_slots c conns v a k [] i = i
no_slots c conns v a k (g ∷ gs) i = no_slots (settle_no_slot c k g) conns v a k gs (no_slot c conns v a k g i)

live_still : (c : Client) (k g : ℕ) → (settle_no_slot c k g).live ≡ c.live
live_still c k g = either (λ d. d.live ≡ c.live) (lacks_slot c k g) (record c {
  outcome = put c.outcome g (NoSlot (create_for c g));
}) c (λ _. refl) (λ _. refl)

live_stays : (c : Client) (k : ℕ) (gs : List ℕ) → (settle_no_slots c k gs).live ≡ c.live
unfolding settle_no_slots
live_stays c k [] = refl
live_stays c k (g ∷ gs) = live_stays (settle_no_slot c k g) k gs ∙ live_still c k g

abbrev Out : (ℕ → Conn) → Seen → (ℕ → ℕ) → ℕ → ℕ → Client → Type 0
Out conns v a k g c = Creates (outstanding c k g)
    (put conns k (send_up (conns k) (ForOp g) (own_message c k (conns k).next_id g) (charge (weight (c.op g))))) v a

sent_out : (c : Client) (conns : ℕ → Conn) (v : Seen) (a : ℕ → ℕ) (k g : ℕ) → c.live ≡ true → is_unsettled (c.outcome g)
    ≡ true → Creates c conns v a → Out conns v a k g c
sent_out c conns v a k g live pending i = send_creates c conns v a k g (charge (weight (c.op g)))
    (own_message c k (conns k).next_id g) pending live refl i

begun_out : (c : Client) (conns : ℕ → Conn) (v : Seen) (a : ℕ → ℕ) (k g s : ℕ) → c.live ≡ true
    → is_unsettled (c.outcome g) ≡ true → Creates c conns v a → (b : Bool) → c.sent g ≡ b
    → Out conns v a k g (if b then again c g else begin c g s)
begun_out c conns v a k g s live pending i true e =
    either (Out conns v a k g) (is_lock (c.op g)) _ _
    (λ _. sent_out (record c { retried = put2 c.retried (create_for c g) (c.slot_of g) c.session_number }) conns v a k g
    live pending (retried_creates c conns v a (create_for c g) (c.slot_of g) i))
    (λ _. sent_out c conns v a k g live pending i)
begun_out c conns v a k g s live pending i false e =
    either (Out conns v a k g) (is_lock (c.op g)) _ _
    (λ _. sent_out (record (take_slot c g s) { sent = put c.sent g true }) conns v a k g live pending
    (start_creates (take_slot c g s) conns v a g live (take_slot_creates c conns v a g s i)))
    (λ _. sent_out (record c { sent = put c.sent g true }) conns v a k g live pending (start_creates c conns v a g live i))

asks_for : (op : Op) (guid file : ℕ) → is_of_ask (reconnect_of op guid file) ≡ true
asks_for op guid file = grind arith

other_goes : (c : Client) (g : ℕ) → goes_itself c g ≡ false → makes_open (c.op g) ≡ false
unfolding makes_open
other_goes c g e = grind arith

pushes_op : (w : World) (a : ℕ → ℕ) (k g s : ℕ) (c : Client) → c.live ≡ true → Creates c w.conns (seen w.server) a
    → CreatesHold (pushed_by w k (pick_after c k (Some (record { op = g; slot = s })))
    (pick_act c k (Some (record { op = g; slot = s })))) a
pushes_op w a k g s c live i =
    let P : Client → Act → Type 0 = λ d x. CreatesHold (pushed_by w k d x) a in
    both_ways P (may_push c k g) _ _ _ _
    (λ may. let m = found c k g may in
    both_ways P (goes_itself c g) _ _ _ _
    (λ _. both_ways P (has_its_slot c g s) _ _ _ _ (λ _. begun_out c w.conns (seen w.server) a k g s live m.pending i
    (c.sent g) refl) (λ _. i))
    (λ e. ask_creates c w.conns (seen w.server) a k g 1 (ask_message c k (w.conns k).next_id g) (other_goes c g e)
    m.within (asks_for (c.op (create_for c g)) (guid_for c (create_for c g)) (c.file (create_for c g))) i))
    (λ _. i)

picks : (w : World) (a : ℕ → ℕ) (k : ℕ) (c : Client) (pick : Option Pick) → c.live ≡ true
    → Creates c w.conns (seen w.server) a → CreatesHold (pushed_by w k (pick_after c k pick) (pick_act c k pick)) a
picks w a k c None live i = either (λ x. CreatesHold (pushed_by w k c x) a) (some_unsettled c c.taken) _ _ (λ _. i) (λ _. i)
picks w a k c (Some p) live i = pushes_op w a k p.op p.slot c live i

pushes : (w : World) (a : ℕ → ℕ) (k : ℕ) (slotless : List ℕ) (pick : Option Pick) → w.client.ready k ≡ true
    → w.client.live ≡ true → CreatesHold w a → CreatesHold (changed w (Push k slotless pick)) a
pushes w a k slotless pick ready live i =
    both_ways (λ d x. CreatesHold (pushed_by w k d x) a) (w.client.ready k) _ _ _ _
    (λ _. picks w a k (settle_no_slots w.client k slotless) pick (live_stays w.client k slotless ∙ live)
    (no_slots w.client w.conns (seen w.server) a k slotless i))
    (λ off. absurd (grind arith))

-- ---- Serve

heads : (w : World) (a : ℕ → ℕ) (k : ℕ) (x : Sent) (rest : List Sent) → (w.conns k).up ≡ x ∷ rest
    → Connections w.client w.conns a → Below w.client w.conns w.server → CreatesHold w a → Good w.client w.conns a
    x.token (answer w x)
heads w a k x rest is f b i =
    answered_by w.client w.conns a w.server w.moment k x f
    (facing w.client w.conns w.server k x b (front_up (w.conns k).up x rest is)) i x.message.command refl

takes_front : (w : World) (a : ℕ → ℕ) (k : ℕ) (x : Sent) (rest : List Sent) → (w.conns k).up ≡ x ∷ rest
    → Good w.client w.conns a x.token (answer w x) → CreatesHold (absorbed w k x rest (answer w x))
    (counted a x.token (answer w x).acted)
takes_front w a k x rest is good = front_creates w.client w.conns (seen (answer w x).server)
    (counted a x.token (answer w x).acted) k x rest is good.0

says : (w : World) (a : ℕ → ℕ) (k : ℕ) (x : Sent) (rest : List Sent) (place : ℕ) → (w.conns k).up ≡ x ∷ rest
    → Good w.client w.conns a x.token (answer w x)
    → CreatesHold (replied (absorbed w k x rest (answer w x)) k (record {
      token = x.token;
      reply = (answer w x).reply;
      place = place;
    })) (counted a x.token (answer w x).acted)
says w a k x rest place is good =
    let f : ℕ → Conn = put w.conns k (behind_front (w.conns k) rest) in
    let A : Answer = answer w x in
    let j = takes_front w a k x rest is good in
    let said = good.1 in
    either (λ d. Creates w.client (put f k d) (seen A.server) (counted a x.token A.acted)) (f k).client_open _ _
    (λ o. say_creates w.client f (seen A.server) (counted a x.token A.acted) k (record { token = x.token; reply = A.reply; place = place })
    (λ g t mk. (said g t mk).never) (λ g t mk. (said g t mk).barred) (λ g t mk. (said g t mk).acted)
    (λ g t mk. (said g t mk).guid) (λ g o t mk. (said g t mk).names o) j)
    (λ _. subst (λ d. Creates w.client d (seen A.server) (counted a x.token A.acted)) (put_self f k) j)

serves : (w : World) (a : ℕ → ℕ) (k : ℕ) → Connections w.client w.conns a → Below w.client w.conns w.server
    → CreatesHold w a → (xs : List Sent) → (w.conns k).up ≡ xs → CreatesHold (serve_front w k xs)
    (λ g. if front_acts w xs g then a g + 1 else a g)
serves w a k f b i [] is = i
serves w a k f b i (x ∷ rest) is = says w a k x rest w.log.places is (heads w a k x rest is f b i)

absorbs : (w : World) (a : ℕ → ℕ) (k : ℕ) → Connections w.client w.conns a → Below w.client w.conns w.server
    → CreatesHold w a → (xs : List Sent) → (w.conns k).up ≡ xs → CreatesHold (absorb_front w k xs)
    (λ g. if front_acts w xs g then a g + 1 else a g)
absorbs w a k f b i [] is = i
absorbs w a k f b i (x ∷ rest) is = takes_front w a k x rest is (heads w a k x rest is f b i)

serve_open : (w : World) (a : ℕ → ℕ) (k : ℕ) → Connections w.client w.conns a → Below w.client w.conns w.server
    → CreatesHold w a → (b : Bool)
    → CreatesHold (if b then later (serve_front w k (w.conns k).up) 1 else w) (λ g. if b && front_acts w (w.conns k).up
    g then a g + 1 else a g)
serve_open w a k f b i true = serves w a k f b i (w.conns k).up refl
serve_open w a k f b i false = i

-- ---- Restart and Crash

abbrev pub StartsAnew : World → Type 0
StartsAnew w = Restarts (seen w.server) (seen (restarted w).server)

restarts : (w : World) (a : ℕ → ℕ) → StartsAnew w → CreatesHold w a → CreatesHold (restarted w) a
restarts w a r i = restarted_creates w.client w.conns (seen w.server) a (seen (restarted w).server) r i

crash_open : (w : World) (a : ℕ → ℕ) (k : ℕ) → Connections w.client w.conns a → Below w.client w.conns w.server
    → StartsAnew w → (may_serve w k ≡ true → StartsAnew (absorb_front w k (w.conns k).up)) → CreatesHold w a
    → (kept b : Bool) → may_serve w k ≡ b
    → CreatesHold (if b then later (if kept then restarted (absorb_front w k (w.conns k).up) else restarted w) 1 else w)
    (λ g. if kept && (b && front_acts w (w.conns k).up g) then a g + 1 else a g)
crash_open w a k f b r s i true true e = restarts (absorb_front w k (w.conns k).up) _ (s e) (absorbs w a k f b i (w.conns k).up refl)
crash_open w a k f b r s i true false e = i
crash_open w a k f b r s i false true e = restarts w a r i
crash_open w a k f b r s i false false e = i

-- ---- Take: what a reply to a create settles

abbrev pub outcome_in : Hearing → Outcome
outcome_in (Settles o) = o
outcome_in GoesAgain = Unsettled
outcome_in Attaches = Unsettled
outcome_in EndsSession = Unsettled

-- that it settles as never acted is by a status that refuses, and as Ok by success
pub record Tells (unanswered : Bool) (status : ℕ) (h : Hearing) : Type 0 where
  pub refused : never_acted (outcome_in h) ≡ true → refuses unanswered status ≡ true
  pub ok : is_ok (outcome_in h) ≡ true → status ≡ success

plain_tells : (unanswered : Bool) (status : ℕ) (why : Why) → Tells unanswered status (Settles (Unknown why))
plain_tells unanswered status why = record { refused = λ e. absurd (cc); ok = λ e. absurd (cc) }

ok_tells : (unanswered : Bool) (status : ℕ) → (status == success) ≡ true → (u : Option OpReply) → Tells unanswered status (ok_or_unknown u)
ok_tells unanswered status e None = record { refused = λ q. absurd (cc); ok = λ q. absurd (cc) }
ok_tells unanswered status e (Some reply) = record { refused = λ q. absurd (cc); ok = λ q. eqb-true status success e }

refusal_tells : (unanswered : Bool) (status : ℕ) → refuses unanswered status ≡ true → Tells unanswered status (Settles (WasRefused status))
refusal_tells unanswered status e = record { refused = λ q. e; ok = λ q. absurd (cc) }

abbrev line_of : Bool → Bool → Bool → Bool → ℕ → Hearing
line_of unanswered closed may all status =
    if not unanswered then Settles (WasRefused status)
    else if closed then Settles (WasOk IsDone)
    else if may then Settles (Unknown (WithStatus status))
    else if all then Settles (WasRefused status)
    else Settles (Unknown (WithStatus status))

line_tells : (unanswered closed may all : Bool) (status : ℕ) → closed ≡ false → may ≡ (status == duplicate_objectid)
    → all ≡ not (status == no_memory) → (status == user_session_deleted) ≡ false → (status == success) ≡ false
    → Tells unanswered status (line_of unanswered closed may all status)
line_tells unanswered closed may all status e1 e2 e3 d s =
    let P : Hearing → Type 0 = λ h. Tells unanswered status h in
    either P (not unanswered) _ _ (λ n. refusal_tells unanswered status (grind arith))
    (λ n. either P closed _ _ (λ c. absurd (grind arith))
    (λ _. either P may _ _ (λ _. plain_tells unanswered status _)
    (λ m. either P all _ _ (λ al. refusal_tells unanswered status (grind arith)) (λ _. plain_tells unanswered status _))))

no_close : (op : Op) → makes_open op ≡ true → (status : ℕ) → was_closed op false status ≡ false
unfolding makes_open
no_close op e status = grind arith

may_if : (op : Op) → makes_open op ≡ true → (status : ℕ) → may_have_acted op false status ≡ (status == duplicate_objectid)
unfolding makes_open
may_if op e status = grind arith

all_but : (op : Op) → makes_open op ≡ true → (status : ℕ) → refuses_all op status ≡ not (status == no_memory)
unfolding makes_open
all_but op e status = grind arith

heard_tells : (c : Client) (g : ℕ) (r : Reply) → makes_open (c.op g) ≡ true → Tells (c.unanswered g) r.status (heard c g false r)
heard_tells c g r mk =
    let P : Hearing → Type 0 = λ h. Tells (c.unanswered g) r.status h in
    either P (r.status == user_session_deleted) _ _ (λ _. record { refused = λ e. absurd (cc); ok = λ e. absurd (cc) })
    (λ d. either P (r.status == success) _ _ (λ s. ok_tells (c.unanswered g) r.status s (value_in (c.op g) r.body))
    (λ s. either P (goes_again c g false r.status) _ _ (λ _. record { refused = λ e. absurd (cc); ok = λ e. absurd (cc) })
    (λ _. line_tells (c.unanswered g) (was_closed (c.op g) false r.status) (may_have_acted (c.op g) false r.status)
    (refuses_all (c.op g) r.status) r.status (no_close (c.op g) mk r.status) (may_if (c.op g) mk r.status)
    (all_but (c.op g) mk r.status) d s)))

-- ---- the reply that settles

-- a table in which this operation may settle so
pub record MaySettle (d : Client) (conns : ℕ → Conn) (v : Seen) (a : ℕ → ℕ) (g : ℕ) (o : Outcome) : Type 0 where
  pub creates : Creates d conns v a
  pub never : makes_open (d.op g) ≡ true → never_acted o ≡ true → a g ≡ 0
  pub acted : makes_open (d.op g) ≡ true → is_ok o ≡ true → 1 ≤ a g
  pub barred : (j n : ℕ) (y : Sent) → slice_get (conns j).up n ≡ Some y → y.token ≡ ForOp g → makes_open (d.op g) ≡ true
      → never_acted o ≡ true → v.present y.message.session_id ≡ true → is_barred d v y.message.session_id g ≡ true
  pub guid : makes_open (d.op g) ≡ true → is_ok o ≡ true → d.file g ≤ v.last
      × (v.standing (d.file g) ≡ true → (v.opened (d.file g)).client_guid ≡ d.who.guid
      × (v.opened (d.file g)).create_guid ≡ Some (guid_at d g))
  pub names : (p : ℕ) → makes_open (d.op g) ≡ true → is_ok o ≡ true → named d v g ≡ Some p → p ≡ d.file g

-- what is known of a create whose own reply settles it
pub record CreateAnswered (c : Client) (conns : ℕ → Conn) (v : Seen) (a : ℕ → ℕ) (g : ℕ) (r : Reply) (o : Outcome) : Type 0 where
  pub never : makes_open (c.op g) ≡ true → never_acted o ≡ true → a g ≡ 0
  pub acted : makes_open (c.op g) ≡ true → is_ok o ≡ true → 1 ≤ a g
  pub barred : (j n : ℕ) (y : Sent) → slice_get (conns j).up n ≡ Some y → y.token ≡ ForOp g → makes_open (c.op g) ≡ true
      → never_acted o ≡ true → v.present y.message.session_id ≡ true → is_barred c v y.message.session_id g ≡ true
  pub guid : makes_open (c.op g) ≡ true → is_ok o ≡ true → id_in r.body ≤ v.last
      × (v.standing (id_in r.body) ≡ true → (v.opened (id_in r.body)).client_guid ≡ c.who.guid
      × (v.opened (id_in r.body)).create_guid ≡ Some (guid_at c g))
  pub names : (p : ℕ) → makes_open (c.op g) ≡ true → is_ok o ≡ true → named c v g ≡ Some p → p ≡ id_in r.body

create_makes : (op : Op) → makes_open op ≡ true → is_create op ≡ false → true ≡ false
unfolding makes_open
create_makes op e f = sym e ∙ f

put_at : (f : ℕ → ℕ) (g n : ℕ) → put f g n g ≡ n
put_at f g n = grind arith

not_ok : (c : Client) (conns : ℕ → Conn) (v : Seen) (a : ℕ → ℕ) (g : ℕ) (r : Reply) (o : Outcome) → is_ok o ≡ false
    → Creates c conns v a → CreateAnswered c conns v a g r o → MaySettle c conns v a g o
not_ok c conns v a g r o e i t =
    record {
      creates = i;
      never = t.never;
      acted = t.acted;
      barred = t.barred;
      guid = λ mk ok. absurd (grind arith);
      names = λ p mk ok. absurd (grind arith);
    }

not_create : (c d : Client) (conns : ℕ → Conn) (v : Seen) (a : ℕ → ℕ) (g : ℕ) (o : Outcome) → is_create (d.op g) ≡ false
    → Creates d conns v a → MaySettle d conns v a g o
not_create c d conns v a g o e i =
    record {
      creates = i;
      never = λ mk. absurd (let h = create_makes (d.op g) mk e in cc);
      acted = λ mk. absurd (let h = create_makes (d.op g) mk e in cc);
      barred = λ j n y u tk mk. absurd (let h = create_makes (d.op g) mk e in cc);
      guid = λ mk. absurd (let h = create_makes (d.op g) mk e in cc);
      names = λ p mk. absurd (let h = create_makes (d.op g) mk e in cc);
    }

noted_may : (c : Client) (conns : ℕ → Conn) (v : Seen) (a : ℕ → ℕ) (g : ℕ) (r : Reply) → is_unsettled (c.outcome g)
    ≡ true → Creates c conns v a → (o : Outcome) → CreateAnswered c conns v a g r o → MaySettle (noted c g o r.body)
    conns v a g o
noted_may c conns v a g r pending i (WasOk reply) t =
    either (λ d. MaySettle d conns v a g (WasOk reply)) (is_create (c.op g)) _ _
    (λ e. let at = put_at c.file g (id_in r.body) in
    record {
      creates = opens_creates c conns v a g (id_in r.body) pending i;
      never = t.never;
      acted = t.acted;
      barred = t.barred;
      guid = λ mk ok. subst (λ n. n ≤ v.last × (v.standing n ≡ true → (v.opened n).client_guid ≡ c.who.guid
          × (v.opened n).create_guid ≡ Some (guid_at c g))) (sym at) (t.guid mk ok);
      names = λ p mk ok q. t.names p mk ok q ∙ sym at;
    })
    (λ e. either (λ d. MaySettle d conns v a g (WasOk reply)) (is_close (c.op g)) _ _
    (λ _. not_create c (record c { closed_ok = put c.closed_ok (create_for c g) true }) conns v a g (WasOk reply) e
    (shuts_creates c conns v a (create_for c g) i))
    (λ _. not_create c c conns v a g (WasOk reply) e i))
noted_may c conns v a g r pending i Unsettled t = not_ok c conns v a g r Unsettled refl i t
noted_may c conns v a g r pending i (WasRefused status) t = not_ok c conns v a g r (WasRefused status) refl i t
noted_may c conns v a g r pending i (NoSlot create) t = not_ok c conns v a g r (NoSlot create) refl i t
noted_may c conns v a g r pending i (NoOpen create) t = not_ok c conns v a g r (NoOpen create) refl i t
noted_may c conns v a g r pending i (Unknown why) t = not_ok c conns v a g r (Unknown why) refl i t

full_may : (d : Client) (conns : ℕ → Conn) (v : Seen) (a : ℕ → ℕ) (g : ℕ) (asking : Bool) (status : ℕ) (o : Outcome)
    → MaySettle d conns v a g o → MaySettle (noted_full d g asking status) conns v a g o
full_may d conns v a g asking status o m =
    either (λ e. MaySettle e conns v a g o) (is_lock (d.op g) && (not asking && (status == disk_full))) _ _
    (λ _. record {
      creates = fills_creates d conns v a (create_for d g) (d.slot_of g) m.creates;
      never = m.never;
      acted = m.acted;
      barred = m.barred;
      guid = m.guid;
      names = m.names;
    })
    (λ _. m)

no_names : (b : Bool) (op : Op) → makes_open op ≡ true → (b && not (is_create op)) ≡ false
unfolding makes_open
no_names b op e = grind arith

unnamed : (names sent gone : Bool) (create : ℕ) (o : Outcome) → names ≡ false → without_open names sent gone create o ≡ o
unnamed names sent gone create Unsettled e = grind arith
unnamed names sent gone create (WasOk reply) e = refl
unnamed names sent gone create (WasRefused status) e = refl
unnamed names sent gone create (NoSlot n) e = refl
unnamed names sent gone create (NoOpen n) e = refl
unnamed names sent gone create (Unknown why) e = refl

settles_in : (d : Client) (conns : ℕ → Conn) (v : Seen) (a : ℕ → ℕ) (g place create : ℕ) (o : Outcome) (b : Bool)
    → is_unsettled o ≡ false → MaySettle d conns v a g o
    → Creates (if b then with_no_opens (settled d g o place) create else settled d g o place) conns v a
settles_in d conns v a g place create o b firm m =
    let s = settle_creates d conns v a g place o m.never m.acted m.barred m.guid m.names firm m.creates in
    let e = settled d g o place in
    either (λ x. Creates x conns v a) b (with_no_opens e create) e
    (λ _. outcomes_creates e conns v a (give_up_on e create)
    (λ h mk. unnamed ((create_for e h == create) && not (is_create (e.op h))) (e.sent h)
    (is_gone_after e create (e.outcome create)) create (e.outcome h) (no_names (create_for e h == create) (e.op h)
    mk)) s)
    (λ _. s)

settles : (c : Client) (conns : ℕ → Conn) (v : Seen) (a : ℕ → ℕ) (g : ℕ) (asking : Bool) (r : Reply) (place : ℕ)
    (o : Outcome) → is_unsettled (c.outcome g) ≡ true → is_unsettled o ≡ false → Creates c conns v a
    → CreateAnswered c conns v a g r o
    → Creates (settle c g asking r place o) conns v a
settles c conns v a g asking r place o pending firm i t =
    settles_in (noted_full (noted c g o r.body) g asking r.status) conns v a g place (create_for c g) o
    (settles_open (c.op g)) firm (full_may (noted c g o r.body) conns v a g asking r.status o
    (noted_may c conns v a g r pending i o t))

-- ---- what a reply does

unsettled_on : (c : Client) (g k : ℕ) → ((h : ℕ) → is_unsettled (c.outcome h) ≡ false → c.outstanding_on h ≡ None)
    → c.outstanding_on g ≡ Some k → is_unsettled (c.outcome g) ≡ true
unsettled_on c g k f e = elim (is_unsettled (c.outcome g)) as (λ b. is_unsettled (c.outcome g) ≡ b → b ≡ true)
    [ true ↦ λ q. refl | false ↦ λ q. let h = f g q in absurd (grind arith) ] refl

-- no copy waits where its only one was answered
none_waits : (c : Client) (conns : ℕ → Conn) (a : ℕ → ℕ) (k g j n : ℕ) (y : Sent) → Connections c conns a
    → c.outstanding_on g ≡ Some k → copies g (conns k) ≡ 0 → makes_open (c.op g) ≡ true → c.unanswered g ≡ false
    → slice_get (conns j).up n ≡ Some y → y.token ≡ ForOp g → true ≡ false
none_waits c conns a k g j n y f on none mk b h t =
    let fs = f.first j n g y h t (once_of c g mk) b in
    let bd = f.bodies j n g y h t in let tk = f.taken g bd.0 in
    let n1 = own_up_count g (conns j).up n y h t in
    let u = f.outstanding j g fs.0 (omega (arith, n1)) tk.0 in
    let same : j ≡ k = grind arith in
    let n2 : copies g (conns j) ≡ 0 = subst (λ q. copies g (conns q) ≡ 0) (sym same) none in
    absurd (omega (arith, n1, n2))

current_of : (c : Client) (v : Seen) (y : ℕ) → c.live ≡ true → v.present y ≡ true → c.session ≡ y → is_current c v ≡ true
current_of c v y l p e = grind arith

told : (c : Client) (conns : ℕ → Conn) (v : Seen) (a : ℕ → ℕ) (k g : ℕ) (r : Reply) (o : Outcome)
    → Connections c conns a → c.outstanding_on g ≡ Some k → copies g (conns k) ≡ 0 → RankedUp c conns
    → ((x : ℕ) → v.present x ≡ true → 0 < c.rank x → x ≡ c.accepted) → LiveAccepted c
    → (makes_open (c.op g) ≡ true → SayFor c v a g r)
    → (makes_open (c.op g) ≡ true → Tells (c.unanswered g) r.status (Settles o)) → CreateAnswered c conns v a g r o
told c conns v a k g r o f on none ranked here lives said tells =
    record {
      never = λ mk e. (said mk).never ((tells mk).refused e);
      acted = λ mk e. (said mk).acted ((tells mk).ok e);
      barred = λ j n y h t mk e p. by_before j n y h t mk e p (c.unanswered g) refl;
      guid = λ mk e. (said mk).guid ((tells mk).ok e);
      names = λ p mk e. (said mk).names p ((tells mk).ok e);
    }
  where
    by_before : (j n : ℕ) (y : Sent) → slice_get (conns j).up n ≡ Some y → y.token ≡ ForOp g → makes_open (c.op g)
        ≡ true → never_acted o ≡ true → v.present y.message.session_id ≡ true → (b : Bool) → c.unanswered g ≡ b
        → is_barred c v y.message.session_id g ≡ true
    by_before j n y h t mk e p false b = absurd (let x = none_waits c conns a k g j n y f on none mk b h t in cc)
    by_before j n y h t mk e p true b =
        let rd = f.on_ready g k on in let lv = (f.ready k rd.0).1 in
        let same : c.session ≡ y.message.session_id = (lives lv).0 ∙ sym (here y.message.session_id p (ranked j n y h (ap is_ops t))) in
        let q : refuses true r.status ≡ true = subst (λ x. refuses x r.status ≡ true) b ((tells mk).refused e) in
        subst (λ x. is_barred c v x g ≡ true) same ((said mk).barred b q (current_of c v y.message.session_id lv p same))

hears : (w : World) (a : ℕ → ℕ) (k g : ℕ) (asking : Bool) (r : Reply) (place : ℕ) → Connections w.client w.conns a
    → CreatesHold w a → RankedUp w.client w.conns → PresentAccepted w.client w.server → LiveAccepted w.client
    → w.client.outstanding_on g ≡ Some k → w.client.asks_attach g ≡ asking → copies g (w.conns k) ≡ 0
    → (asking ≡ false → makes_open (w.client.op g) ≡ true → SayFor w.client (seen w.server) a g r)
    → (asking ≡ false → acts_once (w.client.op g) ≡ true → r.status ≡ user_session_deleted → w.client.unanswered g ≡ false → a g ≡ 0)
    → (h : Hearing) → heard w.client g asking r ≡ h
    → CreatesHold (with_client (closed_by w k (act_heard h)) (hear w.client g asking r place h)) a
hears w a k g asking r place f i ranked here lives on asks none said gone (Settles o) e =
    let c = w.client in
    let own : makes_open (c.op g) ≡ true → asking ≡ false = λ mk. own_asks (c.asks_attach g) asking asks
    (λ q. sym mk ∙ (i.asking_other g q).0) in
    settles c w.conns (seen w.server) a g asking r place o (unsettled_on c g k f.settled on) (heard_firm c g asking r o e) i
    (told c w.conns (seen w.server) a k g r o f on none ranked here lives (λ mk. said (own mk) mk)
    (λ mk. subst (λ h. Tells (c.unanswered g) r.status h) (ap (λ b. heard c g b r) (sym (own mk)) ∙ e) (heard_tells c g r mk)))
  where
    own_asks : (x y : Bool) → x ≡ y → (x ≡ true → true ≡ false) → y ≡ false
    own_asks true y e f = absurd (let q = f refl in cc)
    own_asks false y e f = sym e
hears w a k g asking r place f i ranked here lives on asks none said gone GoesAgain e = answered_creates w.client
    w.conns (seen w.server) a g i
hears w a k g asking r place f i ranked here lives on asks none said gone Attaches e = joined_creates w.client w.conns (seen w.server) a g i
hears w a k g asking r place f i ranked here lives on asks none said gone EndsSession e =
    leave_creates (answered w.client g) w.conns (seen w.server) a
    (answered_keeps w.client w.conns a k g on none (λ o b q. gone (sym asks ∙ q) o (heard_ends w.client g asking r e) b)
    f) (answered_creates w.client w.conns (seen w.server) a g i)

took : (w : World) (a : ℕ → ℕ) (k g : ℕ) (asking : Bool) (r : Reply) (place : ℕ) → Connections w.client w.conns a
    → CreatesHold w a → RankedUp w.client w.conns → PresentAccepted w.client w.server → LiveAccepted w.client
    → copies g (w.conns k) ≡ 0
    → (asking ≡ false → makes_open (w.client.op g) ≡ true → SayFor w.client (seen w.server) a g r)
    → (asking ≡ false → acts_once (w.client.op g) ≡ true → r.status ≡ user_session_deleted → w.client.unanswered g
    ≡ false → a g ≡ 0) → CreatesHold (op_took w k g asking r place) a
took w a k g asking r place f i ranked here lives none said gone =
    both_ways (λ c x. CreatesHold (with_client (closed_by w k x) c) a) (is_awaited w.client k g asking)
    (hear w.client g asking r place (heard w.client g asking r)) w.client (act_heard (heard w.client g asking r))
    Nothing
    (λ aw. let q = awaited_of w.client k g asking aw in hears w a k g asking r place f i ranked here lives q.0 q.1 none
    said gone (heard w.client g asking r) refl)
    (λ _. i)

-- ---- dialogs

says_dialog : (c : Client) (stage : Stage) → is_of_dialog (stage_command c stage) ≡ true
says_dialog c Apart = refl
says_dialog c (SaidNegotiate bound) = refl
says_dialog c (SaidFirst bound) = refl
says_dialog c (SaidSecond bound) = refl
says_dialog c AskedTree = refl

ends_dialog : (w : World) (a : ℕ → ℕ) (k session tree : ℕ) → Connections w.client w.conns a → CreatesHold w a
    → CreatesHold (dialog_ended w k (IsReady k session tree)) a
ends_dialog w a k session tree f i =
    ended_well (λ v. CreatesHold v a) w k session tree (λ _. bound_creates w.client w.conns (seen w.server) a k i)
    (λ dead _. readied_creates w.client w.conns (seen w.server) a k session tree dead f i)
    (dialog_off_creates w.client w.conns (seen w.server) a k i)

dialogs : (w : World) (a : ℕ → ℕ) (k : ℕ) (r : Reply) → Connections w.client w.conns a → CreatesHold w a
    → (d : DialogStep) → dialog_step (w.client.stage k) r.status ≡ d → CreatesHold (dialog_took w k r d) a
dialogs w a k r f i (GoesOn stage) e =
    dialog_sent_creates (went_on w.client k stage r) w.conns (seen w.server) a k 1
    (dialog_message (went_on w.client k stage r) k (w.conns k).next_id stage)
    (says_dialog (went_on w.client k stage r) stage)
    (went_on_creates w.client w.conns (seen w.server) a k stage r i)
dialogs w a k r f i Accepts e =
    dialog_sent_creates (accepted w.client k) w.conns (seen w.server) a k 1
    (dialog_message (accepted w.client k) k (w.conns k).next_id AskedTree) refl
    (accepted_creates w.client w.conns (seen w.server) a k i)
dialogs w a k r f i Binds e = ends_dialog w a k w.client.session w.client.tree f i
dialogs w a k r f i Readies e = ends_dialog w a k w.client.pending r.tree_id f i
dialogs w a k r f i (Refuses status) e = dialog_refused_creates w.client w.conns (seen w.server) a k status i

-- ---- a reply that is taken

told_by : (w : World) (a : ℕ → ℕ) (k g : ℕ) (y : Received) → CreatesHold w a → slice_get (w.conns k).down 0 ≡ Some y
    → y.token ≡ ForOp g → makes_open (w.client.op g) ≡ true → SayFor w.client (seen w.server) a g y.reply
told_by w a k g y i f0 t mk =
    record {
      never = i.no_reply k 0 g y f0 t mk;
      barred = λ b r cur. i.barred_reply k 0 g y f0 t mk b r cur;
      acted = i.ok_reply k 0 g y f0 t mk;
      guid = i.reply_guid k 0 g y f0 t mk;
      names = λ o s e. i.reply_of k 0 g o y f0 t mk s e;
    }

ranked_behind : (c : Client) (conns : ℕ → Conn) (k : ℕ) (rest : List Received) → RankedUp c conns
    → RankedUp c (put conns k (take_front (conns k) rest))
ranked_behind c conns k rest r = λ j n x h. let h' : slice_get (conns j).up n ≡ Some x = grind arith in r j n x h'

takes_by : (w : World) (a : ℕ → ℕ) (k : ℕ) (y : Received) (rest : List Received) → (w.conns k).down ≡ y ∷ rest
    → Connections w.client w.conns a → Below w.client w.conns w.server → CreatesHold w a → (t : Token) → y.token ≡ t
    → CreatesHold (took_by (behind_reply w k rest) k y.reply y.place t) a
takes_by w a k y rest is f b i ForDialog e =
    dialogs (behind_reply w k rest) a k y.reply (behind_keeps w.client w.conns a k y rest is f)
    (behind_creates w.client w.conns (seen w.server) a k y rest is i)
    (dialog_step (w.client.stage k) y.reply.status) refl
takes_by w a k y rest is f b i (ForOp g) e =
    let f0 = front_down (w.conns k).down y rest is in
    took (behind_reply w k rest) a k g false y.reply y.place (behind_keeps w.client w.conns a k y rest is f)
    (behind_creates w.client w.conns (seen w.server) a k y rest is i)
    (ranked_behind w.client w.conns k rest b.ranked) b.here b.lives
    (subst (λ g. copies g (put w.conns k (take_front (w.conns k) rest) k) ≡ 0) (ap op_of e)
    (front_reply_gone w.conns k y rest is (f.once k (op_of y.token))))
    (λ _ mk. told_by w a k g y i f0 e mk)
    (λ _ ao st b. f.deleted k 0 g y f0 e ao st b)
takes_by w a k y rest is f b i (ForAttach g) e =
    took (behind_reply w k rest) a k g true y.reply y.place (behind_keeps w.client w.conns a k y rest is f)
    (behind_creates w.client w.conns (seen w.server) a k y rest is i)
    (ranked_behind w.client w.conns k rest b.ranked) b.here b.lives
    (subst (λ g. copies g (put w.conns k (take_front (w.conns k) rest) k) ≡ 0) (ap op_of e)
    (front_reply_gone w.conns k y rest is (f.once k (op_of y.token))))
    (λ q. absurd (cc))
    (λ q. absurd (cc))

takes : (w : World) (a : ℕ → ℕ) (k : ℕ) → Connections w.client w.conns a → Below w.client w.conns w.server
    → CreatesHold w a → (ys : List Received) → (w.conns k).down ≡ ys → CreatesHold (take_reply w k ys) a
takes w a k f b i [] is = i
takes w a k f b i (y ∷ rest) is = takes_by w a k y rest is f b i y.token refl

-- ---- Cut

cuts_ready : (w : World) (a : ℕ → ℕ) (k : ℕ) → Connections w.client w.conns a → CreatesHold w a → (b e : Bool) → b ≡ true
    → CreatesHold (with_client (cut_by w k (if b && e then CloseChannels else Nothing))
    (if b then (if e then end_session w.client else cut_channel w.client k) else w.client)) a
cuts_ready w a k f i true true h = leave_creates w.client w.conns (seen w.server) a f i
cuts_ready w a k f i true false h = cut_creates w.client w.conns (seen w.server) a k f i
cuts_ready w a k f i false e h = absurd (cc)

cuts : (w : World) (a : ℕ → ℕ) (k : ℕ) → Connections w.client w.conns a → CreatesHold w a → CreatesHold (changed w (Cut k)) a
cuts w a k f i =
    either (λ v. CreatesHold v a) (w.client.ready k) _ _ (λ ready. cuts_ready w a k f i (w.client.ready k)
    (ends_at_cut w.client) ready) (λ apart. dialog_off_creates w.client w.conns (seen w.server) a k i)

-- ---- every event

-- what the layers below say at a world
pub record Known (w : World) (a : ℕ → ℕ) : Type 0 where
  pub fit : Connections w.client w.conns a
  pub below : Below w.client w.conns w.server
  pub anew : StartsAnew w
  pub anew_kept : (k : ℕ) → may_serve w k ≡ true → StartsAnew (absorb_front w k (w.conns k).up)

pub keeps : (w : World) (a : ℕ → ℕ) (e : Event) → Known w a → CreatesHold w a → CreatesHold (happens w e) (after w e a)
keeps w a (Submit g op) b i = submits w a g op b.fit i
keeps w a (Open k) b i =
    either (λ v. CreatesHold v a) (may_open w k) _ _ (λ m. opened_creates w.client w.conns _ a k _
    (accepts w.client w.conns a w.server w.moment k i)) (λ _. i)
keeps w a (Push k slotless pick) b i = either (λ v. CreatesHold v a) (w.client.ready k) _ _
    (λ ready. pushes w a k slotless pick ready (b.fit.ready k ready).1 i) (λ _. i)
keeps w a (Serve k) b i = serve_open w a k b.fit b.below i (may_serve w k)
keeps w a (Take k) b i = either (λ v. CreatesHold v a) ((w.conns k).client_open && is_filled (w.conns k).down) _ _
    (λ m. takes w a k b.fit b.below i (w.conns k).down refl) (λ _. i)
keeps w a (Cut k) b i = either (λ v. CreatesHold v a) (w.conns k).client_open _ _ (λ _. cuts w a k b.fit i) (λ _. i)
keeps w a (Drop k) b i = either (λ v. CreatesHold v a) (w.conns k).server_open _ _
    (λ _. dropped_creates w.client w.conns _ a k (ends w.client w.conns a w.server w.moment k b.below i)) (λ _. i)
keeps w a Restart b i = restarts w a b.anew i
keeps w a (Crash k kept) b i = crash_open w a k b.fit b.below b.anew (b.anew_kept k) i kept (may_serve w k) refl
keeps w a (Wait n) b i = i
keeps w a (Finish refusal) b i = either (λ v. CreatesHold v a) (not w.client.live) _ _
    (λ d. finished_creates w.client w.conns (seen w.server) a (NoSession refusal) i) (λ _. i)
