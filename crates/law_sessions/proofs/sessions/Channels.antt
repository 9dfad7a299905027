-- Each event keeps how the channels stand.
use Rattle.std.proofs.lemmas.Bool.{eqb-false}
use Rattle.std.proofs.Common.{eqb-true, ◌≡◌, ◌≢◌, ℕ, ◌*◌, ◌==◌, Bool, true, false, not, ◌&&◌, if◌then◌else◌, List, []}
use Rattle.std.proofs.Common.{◌∷◌, ◌++◌, refl, arith, sym, subst, ◌∙◌, ap, Option, Some, None}
use Rattle.spec_exchange.specs.Table.{put, put2, is_filled}
use Rattle.spec_exchange.specs.Status.{success, more_processing_required, disk_full}
use Rattle.spec_exchange.specs.State.{Reply, Answer, Accept, Body}
use Rattle.spec_exchange.specs.Step.{step}
use Rattle.spec_exchange.specs.Operations.{Op, Outcome, Unsettled, WasOk, WasRefused, NoSlot, NoOpen, Unknown}
use Rattle.spec_exchange.specs.Operations.{is_create, is_close, is_lock, id_in}
use Rattle.spec_exchange.specs.Client.{Client, Stage, Apart, SaidNegotiate, SaidFirst, SaidSecond, AskedTree}
use Rattle.spec_exchange.specs.Client.{RefusedDialog, create_for, may_take, may_push, has_its_slot, goes_itself}
use Rattle.spec_exchange.specs.Client.{lacks_slot, settle_no_slot, settle_no_slots, begin, again, begun, take_slot}
use Rattle.spec_exchange.specs.Client.{outstanding, asked, cut_channel, ends_at_cut, end_session, bind_channel}
use Rattle.spec_exchange.specs.Client.{begin_session, leave_dialog, unmade}
use Rattle.spec_exchange.specs.Settling.{Heard as Hearing, Settles, GoesAgain, Attaches, EndsSession, heard, hear}
use Rattle.spec_exchange.specs.Settling.{is_awaited, settle, settled, noted, noted_full, settles_open, with_no_opens}
use Rattle.spec_exchange.specs.Settling.{answered}
use Rattle.spec_exchange.specs.Dialogs.{GoesOn, Accepts, Binds, Readies, Refuses, dialog_step, dialog_message}
use Rattle.spec_exchange.specs.Dialogs.{open_channel, went_on, accepted}
use Rattle.spec_exchange.specs.ClientStep.{Pick, Act, Nothing, CloseChannels, pick_after, pick_act, act_heard, some_unsettled}
use Rattle.spec_exchange.specs.Schedules.{is_talking}
use Rattle.spec_exchange.specs.Network.{World, Event, Submit, Open, Push, Serve, Take, Cut, Drop, Restart, Crash, Wait}
use Rattle.spec_exchange.specs.Network.{Finish, Conn, Sent, Received, Token, ForDialog, ForOp, ForAttach, happens}
use Rattle.spec_exchange.specs.Network.{changed, later, may_open, may_serve, fresh, opened_by, server_off, client_off}
use Rattle.spec_exchange.specs.Network.{send_up, say_down, behind_front, take_front, pushed_by, answer, serve_front}
use Rattle.spec_exchange.specs.Network.{absorb_front, take_reply, took_by, dialog_took, op_took, closed_by, cut_by}
use Rattle.spec_exchange.specs.Network.{with_client, behind_reply, restarted}
use Rattle.spec_exchange.specs.Network.{op_of}
use Rattle.law_sessions.specs.messages.Connections.{Ready}
use Rattle.law_sessions.proofs.messages.Lists.{counted_down, front_down}
use Rattle.law_sessions.proofs.messages.Run.{both_ways, closed_of, no_dialog, more_down, ended_well}
use Rattle.law_sessions.proofs.sessions.Run.{free_of}
use Rattle.law_server.proofs.tables.Logic.{either}
use Rattle.law_sessions.specs.sessions.Sessions.{makes_session, Making}
use Rattle.law_sessions.specs.sessions.Dialogs.{MessageAlone, ReplyAlone, IsLost, Channel, IsClosed, IsReady}
use Rattle.law_sessions.specs.sessions.Dialogs.{IsInDialog, Channels, MakingTalks}

-- ---- one key of a table, and the others

pub by_key : (q k : ℕ) (P : Bool → Type 0) → (q ≡ k → P true) → (q ≢ k → P false) → P (q == k)
by_key q k P f g = elim (q == k) as (λ b. q == k ≡ b → P b) [ true ↦ λ e. f (eqb-true q k e) | false ↦ λ e. g (eqb-false q k e) ] refl

-- ---- the columns of channels are the same

pub record SameChannels (c d : Client) : Type 0 where
  pub ready : d.ready ≡ c.ready
  pub stage : d.stage ≡ c.stage
  pub making : d.making ≡ c.making
  pub channels : d.channels ≡ c.channels
  pub live : d.live ≡ c.live

pub itself : (c : Client) → SameChannels c c
itself c = record { ready = refl; stage = refl; making = refl; channels = refl; live = refl }

pub same_so : (c d e : Client) → SameChannels c d → SameChannels d e → SameChannels c e
same_so c d e a b = record {
  ready = b.ready ∙ a.ready;
  stage = b.stage ∙ a.stage;
  making = b.making ∙ a.making;
  channels = b.channels ∙ a.channels;
  live = b.live ∙ a.live;
}

same_no_slot : (c : Client) (k g : ℕ) → SameChannels c (settle_no_slot c k g)
same_no_slot c k g = either (λ d. SameChannels c d) (lacks_slot c k g) (record c {
  outcome = put c.outcome g (NoSlot (create_for c g));
}) c (λ _. record {
  ready = refl;
  stage = refl;
  making = refl;
  channels = refl;
  live = refl;
}) (λ _. itself c)

pub same_no_slots : (c : Client) (k : ℕ) (gs : List ℕ) → SameChannels c (settle_no_slots c k gs)
unfolding settle_no_slots
same_no_slots c k [] = itself c
same_no_slots c k (g ∷ gs) = let d = settle_no_slot c k g in same_so c d (settle_no_slots d k gs) (same_no_slot c k g)
    (same_no_slots d k gs)

pub same_begun : (c : Client) (k g i : ℕ) → SameChannels c (outstanding (begun c g i) k g)
same_begun c k g i =
    let P : Client → Type 0 = λ d. SameChannels c (outstanding d k g) in
    either P (c.sent g) (again c g) (begin c g i)
    (λ _. either P (is_lock (c.op g)) (record c {
      retried = put2 c.retried (create_for c g) (c.slot_of g) c.session_number;
    }) c (λ _. record {
      ready = refl;
      stage = refl;
      making = refl;
      channels = refl;
      live = refl;
    }) (λ _. record {
      ready = refl;
      stage = refl;
      making = refl;
      channels = refl;
      live = refl;
    }))
    (λ _. either P (is_lock (c.op g)) (record (take_slot c g i) { sent = put c.sent g true }) (record c {
      sent = put c.sent g true;
    }) (λ _. record {
      ready = refl;
      stage = refl;
      making = refl;
      channels = refl;
      live = refl;
    }) (λ _. record { ready = refl; stage = refl; making = refl; channels = refl; live = refl }))

same_asked : (c : Client) (k g : ℕ) → SameChannels c (asked c k g)
same_asked c k g = record { ready = refl; stage = refl; making = refl; channels = refl; live = refl }

same_noted : (c : Client) (g : ℕ) (o : Outcome) (body : Body) → SameChannels c (noted c g o body)
same_noted c g (WasOk reply) body =
    either (λ d. SameChannels c d) (is_create (c.op g)) (record c {
      file = put c.file g (id_in body);
      attached = put c.attached g c.session_number;
    }) (if is_close (c.op g) then record c {
      closed_ok = put c.closed_ok (create_for c g) true;
    } else c)
    (λ _. record { ready = refl; stage = refl; making = refl; channels = refl; live = refl })
    (λ _. either (λ d. SameChannels c d) (is_close (c.op g)) (record c {
      closed_ok = put c.closed_ok (create_for c g) true;
    }) c (λ _. record {
      ready = refl;
      stage = refl;
      making = refl;
      channels = refl;
      live = refl;
    }) (λ _. itself c))
same_noted c g Unsettled body = itself c
same_noted c g (WasRefused status) body = itself c
same_noted c g (NoSlot create) body = itself c
same_noted c g (NoOpen create) body = itself c
same_noted c g (Unknown why) body = itself c

same_full : (c : Client) (g : ℕ) (asking : Bool) (status : ℕ) → SameChannels c (noted_full c g asking status)
same_full c g asking status =
    either (λ d. SameChannels c d) (is_lock (c.op g) && (not asking && (status == disk_full))) (record c {
      full = put2 c.full (create_for c g) (c.slot_of g) true;
    }) c
    (λ _. record { ready = refl; stage = refl; making = refl; channels = refl; live = refl }) (λ _. itself c)

pub same_settle : (c : Client) (g : ℕ) (asking : Bool) (r : Reply) (place : ℕ) (o : Outcome) → SameChannels c (settle c g asking r place o)
same_settle c g asking r place o =
    let n = noted c g o r.body in let f = noted_full n g asking r.status in let d = settled f g o place in
    let s : SameChannels c d = same_so c n d (same_noted c g o r.body) (same_so n f d (same_full n g asking r.status)
    (record { ready = refl; stage = refl; making = refl; channels = refl; live = refl })) in
    either (λ e. SameChannels c e) (settles_open (c.op g)) (with_no_opens d (create_for c g)) d
    (λ _. same_so c d (with_no_opens d (create_for c g)) s (record {
      ready = refl;
      stage = refl;
      making = refl;
      channels = refl;
      live = refl;
    })) (λ _. s)

-- ---- one channel

pub record Holds (c : Client) (conns : ℕ → Conn) : Type 0 where
  pub channels : Channels c conns
  pub making : MakingTalks c

same_holds : (c d : Client) (conns : ℕ → Conn) → SameChannels c d → Holds c conns → Holds d conns
same_holds c d conns s h =
    record {
      channels = subst (λ r. (k : ℕ) → Channel (r k) (d.stage k) (conns k)) (sym s.ready)
          (subst (λ t. (k : ℕ) → Channel (c.ready k) (t k) (conns k)) (sym s.stage) h.channels);
      making = subst (λ t. (k : ℕ) → d.making ≡ Some k → makes_session (t k) ≡ true) (sym s.stage)
          (subst (λ m. (k : ℕ) → m ≡ Some k → makes_session (c.stage k) ≡ true) (sym s.making) h.making);
    }

-- an operation goes out on a ready channel
sends_on : (r : Bool) (s : Stage) (c : Conn) (t : Token) (m : _) (n : ℕ) → r ≡ true → Channel r s c → Channel r s (send_up c t m n)
sends_on r s c t m n e (IsClosed off apart shut none) = absurd (cc)
sends_on r s c t m n e (IsReady on apart stands) = IsReady on apart stands
sends_on r s c t m n e (IsInDialog off talks stands waits) = absurd (cc)

goes_up : (c : Client) (conns : ℕ → Conn) (k : ℕ) (t : Token) (m : _) (n : ℕ) → c.ready k ≡ true → Holds c conns
    → Holds c (put conns k (send_up (conns k) t m n))
goes_up c conns k t m n ready h =
    record {
      channels = λ q. by_key q k (λ b. Channel (c.ready q) (c.stage q) (if b then send_up (conns k) t m n else conns q))
          (λ e. subst (λ i. Channel (c.ready i) (c.stage i) (send_up (conns k) t m n)) (sym e)
          (sends_on (c.ready k) (c.stage k) (conns k) t m n ready (h.channels k)))
          (λ d. h.channels q);
      making = h.making;
    }

not_both : (b : Bool) (P : Type 0) → b ≡ true → b ≡ false → P
not_both b P e f = absurd (cc)

filled : {X : Type 0} (xs : List X) (x : X) (rest : List X) (P : Type 0) → xs ≡ x ∷ rest → xs ≡ [] → P
filled xs x rest P is none = absurd (cc)

rest_none : {X : Type 0} (xs : List X) (x y : X) (rest : List X) → xs ≡ x ∷ rest → xs ≡ y ∷ [] → rest ≡ []
rest_none xs x y rest is one = grind arith

front_is : {X : Type 0} (xs : List X) (x y : X) (rest : List X) → xs ≡ x ∷ rest → xs ≡ y ∷ [] → x ≡ y
front_is xs x y rest is one = grind arith

said_alone : (down : List Received) (y : Received) → down ≡ [] → down ++ y ∷ [] ≡ y ∷ []
said_alone down y e = ap (λ ys. ys ++ y ∷ []) e

-- the server takes the front and answers it
pub answers_on : (r : Bool) (s : Stage) (c : Conn) (x : Sent) (rest : List Sent) (reply : Reply) (place : ℕ) → c.up
    ≡ x ∷ rest → Channel r s c
    → Channel r s (say_down (behind_front c rest) (record { token = x.token; reply = reply; place = place }))
answers_on r s c x rest reply place is (IsClosed off apart shut none) =
    let y : Received = record { token = x.token; reply = reply; place = place } in
    either (λ d. Channel r s d) c.client_open _ _ (λ o. not_both c.client_open _ o shut) (λ o. IsClosed off apart shut none)
answers_on r s c x rest reply place is (IsReady on apart stands) =
    either (λ d. Channel r s d) c.client_open _ _ (λ o. IsReady on apart stands) (λ o. IsReady on apart stands)
answers_on r s c x rest reply place is (IsInDialog off talks stands (MessageAlone z one none token)) =
    either (λ d. Channel r s d) c.client_open _ _
    (λ o. IsInDialog off talks stands (ReplyAlone (record { token = x.token; reply = reply; place = place })
    (rest_none c.up x z rest is one) (said_alone c.down _ none) (ap (λ w. w.token) (front_is c.up x z rest is one)
    ∙ token)))
    (λ o. not_both c.client_open _ stands o)
answers_on r s c x rest reply place is (IsInDialog off talks stands (ReplyAlone y none one token)) = filled c.up x rest _ is none
answers_on r s c x rest reply place is (IsInDialog off talks stands (IsLost gone none empty)) = filled c.up x rest _ is none

-- the server's end closes, whether or not its front was taken before
pub ends_on : (r : Bool) (s : Stage) (c : Conn) → Channel r s c → Channel r s (server_off c)
ends_on r s c (IsClosed off apart shut none) = IsClosed off apart shut none
ends_on r s c (IsReady on apart stands) = IsReady on apart stands
ends_on r s c (IsInDialog off talks stands (MessageAlone z one none token)) = IsInDialog off talks stands (IsLost refl refl none)
ends_on r s c (IsInDialog off talks stands (ReplyAlone y none one token)) = IsInDialog off talks stands (ReplyAlone y refl one token)
ends_on r s c (IsInDialog off talks stands (IsLost gone none empty)) = IsInDialog off talks stands (IsLost refl refl empty)

-- ---- Submit, Open, Push

submits : (w : World) (g : ℕ) (op : Op) → Holds w.client w.conns → Holds (changed w (Submit g op)).client (changed w (Submit g op)).conns
submits w g op h = either (λ d. Holds d w.conns) (may_take w.client g op) _ _ (λ _. record {
  channels = h.channels;
  making = h.making;
}) (λ _. h)

closed_apart : (r : Bool) (s : Stage) (c : Conn) → c.client_open ≡ false → Channel r s c → r ≡ false
closed_apart r s c shut (IsClosed off apart o none) = off
closed_apart r s c shut (IsReady on apart stands) = absurd (cc)
closed_apart r s c shut (IsInDialog off talks stands waits) = off

begins_dialog : (r : Bool) (live : Bool) (c : Client) (k : ℕ) (served : Bool) → r ≡ false
    → Channel r (SaidNegotiate live) (fresh c k served)
unfolding is_talking
begins_dialog r live c k true off = IsInDialog off refl refl (MessageAlone (record {
  token = ForDialog;
  message = dialog_message c k 0 (SaidNegotiate c.live);
}) refl refl refl)
begins_dialog r live c k false off = IsInDialog off refl refl (IsLost refl refl refl)

making_opened : (c : Client) (k : ℕ) → c.making ≡ None → MakingTalks (open_channel c k)
making_opened c k free = λ q e. by_key q k (λ b. makes_session (if b then SaidNegotiate c.live else c.stage q) ≡ true)
    (λ i. here c.live refl q e) (λ d. elsewhere c.live refl q e d)
  where
    here : (b : Bool) → c.live ≡ b → (q : ℕ) → (open_channel c k).making ≡ Some q → makes_session (SaidNegotiate c.live) ≡ true
    here true l q e = absurd (grind arith)
    here false l q e = ap not l

    elsewhere : (b : Bool) → c.live ≡ b → (q : ℕ) → (open_channel c k).making ≡ Some q → q ≢ k → makes_session (c.stage q) ≡ true
    elsewhere true l q e d = absurd (grind arith)
    elsewhere false l q e d = absurd (grind arith)

pub opens : (w : World) (k : ℕ) (A : Answer) → (w.conns k).client_open ≡ false → w.client.making ≡ None
    → Holds w.client w.conns → Holds (opened_by w k A).client (opened_by w k A).conns
opens w k A shut free h =
    let c = w.client in
    record {
      channels = λ q. by_key q k (λ b. Channel (c.ready q) (if b then SaidNegotiate c.live else c.stage q)
          (if b then fresh c k (A.reply.status == success) else w.conns q))
          (λ e. subst (λ i. Channel (c.ready i) (SaidNegotiate c.live) (fresh c k (A.reply.status == success))) (sym e)
          (begins_dialog (c.ready k) c.live c k (A.reply.status == success)
          (closed_apart (c.ready k) (c.stage k) (w.conns k) shut (h.channels k))))
          (λ d. h.channels q);
      making = making_opened c k free;
    }

sends_op : (w : World) (k g s : ℕ) (c : Client) → SameChannels w.client c → w.client.ready k ≡ true → Holds w.client w.conns
    → Holds (pushed_by w k (pick_after c k (Some (record { op = g; slot = s })))
    (pick_act c k (Some (record { op = g; slot = s })))).client
    (pushed_by w k (pick_after c k (Some (record { op = g; slot = s })))
    (pick_act c k (Some (record { op = g; slot = s })))).conns
sends_op w k g s c q ready h =
    let P : Client → Act → Type 0 = λ d x. Holds (pushed_by w k d x).client (pushed_by w k d x).conns in
    let i = same_holds w.client c w.conns q h in
    both_ways P (may_push c k g) _ _ _ _
    (λ _. both_ways P (goes_itself c g) _ _ _ _
    (λ _. both_ways P (has_its_slot c g s) _ _ _ _
    (λ _. let e = same_begun c k g s in goes_up (outstanding (begun c g s) k g) w.conns k _ _ _
    (ap (λ f. f k) (e.ready ∙ q.ready) ∙ ready) (same_holds c _ w.conns e i)) (λ _. i))
    (λ _. let e = same_asked c k g in goes_up (asked c k g) w.conns k _ _ _ (ap (λ f. f k) (e.ready ∙ q.ready) ∙ ready)
    (same_holds c _ w.conns e i)))
    (λ _. i)

picks : (w : World) (k : ℕ) (c : Client) (pick : Option Pick) → SameChannels w.client c → w.client.ready k ≡ true
    → Holds w.client w.conns → Holds (pushed_by w k (pick_after c k pick) (pick_act c k pick)).client
    (pushed_by w k (pick_after c k pick) (pick_act c k pick)).conns
picks w k c None q ready h = either (λ x. Holds (pushed_by w k c x).client (pushed_by w k c x).conns)
    (some_unsettled c c.taken) _ _ (λ _. same_holds w.client c w.conns q h) (λ _. same_holds w.client c w.conns q h)
picks w k c (Some p) q ready h = sends_op w k p.op p.slot c q ready h

pushes : (w : World) (k : ℕ) (slotless : List ℕ) (pick : Option Pick) → w.client.ready k ≡ true → Holds w.client w.conns
    → Holds (changed w (Push k slotless pick)).client (changed w (Push k slotless pick)).conns
pushes w k slotless pick ready h =
    both_ways (λ d x. Holds (pushed_by w k d x).client (pushed_by w k d x).conns) (w.client.ready k) _ _ _ _
    (λ _. picks w k (settle_no_slots w.client k slotless) pick (same_no_slots w.client k slotless) ready h)
    (λ off. not_both (w.client.ready k) _ ready off)

-- ---- Serve, Drop, Restart, Crash

put_on : (c : Client) (conns : ℕ → Conn) (k : ℕ) (d : Conn) → Channel (c.ready k) (c.stage k) d → Channels c conns
    → Channels c (put conns k d)
put_on c conns k d here h = λ q. by_key q k (λ b. Channel (c.ready q) (c.stage q) (if b then d else conns q))
    (λ e. subst (λ i. Channel (c.ready i) (c.stage i) d) (sym e) here) (λ n. h q)

at_key : {X : Type 0} (f : ℕ → X) (k : ℕ) (v : X) → put f k v k ≡ v
at_key f k v = grind arith

twice : {X : Type 0} (P : X → Type 0) (f : ℕ → X) (k : ℕ) (u v : X) (q : ℕ) → P (put f k v q) → P (put (put f k u) k v q)
twice P f k u v q p = subst P (grind arith) p

serves : (w : World) (k : ℕ) → Holds w.client w.conns → (xs : List Sent) → (w.conns k).up ≡ xs
    → Holds (serve_front w k xs).client (serve_front w k xs).conns
serves w k h [] is = h
serves w k h (x ∷ rest) is =
    let c = w.client in let r = (answer w x).reply in let y : Received = record { token = x.token; reply = r; place = w.log.places } in
    let at = at_key w.conns k (behind_front (w.conns k) rest) in
    record {
      channels = λ q. by_key q k
          (λ b. Channel (c.ready q) (c.stage q) (if b then say_down (put w.conns k (behind_front (w.conns k) rest) k) y
          else put w.conns k (behind_front (w.conns k) rest) q))
          (λ e. subst (λ i. Channel (c.ready i) (c.stage i) (say_down (put w.conns k (behind_front (w.conns k) rest) k) y)) (sym e)
          (subst (λ d. Channel (c.ready k) (c.stage k) (say_down d y)) (sym at)
          (answers_on (c.ready k) (c.stage k) (w.conns k) x rest r w.log.places is (h.channels k))))
          (λ n. by_key q k (λ b. Channel (c.ready q) (c.stage q) (if b then behind_front (w.conns k) rest else w.conns
          q)) (λ e. absurd (n e)) (λ _. h.channels q));
      making = h.making;
    }

all_off : (c : Client) (conns : ℕ → Conn) → Holds c conns → Holds c (λ q. server_off (conns q))
all_off c conns h = record { channels = λ q. ends_on (c.ready q) (c.stage q) (conns q) (h.channels q); making = h.making }

-- that the front was taken before doesn't show behind the end
taken_and_off : (c : Client) (conns : ℕ → Conn) (k : ℕ) (rest : List Sent) → Holds c conns
    → Holds c (λ q. server_off (put conns k (behind_front (conns k) rest) q))
taken_and_off c conns k rest h =
    record {
      channels = λ q. by_key q k (λ b. Channel (c.ready q) (c.stage q) (server_off (if b then behind_front (conns k) rest else conns q)))
          (λ e. subst (λ i. Channel (c.ready i) (c.stage i) (server_off (behind_front (conns k) rest))) (sym e)
          (ends_on (c.ready k) (c.stage k) (conns k) (h.channels k)))
          (λ n. ends_on (c.ready q) (c.stage q) (conns q) (h.channels q));
      making = h.making;
    }

crashes : (w : World) (k : ℕ) → Holds w.client w.conns → (xs : List Sent)
    → Holds (restarted (absorb_front w k xs)).client (restarted (absorb_front w k xs)).conns
crashes w k h [] = all_off w.client w.conns h
crashes w k h (x ∷ rest) = taken_and_off w.client w.conns k rest h

-- ---- Take

-- what a client holds that has left every channel
pub nothing_open : (c : Client) (conns : ℕ → Conn) → Holds (end_session c) (λ q. client_off (conns q))
nothing_open c conns = record { channels = λ q. IsClosed refl refl refl refl; making = λ k e. absurd (cc) }

takes_op_on : (r : Bool) (s : Stage) (c : Conn) (y : Received) (rest : List Received) → c.down ≡ y ∷ rest
    → (y.token ≡ ForDialog → s ≢ Apart) → Channel r s c → y.token ≢ ForDialog → Channel r s (take_front c rest)
takes_op_on r s c y rest is n (IsClosed off apart shut none) t = filled c.down y rest _ is none
takes_op_on r s c y rest is n (IsReady on apart stands) t = IsReady on apart stands
takes_op_on r s c y rest is n (IsInDialog off talks stands (MessageAlone z one none token)) t = filled c.down y rest _ is none
takes_op_on r s c y rest is n (IsInDialog off talks stands (ReplyAlone z none one token)) t =
    absurd (t (ap (λ w. w.token) (front_is c.down y z rest is one) ∙ token))
takes_op_on r s c y rest is n (IsInDialog off talks stands (IsLost gone none empty)) t = filled c.down y rest _ is empty

hears : (w : World) (k g : ℕ) (asking : Bool) (r : Reply) (place : ℕ) → Holds w.client w.conns → (h : Hearing)
    → Holds (with_client (closed_by w k (act_heard h)) (hear w.client g asking r place h)).client
    (with_client (closed_by w k (act_heard h)) (hear w.client g asking r place h)).conns
hears w k g asking r place i (Settles o) = same_holds w.client _ w.conns (same_settle w.client g asking r place o) i
hears w k g asking r place i GoesAgain = record { channels = i.channels; making = i.making }
hears w k g asking r place i Attaches = record { channels = i.channels; making = i.making }
hears w k g asking r place i EndsSession = nothing_open (answered w.client g) w.conns

took : (w : World) (k g : ℕ) (asking : Bool) (r : Reply) (place : ℕ) → Holds w.client w.conns
    → Holds (op_took w k g asking r place).client (op_took w k g asking r place).conns
took w k g asking r place i =
    both_ways (λ c x. Holds (with_client (closed_by w k x) c).client (with_client (closed_by w k x) c).conns)
    (is_awaited w.client k g asking) (hear w.client g asking r place (heard w.client g asking r)) w.client
    (act_heard (heard w.client g asking r)) Nothing
    (λ _. hears w k g asking r place i (heard w.client g asking r)) (λ _. i)

-- a reply of a dialog waits only in one, and then alone
pub record InDialog (c : Client) (k : ℕ) (conn : Conn) : Type 0 where
  pub off : c.ready k ≡ false
  pub talks : is_talking (c.stage k) ≡ true
  pub stands : conn.client_open ≡ true
  pub up : conn.up ≡ []
  pub down : conn.down ≡ []

-- ---- a dialog's reply is taken

-- what holds of the other channels
pub record Elsewhere (c : Client) (conns : ℕ → Conn) (k : ℕ) : Type 0 where
  pub channels : (q : ℕ) → q ≢ k → Channel (c.ready q) (c.stage q) (conns q)
  pub making : MakingTalks c

elsewhere : (c : Client) (conns : ℕ → Conn) (k : ℕ) → Holds c conns → Elsewhere c conns k
elsewhere c conns k h = record { channels = λ q n. h.channels q; making = h.making }

channel_goes_on : (c : Client) (conns : ℕ → Conn) (k : ℕ) (ready : ℕ → Bool) (stage : ℕ → Stage) (d : Conn)
    → ((q : ℕ) → q ≢ k → ready q ≡ c.ready q × stage q ≡ c.stage q) → Channel (ready k) (stage k) d
    → ((q : ℕ) → q ≢ k → Channel (c.ready q) (c.stage q) (conns q))
    → (q : ℕ) → Channel (ready q) (stage q) (put conns k d q)
channel_goes_on c conns k ready stage d same here h q =
    by_key q k (λ b. Channel (ready q) (stage q) (if b then d else conns q)) (λ e. subst (λ i. Channel (ready i) (stage i) d) (sym e) here)
    (λ n. subst (λ r. Channel r (stage q) (conns q)) (sym (same q n).0) (subst (λ s. Channel (c.ready q) s (conns q))
    (sym (same q n).1) (h q n)))

put_off : {X : Type 0} (f : ℕ → X) (k : ℕ) (v : X) (q : ℕ) → q ≢ k → put f k v q ≡ f q
put_off f k v q n = grind arith

sent_alone : (up : List Sent) (x : Sent) → up ≡ [] → up ++ x ∷ [] ≡ x ∷ []
sent_alone up x e = ap (λ xs. xs ++ x ∷ []) e

-- the next message of the dialog goes out
talks_on : (c d : Client) (conns : ℕ → Conn) (k n : ℕ) (s : Stage) (m : _) → InDialog c k (conns k) → is_talking s
    ≡ true → d.ready ≡ c.ready → d.stage ≡ put c.stage k s → d.making ≡ c.making
    → (makes_session s ≡ true → c.making ≡ Some k) → (makes_session (c.stage k) ≡ true → makes_session s ≡ true)
    → Elsewhere c conns k → Holds d (put conns k (send_up (conns k) ForDialog m n))
talks_on c d conns k n s m i talks ready stage making mine still h =
    record {
      channels = subst (λ f. (q : ℕ) → Channel (f q) (d.stage q) (put conns k (send_up (conns k) ForDialog m n) q)) (sym ready)
          (subst (λ f. (q : ℕ) → Channel (c.ready q) (f q) (put conns k (send_up (conns k) ForDialog m n) q)) (sym stage)
          (channel_goes_on c conns k c.ready (put c.stage k s) (send_up (conns k) ForDialog m n) (λ q n. (refl, put_off c.stage k s q n))
          (subst (λ t. Channel (c.ready k) t (send_up (conns k) ForDialog m n)) (sym (at_key c.stage k s))
          (IsInDialog i.off talks i.stands (MessageAlone (record {
            token = ForDialog;
            message = m;
          }) (sent_alone (conns k).up _ i.up) i.down refl))) h.channels));
      making = subst (λ f. (q : ℕ) → d.making ≡ Some q → makes_session (f q) ≡ true) (sym stage)
          (λ q e. by_key q k (λ b. makes_session (if b then s else c.stage q) ≡ true)
          (λ j. still (subst (λ x. makes_session (c.stage x) ≡ true) j (h.making q (sym making ∙ e))))
          (λ _. h.making q (sym making ∙ e)));
    }

-- the dialog is over, and its channel ready
is_over : (c d : Client) (conns : ℕ → Conn) (k : ℕ) → InDialog c k (conns k) → d.ready ≡ put c.ready k true → d.stage
    ≡ put c.stage k Apart → ((q : ℕ) → d.making ≡ Some q → c.making ≡ Some q × q ≢ k) → Elsewhere c conns k
    → Holds d conns
is_over c d conns k i ready stage making h =
    record {
      channels = subst (λ f. (q : ℕ) → Channel (f q) (d.stage q) (conns q)) (sym ready)
          (subst (λ f. (q : ℕ) → Channel (put c.ready k true q) (f q) (conns q)) (sym stage)
          (λ q. by_key q k (λ b. Channel (if b then true else c.ready q) (if b then Apart else c.stage q) (conns q))
          (λ e. IsReady refl refl (subst (λ x. (conns x).client_open ≡ true) (sym e) i.stands))
          (λ n. h.channels q n)));
      making = subst (λ f. (q : ℕ) → d.making ≡ Some q → makes_session (f q) ≡ true) (sym stage)
          (λ q e. by_key q k (λ b. makes_session (if b then Apart else c.stage q) ≡ true)
          (λ j. absurd ((making q e).1 j)) (λ _. h.making q (making q e).0));
    }

-- the client leaves a channel that isn't ready
pub leaves : (c : Client) (conns : ℕ → Conn) (k : ℕ) (rs : List RefusedDialog) → c.ready k ≡ false → Elsewhere c conns k
    → Holds (record c { stage = put c.stage k Apart; making = unmade k c.making; refusals = rs }) (put conns k (client_off (conns k)))
leaves c conns k rs off h =
    record {
      channels = λ q. by_key q k (λ b. Channel (c.ready q) (if b then Apart else c.stage q)
          (if b then client_off (conns k) else conns q)) (λ e. IsClosed (ap c.ready e ∙ off) refl refl refl)
          (λ n. h.channels q n);
      making = λ q e. by_key q k (λ b. makes_session (if b then Apart else c.stage q) ≡ true)
          (λ j. absurd (grind arith)) (λ n. h.making q (still_made k c.making q e));
    }
  where
    still_made : (k : ℕ) (m : Option ℕ) (q : ℕ) → unmade k m ≡ Some q → m ≡ Some q
    still_made k None q e = absurd (cc)
    still_made k (Some j) q e = grind arith

refuses : (w : World) (k : ℕ) (r : Reply) (status : ℕ) → InDialog w.client k (w.conns k) → Elsewhere w.client w.conns k
    → Holds (dialog_took w k r (Refuses status)).client (dialog_took w k r (Refuses status)).conns
refuses w k r status i h = leaves w.client w.conns k _ i.off h

fails : (w : World) (k : ℕ) → InDialog w.client k (w.conns k) → Elsewhere w.client w.conns k
    → Holds (leave_dialog w.client k) (put w.conns k (client_off (w.conns k)))
fails w k i h = leaves w.client w.conns k w.client.refusals i.off h

-- a further channel, beside which no session is in the making
binds : (w : World) (k : ℕ) → w.client.making ≡ None → InDialog w.client k (w.conns k) → Elsewhere w.client w.conns k
    → Holds (bind_channel w.client k) w.conns
binds w k none i h = is_over w.client (bind_channel w.client k) w.conns k i refl refl (λ q e. absurd (not_some w.client.making q none e)) h
  where
    not_some : (o : Option ℕ) (q : ℕ) → o ≡ None → o ≡ Some q → ⊥
    not_some o q e f = absurd (grind arith)

still_bound : (a b : Stage) → makes_session a ≡ makes_session b → makes_session a ≡ true → makes_session b ≡ true
still_bound a b e m = sym e ∙ m

goes_on : (w : World) (k : ℕ) (r : Reply) (s : Stage) → InDialog w.client k (w.conns k) → is_talking s ≡ true
    → makes_session (w.client.stage k) ≡ makes_session s → (makes_session s ≡ true → w.client.making ≡ Some k)
    → Elsewhere w.client w.conns k
    → Holds (dialog_took w k r (GoesOn s)).client (dialog_took w k r (GoesOn s)).conns
goes_on w k r s i talks same mine h = talks_on w.client (went_on w.client k s r) w.conns k 1 s _ i talks refl refl refl
    mine (still_bound (w.client.stage k) s same) h

pub took_dialog : (w : World) (k : ℕ) (r : Reply) → InDialog w.client k (w.conns k)
    → ((q : ℕ) → makes_session (w.client.stage q) ≡ true → w.client.making ≡ Some q)
    → (w.client.live ≡ true → w.client.making ≡ None) → Elsewhere w.client w.conns k
    → (t : Stage) → w.client.stage k ≡ t → Holds (dialog_took w k r (dialog_step t r.status)).client
    (dialog_took w k r (dialog_step t r.status)).conns
unfolding is_talking
took_dialog w k r i mine alone h Apart at = refuses w k r r.status i h
took_dialog w k r i mine alone h (SaidNegotiate bound) at =
    either (λ d. Holds (dialog_took w k r d).client (dialog_took w k r d).conns) (r.status == success)
    (GoesOn (SaidFirst bound)) (Refuses r.status)
    (λ _. goes_on w k r (SaidFirst bound) i refl (ap makes_session at) (λ m. mine k (ap makes_session at ∙ m)) h)
    (λ _. refuses w k r r.status i h)
took_dialog w k r i mine alone h (SaidFirst bound) at =
    either (λ d. Holds (dialog_took w k r d).client (dialog_took w k r d).conns) (r.status == more_processing_required)
    (GoesOn (SaidSecond bound)) (Refuses r.status)
    (λ _. goes_on w k r (SaidSecond bound) i refl (ap makes_session at) (λ m. mine k (ap makes_session at ∙ m)) h)
    (λ _. refuses w k r r.status i h)
took_dialog w k r i mine alone h (SaidSecond true) at =
    either (λ d. Holds (dialog_took w k r d).client (dialog_took w k r d).conns) (r.status == success) Binds (Refuses r.status)
    (λ _. ended_well (λ v. Holds v.client v.conns) w k w.client.session w.client.tree
    (λ live. binds w k (alone live) i h) (λ dead newer. absurd (omega (arith, newer))) (fails w k i h))
    (λ _. refuses w k r r.status i h)
took_dialog w k r i mine alone h (SaidSecond false) at =
    either (λ d. Holds (dialog_took w k r d).client (dialog_took w k r d).conns) (r.status == success) Accepts (Refuses r.status)
    (λ _. talks_on w.client (accepted w.client k) w.conns k 1 AskedTree _ i refl refl refl refl
    (λ m. mine k (ap makes_session at)) (λ _. refl) h) (λ _. refuses w k r r.status i h)
took_dialog w k r i mine alone h AskedTree at =
    either (λ d. Holds (dialog_took w k r d).client (dialog_took w k r d).conns) (r.status == success) Readies (Refuses r.status)
    (λ _. ended_well (λ v. Holds v.client v.conns) w k w.client.pending r.tree_id (λ live. binds w k (alone live) i h)
    (λ _ _. is_over w.client (begin_session w.client k w.client.pending r.tree_id) w.conns k i refl refl
    (λ q e. absurd (cc)) h) (fails w k i h))
    (λ _. refuses w k r r.status i h)

-- the reply is the one that waits alone
pub only_reply : (c : Client) (k : ℕ) (conn : Conn) (y : Received) (rest : List Received) → conn.down ≡ y ∷ rest
    → c.ready k ≡ false → Channel (c.ready k) (c.stage k) conn → InDialog c k (take_front conn rest)
only_reply c k conn y rest is off (IsClosed o apart shut none) = filled conn.down y rest _ is none
only_reply c k conn y rest is off (IsReady on apart stands) = not_both (c.ready k) _ on off
only_reply c k conn y rest is off (IsInDialog o talks stands (MessageAlone z one none token)) = filled conn.down y rest _ is none
only_reply c k conn y rest is off (IsInDialog o talks stands (ReplyAlone z none one token)) = record {
  off = off;
  talks = talks;
  stands = stands;
  up = none;
  down = rest_none conn.down y z rest is one;
}
only_reply c k conn y rest is off (IsInDialog o talks stands (IsLost gone none empty)) = filled conn.down y rest _ is empty

-- a reply leaves its connection: an operation's, or the last of a dialog
takes_op_behind : (c : Client) (conns : ℕ → Conn) (k : ℕ) (y : Received) (rest : List Received) → (conns k).down
    ≡ y ∷ rest → y.token ≢ ForDialog → Holds c conns → Holds c (put conns k (take_front (conns k) rest))
takes_op_behind c conns k y rest is n h = record {
  channels = put_on c conns k (take_front (conns k) rest) (takes_op_on (c.ready k) (c.stage k) (conns k) y rest is
      (λ t. absurd (n t)) (h.channels k) n) h.channels;
  making = h.making;
}

pub takes_by : (w : World) (k : ℕ) (y : Received) (rest : List Received) → (w.conns k).down ≡ y ∷ rest
    → (y.token ≡ ForDialog → w.client.ready k ≡ false) → ((q : ℕ) → makes_session (w.client.stage q) ≡ true
    → w.client.making ≡ Some q) → (w.client.live ≡ true → w.client.making ≡ None)
    → Holds w.client w.conns → (t : Token) → y.token ≡ t
    → Holds (took_by (behind_reply w k rest) k y.reply y.place t).client (took_by (behind_reply w k rest) k y.reply
    y.place t).conns
takes_by w k y rest is off mine alone h ForDialog e =
    let i = only_reply w.client k (w.conns k) y rest is (off e) (h.channels k) in
    took_dialog (behind_reply w k rest) k y.reply
    (subst (λ d. InDialog w.client k d) (sym (at_key w.conns k (take_front (w.conns k) rest))) i) mine alone
    (record {
      channels = λ q n. subst (λ d. Channel (w.client.ready q) (w.client.stage q) d)
          (sym (put_off w.conns k (take_front (w.conns k) rest) q n)) (h.channels q);
      making = h.making;
    })
    (w.client.stage k) refl
takes_by w k y rest is off mine alone h (ForOp g) e = took (behind_reply w k rest) k g false y.reply y.place
    (takes_op_behind w.client w.conns k y rest is (λ q. absurd (cc)) h)
takes_by w k y rest is off mine alone h (ForAttach g) e = took (behind_reply w k rest) k g true y.reply y.place
    (takes_op_behind w.client w.conns k y rest is (λ q. absurd (cc)) h)

takes : (w : World) (k : ℕ) → ((y : Received) (rest : List Received) → (w.conns k).down ≡ y ∷ rest → y.token ≡ ForDialog
    → w.client.ready k ≡ false) → ((q : ℕ) → makes_session (w.client.stage q) ≡ true → w.client.making ≡ Some q)
    → (w.client.live ≡ true → w.client.making ≡ None)
    → Holds w.client w.conns → (ys : List Received) → (w.conns k).down ≡ ys → Holds (take_reply w k ys).client (take_reply w k ys).conns
takes w k off mine alone h [] is = h
takes w k off mine alone h (y ∷ rest) is = takes_by w k y rest is (off y rest is) mine alone h y.token refl

-- ---- Cut

ready_apart : (r : Bool) (s : Stage) (c : Conn) → r ≡ true → Channel r s c → s ≡ Apart
ready_apart r s c e (IsClosed off apart shut none) = not_both r _ e off
ready_apart r s c e (IsReady on apart stands) = apart
ready_apart r s c e (IsInDialog off talks stands waits) = not_both r _ e off

cut_one : (c : Client) (conns : ℕ → Conn) (k : ℕ) → c.ready k ≡ true → Holds c conns → Holds (cut_channel c k)
    (put conns k (client_off (conns k)))
cut_one c conns k ready h =
    record {
      channels = λ q. by_key q k (λ b. Channel (if b then false else c.ready q) (c.stage q) (if b then client_off (conns k) else conns q))
          (λ e. IsClosed refl (ap c.stage e ∙ ready_apart (c.ready k) (c.stage k) (conns k) ready (h.channels k)) refl
          refl) (λ _. h.channels q);
      making = h.making;
    }

cuts_ready : (w : World) (k : ℕ) → Holds w.client w.conns → (b e : Bool) → w.client.ready k ≡ true → b ≡ true
    → Holds (if b then (if e then end_session w.client else cut_channel w.client k) else w.client)
    (cut_by w k (if b && e then CloseChannels else Nothing)).conns
cuts_ready w k h true true ready on = nothing_open w.client w.conns
cuts_ready w k h true false ready on = cut_one w.client w.conns k ready h
cuts_ready w k h false e ready on = absurd (cc)

cuts : (w : World) (k : ℕ) → Holds w.client w.conns → Holds (changed w (Cut k)).client (changed w (Cut k)).conns
cuts w k h =
    either (λ (v : World). Holds v.client v.conns) (w.client.ready k) _ _ (λ ready. cuts_ready w k h (w.client.ready k)
    (ends_at_cut w.client) ready ready)
    (λ off. leaves w.client w.conns k w.client.refusals off (elsewhere w.client w.conns k h))

-- ---- every event

serves_open : (w : World) (k : ℕ) → Holds w.client w.conns → (b : Bool)
    → Holds (if b then later (serve_front w k (w.conns k).up) 1 else w).client
    (if b then later (serve_front w k (w.conns k).up) 1 else w).conns
serves_open w k h true = let s = serves w k h (w.conns k).up refl in record { channels = s.channels; making = s.making }
serves_open w k h false = h

crash_either : (w : World) (k : ℕ) (kept : Bool) → Holds w.client w.conns → Holds (changed w (Crash k kept)).client
    (changed w (Crash k kept)).conns
crash_either w k true h = crashes w k h (w.conns k).up
crash_either w k false h = all_off w.client w.conns h

drops : (w : World) (k : ℕ) → Holds w.client w.conns → Holds (changed w (Drop k)).client (changed w (Drop k)).conns
drops w k h = record {
  channels = put_on w.client w.conns k (server_off (w.conns k)) (ends_on (w.client.ready k) (w.client.stage k)
      (w.conns k) (h.channels k)) h.channels;
  making = h.making;
}

abbrev pub Here : World → Type 0
Here w = Holds w.client w.conns

moved_on : (w : World) (n : ℕ) → Here w → Here (later w n)
moved_on w n h = record { channels = h.channels; making = h.making }

pub keeps : (w : World) (e : Event) → Ready w.client w.conns → Making w.client → (w.client.live ≡ true → w.client.making
    ≡ None) → Here w → Here (happens w e)
keeps w (Submit g op) ready mine alone h = moved_on (changed w (Submit g op)) 1 (submits w g op h)
keeps w (Open k) ready mine alone h =
    either Here (may_open w k) _ _ (λ m. moved_on (changed w (Open k)) 1 (opens w k (step w.server w.moment (Accept k))
    (closed_of w k m) (free_of w k m) h)) (λ _. h)
keeps w (Push k slotless pick) ready mine alone h = either Here (w.client.ready k) _ _
    (λ r. moved_on (changed w (Push k slotless pick)) 1 (pushes w k slotless pick r h)) (λ _. h)
keeps w (Serve k) ready mine alone h = serves_open w k h (may_serve w k)
keeps w (Take k) ready mine alone h =
    either Here ((w.conns k).client_open && is_filled (w.conns k).down) _ _
    (λ m. moved_on (changed w (Take k)) 1
    (takes w k (λ y rest is t. no_dialog w.client w.conns k ready
    (more_down (w.conns k) 0 (counted_down 0 (w.conns k).down 0 y (front_down (w.conns k).down y rest is)
    (ap op_of t)))) mine alone h (w.conns k).down refl))
    (λ _. h)
keeps w (Cut k) ready mine alone h = either Here (w.conns k).client_open _ _ (λ _. moved_on (changed w (Cut k)) 1 (cuts w k h)) (λ _. h)
keeps w (Drop k) ready mine alone h = either Here (w.conns k).server_open _ _ (λ _. moved_on (changed w (Drop k)) 1 (drops w k h)) (λ _. h)
keeps w Restart ready mine alone h = moved_on (restarted w) 1 (all_off w.client w.conns h)
keeps w (Crash k kept) ready mine alone h = either Here (may_serve w k) _ _ (λ m. moved_on (changed w (Crash k kept)) 1
    (crash_either w k kept h)) (λ _. h)
keeps w (Wait n) ready mine alone h = moved_on w (10000 * n) h
keeps w (Finish refusal) ready mine alone h = either Here (not w.client.live) _ _
    (λ d. moved_on (changed w (Finish refusal)) 1 (record { channels = h.channels; making = h.making })) (λ _. h)
