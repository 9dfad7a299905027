-- Each message that waits names as its previous session one that is past; and no operation's message carries the status
-- USER_SESSION_DELETED.
use Rattle.std.proofs.Common.{◌≡◌, ◌≢◌, ℕ, ◌+◌, ◌<◌, ◌==◌, Bool, true, false, not, ◌&&◌, if◌then◌else◌, List, [], ◌∷◌}
use Rattle.std.proofs.Common.{◌++◌, ◌⊎◌, inl, inr, refl, arith, sym, subst, ◌∙◌, ap, Option, Some, None, slice_get}
use Rattle.spec_exchange.specs.Table.{put}
use Rattle.spec_exchange.specs.Status.{success}
use Rattle.spec_exchange.specs.Commands.{Command}
use Rattle.spec_exchange.specs.State.{Reply, Message, Accept}
use Rattle.spec_exchange.specs.Step.{step}
use Rattle.spec_exchange.specs.Operations.{Op, OpCreate, OpWrite, OpRead, OpEnd, OpTime, OpRename, OpRemove, OpLock}
use Rattle.spec_exchange.specs.Operations.{OpUnlock, OpFlush, OpStat, OpList, OpClose, request_of, reconnect_of}
use Rattle.spec_exchange.specs.Client.{Client, Stage, Apart, SaidNegotiate, SaidFirst, SaidSecond, AskedTree}
use Rattle.spec_exchange.specs.Client.{create_for, guid_for, may_push, goes_itself, has_its_slot, settle_no_slots}
use Rattle.spec_exchange.specs.Client.{begun, outstanding, asked, own_message, ask_message, ends_at_cut, end_session}
use Rattle.spec_exchange.specs.Client.{bind_channel, begin_session, leave_dialog}
use Rattle.spec_exchange.specs.Settling.{Heard as Hearing, Settles, GoesAgain, Attaches, EndsSession, heard, settle, is_awaited, answered}
use Rattle.spec_exchange.specs.Dialogs.{DialogStep, GoesOn, Accepts, Binds, Readies, Refuses, dialog_step}
use Rattle.spec_exchange.specs.Dialogs.{dialog_message, open_channel, went_on, accepted}
use Rattle.spec_exchange.specs.ClientStep.{Pick, Act, Nothing, CloseChannels, pick_after, pick_act, act_heard, some_unsettled, IsReady}
use Rattle.spec_exchange.specs.Network.{World, Event, Submit, Open, Push, Serve, Take, Cut, Drop, Restart, Crash, Wait}
use Rattle.spec_exchange.specs.Network.{Finish, Conn, Sent, Received, Token, ForDialog, ForOp, ForAttach, happens}
use Rattle.spec_exchange.specs.Network.{changed, later, may_open, may_serve, may_take_reply, fresh, server_off}
use Rattle.spec_exchange.specs.Network.{client_off, send_up, say_down, behind_front, take_front, pushed_by, answer}
use Rattle.spec_exchange.specs.Network.{serve_front, absorb_front, take_reply, took_by, dialog_took, op_took, closed_by}
use Rattle.spec_exchange.specs.Network.{cut_by, behind_reply, restarted, dialog_ended}
use Rattle.law_sessions.proofs.messages.Lists.{get-push, waited}
use Rattle.law_sessions.proofs.messages.Run.{both_ways, ended_well}
use Rattle.law_server.proofs.tables.Logic.{either}
use Rattle.law_sessions.specs.sessions.Sessions.{Sessions, is_work, is_ops, makes_session, previous_in}
use Rattle.law_sessions.proofs.sessions.Table.{keeps_begun, keeps_settle}
use Rattle.law_sessions.proofs.sessions.Waiting.{AllUp, News, still_all_up, lost_up}
use Rattle.law_answers.proofs.completeness.Client.{client_keeps}
use Rattle.law_answers.proofs.completeness.Statuses.{is_plain}
use Rattle.law_answers.proofs.completeness.Rising.{second_from, accept_from, no_asked}
use Rattle.law_answers.proofs.completeness.Seats.{Current, IsPast}

-- ---- what the client does to the sessions that it accepted

pub record Onward (c d : Client) : Type 0 where
  pub ranked : (n : ℕ) → 0 < c.rank n → 0 < d.rank n
  pub past : (n : ℕ) → 0 < c.rank n → (Current c → n ≢ c.accepted) → Current d → n ≢ d.accepted
  pub fresh : Current d → Current c ⊎ ((j : ℕ) × c.stage j ≡ SaidSecond false)
  pub last : (0 < c.accepted → 0 < c.rank c.accepted) → 0 < d.accepted → 0 < d.rank d.accepted

itself : (c : Client) → Onward c c
itself c = record { ranked = λ n r. r; past = λ n r p now. p now; fresh = λ now. inl now; last = λ f. f }

onward_by : (c d e : Client) → e.rank ≡ d.rank → e.accepted ≡ d.accepted → (Current e → Current d) → Onward c d → Onward c e
onward_by c d e rank accepted f o =
    record {
      ranked = λ n r. subst (λ g. 0 < g n) (sym rank) (o.ranked n r);
      past = λ n r p now. subst (λ x. n ≢ x) (sym accepted) (o.past n r p (f now));
      fresh = λ now. o.fresh (f now);
      last = λ g low. subst (λ h. 0 < h e.accepted) (sym rank) (subst (λ x. 0 < d.rank x) (sym accepted)
          (o.last g (subst (λ x. 0 < x) accepted low)));
    }

current_same : (c d : Client) → d.live ≡ c.live → d.stage ≡ c.stage → Current d → Current c
current_same c d live stage (inl l) = inl (sym live ∙ l)
current_same c d live stage (inr p) = inr (p.0, ap (λ f. f p.0) (sym stage) ∙ p.1)

current_put : (c d : Client) (k : ℕ) (s : Stage) → d.live ≡ c.live → d.stage ≡ put c.stage k s → s ≢ AskedTree → Current d → Current c
current_put c d k s live stage n (inl l) = inl (sym live ∙ l)
current_put c d k s live stage n (inr p) = by (p.0 == k) refl (ap (λ f. f p.0) (sym stage) ∙ p.1)
  where
    by : (b : Bool) → p.0 == k ≡ b → (if b then s else c.stage p.0) ≡ AskedTree → Current c
    by true q e = absurd (n e)
    by false q e = inr (p.0, e)

ended_not : (c d : Client) → d.live ≡ false → ((k : ℕ) → d.stage k ≡ Apart) → Current d → Current c
ended_not c d dead apart (inl l) = absurd (let e = sym dead ∙ l in cc)
ended_not c d dead apart (inr p) = absurd (let e = sym (apart p.0) ∙ p.1 in cc)

begun_from : (c : Client) (k : ℕ) (d : Client) → c.stage k ≡ AskedTree → Current d → Current c
begun_from c k d at now = inr (k, at)

ranked_on : (f : ℕ → ℕ) (p n x : ℕ) → 0 < f x → 0 < put f p (n + 1) x
ranked_on f p n x r = grind arith

own_rank : (f : ℕ → ℕ) (p n : ℕ) → 0 < put f p (n + 1) p
own_rank f p n = grind arith

no_rank : (f : ℕ → ℕ) (n x : ℕ) → f x ≡ 0 → 0 < f n → n ≢ x
no_rank f n x z r e = absurd (omega (arith, z, subst (λ i. 0 < f i) e r))

accepts_on : (w : World) (k : ℕ) → Sessions w.client w.conns w.server → w.client.stage k ≡ SaidSecond false
    → Onward w.client (accepted w.client k)
accepts_on w k s at =
    record {
      ranked = λ n r. ranked_on w.client.rank w.client.pending w.client.accepted_count n r;
      past = λ n r p now. no_rank w.client.rank n w.client.pending (s.pending_unranked k at) r;
      fresh = λ now. inr (k, at);
      last = λ f low. own_rank w.client.rank w.client.pending w.client.accepted_count;
    }

pub onward : (w : World) (e : Event) → Sessions w.client w.conns w.server → Onward w.client (happens w e).client
onward w e s =
    let c = w.client in let i = itself c in
    client_keeps (Onward c) w e (λ g op is may. onward_by c c _ refl refl (λ x. x) i) (record {
      opens = λ k. onward_by c c (open_channel c k) refl refl (current_put c (open_channel c k) k (SaidNegotiate c.live)
          refl refl (λ x. absurd (cc))) i;
      slotless = λ d k g l _ j. onward_by c d _ refl refl (λ x. x) j;
      begins_op = λ d k g n may _ j. let t = (keeps_begun d k g n).same in onward_by c d (outstanding (begun d g n) k g)
          t.rank t.accepted (current_same d (outstanding (begun d g n) k g) t.live t.stage) j;
      asks = λ d k g may _ j. onward_by c d _ refl refl (λ x. x) j;
      settles = λ k g asking rr place o on firm _. let t = (keeps_settle c g asking rr place o).same in
          onward_by c c (settle c g asking rr place o) t.rank t.accepted (current_same c (settle c g asking rr place o)
          t.live t.stage) i;
      answers = λ g. onward_by c c _ refl refl (λ x. x) i;
      joins = λ k g on. onward_by c c _ refl refl (λ x. x) i;
      ends = λ g _. onward_by c c (end_session (answered c g)) refl refl (ended_not c (end_session (answered c g)) refl (λ k. refl)) i;
      cut_ends = λ k on _. onward_by c c (end_session c) refl refl (ended_not c (end_session c) refl (λ k. refl)) i;
      cuts = λ k on more _. onward_by c c _ refl refl (λ x. x) i;
      goes = λ k te t y rest is token d. onward_by c c (went_on c k t y.reply) refl refl
          (current_put c (went_on c k t y.reply) k t refl refl (λ x. no_asked (c.stage k) y.reply.status
          (d ∙ ap GoesOn x))) i;
      accepts = λ k rr d. accepts_on w k s (accept_from (c.stage k) rr.status d);
      binds = λ k talks o live. onward_by c c (bind_channel c k) refl refl (current_put c (bind_channel c k) k Apart
          refl refl (λ x. absurd (cc))) i;
      begins = λ k tree at o dead. onward_by c c (begin_session c k c.pending tree) refl refl
          (begun_from c k (begin_session c k c.pending tree) at) i;
      leaves = λ k rs. onward_by c c (record (leave_dialog c k) { refusals = rs }) refl refl
          (current_put c (record (leave_dialog c k) { refusals = rs }) k Apart refl refl (λ x. absurd (cc))) i;
      finishes = λ why _. onward_by c c _ refl refl (λ x. x) i;
    }) i

-- ---- what is sent

none_named : {n : ℕ} (P : Type 0) → n ≡ 0 → 0 < n → P
none_named P e l = absurd (omega (arith, e, l))

work_previous : (c : Command) → is_work c ≡ true → previous_in c ≡ 0
unfolding is_work previous_in
work_previous c e = grind arith

first_from : (t : Stage) (status : ℕ) → dialog_step t status ≡ GoesOn (SaidFirst false) → t ≡ SaidNegotiate false
first_from Apart status e = absurd (cc)
first_from (SaidNegotiate true) status e = absurd (grind arith)
first_from (SaidNegotiate false) status e = refl
first_from (SaidFirst b) status e = absurd (grind arith)
first_from (SaidSecond true) status e = absurd (grind arith)
first_from (SaidSecond false) status e = absurd (grind arith)
first_from AskedTree status e = absurd (grind arith)

no_maker : (m : Option ℕ) (k : ℕ) → m ≡ None → m ≡ Some k → ⊥
no_maker m k e f = absurd (cc)

one_maker : (m : Option ℕ) (j k : ℕ) → m ≡ Some j → m ≡ Some k → j ≡ k
one_maker m j k e f = cc

-- while a new session's dialog begins none is live, and none asks for its tree or its accept
not_now : (w : World) (d : Client) (k : ℕ) → Sessions w.client w.conns w.server → Onward w.client d
    → makes_session (w.client.stage k) ≡ true → w.client.stage k ≢ AskedTree → w.client.stage k ≢ SaidSecond false
    → Current d → ⊥
not_now w d k s o makes a b now = by (o.fresh now)
  where
    same : (j : ℕ) → makes_session (w.client.stage j) ≡ true → j ≡ k
    same j m = one_maker w.client.making j k (s.making j m) (s.making k makes)

    by : Current w.client ⊎ ((j : ℕ) × w.client.stage j ≡ SaidSecond false) → ⊥
    by (inl (inl l)) = no_maker w.client.making k (s.live_accepted l).2 (s.making k makes)
    by (inl (inr p)) = a (ap w.client.stage (sym (same p.0 (ap makes_session p.1))) ∙ p.1)
    by (inr p) = b (ap w.client.stage (sym (same p.0 (ap makes_session p.1))) ∙ p.1)

negotiates : (t : Stage) → t ≡ SaidNegotiate false → makes_session t ≡ true × t ≢ AskedTree × t ≢ SaidSecond false
negotiates t e = (ap makes_session e, λ f. absurd (let i = sym e ∙ f in cc), λ f. absurd (let i = sym e ∙ f in cc))

begins_first : (t : Stage) → t ≡ SaidFirst false → makes_session t ≡ true × t ≢ AskedTree × t ≢ SaidSecond false
begins_first t e = (ap makes_session e, λ f. absurd (let i = sym e ∙ f in cc), λ f. absurd (let i = sym e ∙ f in cc))

past_news : (w : World) (d : Client) → Sessions w.client w.conns w.server
    → (0 < w.client.accepted → 0 < w.client.rank w.client.accepted) → Onward w.client d → News (IsPast d) w
unfolding previous_in
past_news w d s last o =
    record {
      work = λ t m work low. none_named _ (work_previous m.command work) low;
      first = λ k id b low. none_named _ refl low;
      next = λ k id r t e. next k id r t e;
      tree = λ k id low. none_named _ refl low;
    }
  where
    named : (k : ℕ) → makes_session (w.client.stage k) ≡ true × w.client.stage k ≢ AskedTree
        × w.client.stage k ≢ SaidSecond false → 0 < w.client.accepted → 0 < d.rank w.client.accepted
        × (Current d → w.client.accepted ≢ d.accepted)
    named k p low = (o.ranked w.client.accepted (last low), λ now. absurd (not_now w d k s o p.0 p.1 p.2 now))

    next : (k id : ℕ) (r : Reply) (t : Stage) → dialog_step (w.client.stage k) r.status ≡ GoesOn t → IsPast d (record {
      token = ForDialog;
      message = dialog_message (went_on w.client k t r) k id t;
    })
    next k id r Apart e low = none_named _ refl low
    next k id r (SaidNegotiate b) e low = none_named _ refl low
    next k id r (SaidFirst true) e low = none_named _ refl low
    next k id r (SaidFirst false) e low = named k (negotiates (w.client.stage k) (first_from (w.client.stage k) r.status e)) low
    next k id r (SaidSecond true) e low = none_named _ refl low
    next k id r (SaidSecond false) e low = named k (begins_first (w.client.stage k) (second_from (w.client.stage k) r.status e).0) low
    next k id r AskedTree e low = none_named _ refl low

pub past_on : (w : World) (e : Event) → Sessions w.client w.conns w.server
    → (0 < w.client.accepted → 0 < w.client.rank w.client.accepted) → AllUp (IsPast w.client) w.conns
    → AllUp (IsPast (happens w e).client) (happens w e).conns
past_on w e s last h =
    let d = (happens w e).client in let o = onward w e s in
    still_all_up (IsPast d) w e (past_news w d s last o) (λ k n x is low. let p = h k n x is low in
    (o.ranked (previous_in x.message.command) p.0, o.past (previous_in x.message.command) p.0 p.1))

-- ---- an operation's message carries no such status

abbrev pub PlainOp : Sent → Type 0
PlainOp x = is_ops x.token ≡ true → is_plain x.message.command ≡ true

own_plain : (op : Op) (guid file slot number : ℕ) → is_plain (request_of op guid file slot number) ≡ true
unfolding is_plain
own_plain (OpCreate path access share disposition persist directory) guid file slot number = refl
own_plain (OpWrite create at bytes) guid file slot number = refl
own_plain (OpRead create at size) guid file slot number = refl
own_plain (OpEnd create size) guid file slot number = refl
own_plain (OpTime create time) guid file slot number = refl
own_plain (OpRename create path) guid file slot number = refl
own_plain (OpRemove create) guid file slot number = refl
own_plain (OpLock create at n exclusive) guid file slot number = refl
own_plain (OpUnlock create at n) guid file slot number = refl
own_plain (OpFlush create) guid file slot number = refl
own_plain (OpStat create) guid file slot number = refl
own_plain (OpList create) guid file slot number = refl
own_plain (OpClose create) guid file slot number = refl

ask_plain : (op : Op) (guid file : ℕ) → is_plain (reconnect_of op guid file) ≡ true
unfolding is_plain
ask_plain (OpCreate path access share disposition persist directory) guid file = refl
ask_plain (OpWrite create at bytes) guid file = refl
ask_plain (OpRead create at size) guid file = refl
ask_plain (OpEnd create size) guid file = refl
ask_plain (OpTime create time) guid file = refl
ask_plain (OpRename create path) guid file = refl
ask_plain (OpRemove create) guid file = refl
ask_plain (OpLock create at n exclusive) guid file = refl
ask_plain (OpUnlock create at n) guid file = refl
ask_plain (OpFlush create) guid file = refl
ask_plain (OpStat create) guid file = refl
ask_plain (OpList create) guid file = refl
ask_plain (OpClose create) guid file = refl

one_of : (xs : List Sent) (y : Sent) (n : ℕ) (x : Sent) → slice_get (xs ++ y ∷ []) n ≡ Some x
    → ((m : ℕ) → slice_get xs m ≡ Some x → PlainOp x) → PlainOp y → PlainOp x
one_of xs y n x h old new = by (get-push xs y n).1
  where
    same : (y x : Sent) → Some y ≡ Some x → y ≡ x
    same y x e = cc

    by : (slice_get (xs ++ y ∷ []) n ≡ slice_get xs n) ⊎ (slice_get (xs ++ y ∷ []) n ≡ Some y) → PlainOp x
    by (inl e) = old n (sym e ∙ h)
    by (inr e) = subst PlainOp (same y x (sym e ∙ h)) new

sent_up : (conns : ℕ → Conn) (k n0 : ℕ) (t : Token) (m : Message) → PlainOp (record { token = t; message = m })
    → AllUp PlainOp conns → AllUp PlainOp (put conns k (send_up (conns k) t m n0))
sent_up conns k n0 t m new i j n x h =
    elim (j == k) as (λ b. slice_get (if b then send_up (conns k) t m n0 else conns j).up n ≡ Some x → PlainOp x) [
      | true ↦ λ g. one_of (conns k).up (record { token = t; message = m }) n x g (λ p. i k p x) new
      | false ↦ λ g. i j n x g
    ] h

opened_up : (c : Client) (conns : ℕ → Conn) (k : ℕ) (served : Bool) → AllUp PlainOp conns → AllUp PlainOp (put conns k (fresh c k served))
opened_up c conns k served i j n x h =
    elim (j == k) as (λ b. slice_get (if b then fresh c k served else conns j).up n ≡ Some x → PlainOp x)
    [ true ↦ λ g. by served n g | false ↦ λ g. i j n x g ] h
  where
    by : (b : Bool) (n : ℕ) → slice_get (if b then record {
      token = ForDialog;
      message = dialog_message c k 0 (SaidNegotiate c.live);
    } ∷ [] else []) n ≡ Some x → PlainOp x
    by true n g = one_of [] (record { token = ForDialog; message = dialog_message c k 0 (SaidNegotiate c.live) }) n x g
        (λ m e. absurd (grind arith)) (λ o. absurd (cc))
    by false n g = absurd (grind arith)

sends_op : (w : World) (k g s : ℕ) (c : Client) → AllUp PlainOp w.conns
    → AllUp PlainOp (pushed_by w k (pick_after c k (Some (record { op = g; slot = s })))
    (pick_act c k (Some (record { op = g; slot = s })))).conns
sends_op w k g s c i =
    let Q : Client → Act → Type 0 = λ d x. AllUp PlainOp (pushed_by w k d x).conns in
    both_ways Q (may_push c k g) _ _ _ _
    (λ _. both_ways Q (goes_itself c g) _ _ _ _
    (λ _. both_ways Q (has_its_slot c g s) _ _ _ _
    (λ _. let d = outstanding (begun c g s) k g in sent_up w.conns k _ (ForOp g) (own_message d k (w.conns k).next_id g)
    (λ _. own_plain (d.op g) (guid_for d g) (d.file (create_for d g)) (d.slot_of g) (d.number_of g)) i) (λ _. i))
    (λ _. let d = asked c k g in sent_up w.conns k _ (ForAttach g) (ask_message d k (w.conns k).next_id g)
    (λ _. ask_plain (d.op (create_for d g)) (guid_for d (create_for d g)) (d.file (create_for d g))) i))
    (λ _. i)

picks : (w : World) (k : ℕ) (c : Client) (pick : Option Pick) → AllUp PlainOp w.conns
    → AllUp PlainOp (pushed_by w k (pick_after c k pick) (pick_act c k pick)).conns
picks w k c None i = either (λ x. AllUp PlainOp (pushed_by w k c x).conns) (some_unsettled c c.taken) _ _ (λ _. i) (λ _. i)
picks w k c (Some p) i = sends_op w k p.op p.slot c i

pushes : (w : World) (k : ℕ) (slotless : List ℕ) (pick : Option Pick) → AllUp PlainOp w.conns
    → AllUp PlainOp (changed w (Push k slotless pick)).conns
pushes w k slotless pick i =
    both_ways (λ d x. AllUp PlainOp (pushed_by w k d x).conns) (w.client.ready k) _ _ _ _
    (λ _. picks w k (settle_no_slots w.client k slotless) pick i)
    (λ off. either (λ x. AllUp PlainOp (pushed_by w k w.client x).conns) (some_unsettled w.client w.client.taken) _ _ (λ _. i) (λ _. i))

say_same : (c : Conn) (y : Received) → (say_down c y).up ≡ c.up
say_same c y = either (λ d. d.up ≡ c.up) c.client_open (record c { down = c.down ++ y ∷ [] }) c (λ _. refl) (λ _. refl)

behind_up : (conns : ℕ → Conn) (k : ℕ) (x0 : Sent) (rest : List Sent) → (conns k).up ≡ x0 ∷ rest → AllUp PlainOp conns
    → AllUp PlainOp (put conns k (behind_front (conns k) rest))
behind_up conns k x0 rest is i j n x h = let o = waited conns k x0 rest j n x is h in i j o.0 x o.1

all_lost : (conns : ℕ → Conn) → AllUp PlainOp (λ q. server_off (conns q))
all_lost conns j n x h = absurd (grind arith)

serves : (w : World) (k : ℕ) → AllUp PlainOp w.conns → (xs : List Sent) → (w.conns k).up ≡ xs → AllUp PlainOp (serve_front w k xs).conns
serves w k i [] is = i
serves w k i (x ∷ rest) is =
    let g = put w.conns k (behind_front (w.conns k) rest) in
    lost_up PlainOp g k (say_down (g k) (record { token = x.token; reply = (answer w x).reply; place = w.log.places }))
    (inl (say_same (g k) _)) (behind_up w.conns k x rest is i)

hears : (w : World) (k g : ℕ) (asking : Bool) (r : Reply) (place : ℕ) → AllUp PlainOp w.conns
    → AllUp PlainOp (op_took w k g asking r place).conns
hears w k g asking r place i = either (λ (x : Act). AllUp PlainOp (closed_by w k x).conns)
    (is_awaited w.client k g asking) (act_heard (heard w.client g asking r)) Nothing
    (λ _. by (heard w.client g asking r)) (λ _. i)
  where
    by : (h : Hearing) → AllUp PlainOp (closed_by w k (act_heard h)).conns
    by (Settles o) = i
    by GoesAgain = i
    by Attaches = i
    by EndsSession = i

ended_up : (w : World) (k session tree : ℕ) → AllUp PlainOp w.conns → AllUp PlainOp (dialog_ended w k (IsReady k session tree)).conns
ended_up w k session tree i = ended_well (λ v. AllUp PlainOp v.conns) w k session tree (λ _. i) (λ _ _. i)
    (lost_up PlainOp w.conns k (client_off (w.conns k)) (inl refl) i)

dialogs : (w : World) (k : ℕ) (r : Reply) → AllUp PlainOp w.conns → (d : DialogStep) → AllUp PlainOp (dialog_took w k r d).conns
dialogs w k r i (GoesOn s) = sent_up w.conns k 1 ForDialog _ (λ o. absurd (cc)) i
dialogs w k r i Accepts = sent_up w.conns k 1 ForDialog _ (λ o. absurd (cc)) i
dialogs w k r i Binds = ended_up w k w.client.session w.client.tree i
dialogs w k r i Readies = ended_up w k w.client.pending r.tree_id i
dialogs w k r i (Refuses status) = lost_up PlainOp w.conns k (client_off (w.conns k)) (inl refl) i

takes : (w : World) (k : ℕ) → AllUp PlainOp w.conns → (ys : List Received) → AllUp PlainOp (take_reply w k ys).conns
takes w k i [] = i
takes w k i (y ∷ rest) = by y.token
  where
    j : AllUp PlainOp (put w.conns k (take_front (w.conns k) rest))
    j = lost_up PlainOp w.conns k (take_front (w.conns k) rest) (inl refl) i

    by : (t : Token) → AllUp PlainOp (took_by (behind_reply w k rest) k y.reply y.place t).conns
    by ForDialog = dialogs (behind_reply w k rest) k y.reply j (dialog_step (w.client.stage k) y.reply.status)
    by (ForOp g) = hears (behind_reply w k rest) k g false y.reply y.place j
    by (ForAttach g) = hears (behind_reply w k rest) k g true y.reply y.place j

cuts : (w : World) (k : ℕ) → AllUp PlainOp w.conns → AllUp PlainOp (changed w (Cut k)).conns
cuts w k i =
    either (λ (v : World). AllUp PlainOp v.conns) (w.client.ready k) _ _
    (λ _. either (λ (x : Act). AllUp PlainOp (cut_by w k x).conns) (w.client.ready k && ends_at_cut w.client)
    CloseChannels Nothing (λ _. i) (λ _. lost_up PlainOp w.conns k (client_off (w.conns k)) (inl refl) i))
    (λ _. lost_up PlainOp w.conns k (client_off (w.conns k)) (inl refl) i)

absorbs_lost : (w : World) (k : ℕ) (xs : List Sent) → AllUp PlainOp (restarted (absorb_front w k xs)).conns
absorbs_lost w k [] = all_lost w.conns
absorbs_lost w k (x ∷ rest) = all_lost (put w.conns k (behind_front (w.conns k) rest))

crashes : (w : World) (k : ℕ) (kept : Bool) → AllUp PlainOp (changed w (Crash k kept)).conns
crashes w k true = absorbs_lost w k (w.conns k).up
crashes w k false = all_lost w.conns

pub plain_on : (w : World) (e : Event) → AllUp PlainOp w.conns → AllUp PlainOp (happens w e).conns
plain_on w (Submit g op) i = i
plain_on w (Open k) i = either (λ (v : World). AllUp PlainOp v.conns) (may_open w k) _ _
    (λ _. opened_up w.client w.conns k ((step w.server w.moment (Accept k)).reply.status == success) i) (λ _. i)
plain_on w (Push k slotless pick) i = either (λ (v : World). AllUp PlainOp v.conns) (w.client.ready k) _ _
    (λ _. pushes w k slotless pick i) (λ _. i)
plain_on w (Serve k) i = either (λ (v : World). AllUp PlainOp v.conns) (may_serve w k)
    (later (serve_front w k (w.conns k).up) 1) w (λ _. serves w k i (w.conns k).up refl) (λ _. i)
plain_on w (Take k) i = either (λ (v : World). AllUp PlainOp v.conns) (may_take_reply w k) _ _ (λ _. takes w k i (w.conns k).down) (λ _. i)
plain_on w (Cut k) i = either (λ (v : World). AllUp PlainOp v.conns) (w.conns k).client_open _ _ (λ _. cuts w k i) (λ _. i)
plain_on w (Drop k) i = either (λ (v : World). AllUp PlainOp v.conns) (w.conns k).server_open _ _
    (λ _. lost_up PlainOp w.conns k (server_off (w.conns k)) (inr refl) i) (λ _. i)
plain_on w Restart i = all_lost w.conns
plain_on w (Crash k kept) i = either (λ (v : World). AllUp PlainOp v.conns) (may_serve w k) _ _ (λ _. crashes w k kept) (λ _. i)
plain_on w (Wait n) i = i
plain_on w (Finish refusal) i = either (λ (v : World). AllUp PlainOp v.conns) (not w.client.live) _ _ (λ _. i) (λ _. i)
