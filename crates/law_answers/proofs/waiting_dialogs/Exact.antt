-- Each event leaves what waits of a dialog the message of its stage: while a session is in the making no other dialog waits, so the
-- columns that change then are looked at by none.
use Rattle.std.proofs.lemmas.Bool.{eqb-false}
use Rattle.std.proofs.Common.{◌≡◌, ℕ, ◌+◌, ◌==◌, Bool, true, false, not, ◌&&◌, if◌then◌else◌, List, [], ◌∷◌, ◌++◌, refl}
use Rattle.std.proofs.Common.{sym, ap, ◌∙◌, subst}
use Rattle.std.proofs.Common.{arith, Option, Some, None}
use Rattle.spec_exchange.specs.Table.{put, is_filled}
use Rattle.spec_exchange.specs.Status.{success, more_processing_required}
use Rattle.spec_exchange.specs.State.{Reply, Accept, Message}
use Rattle.spec_exchange.specs.Step.{step}
use Rattle.spec_exchange.specs.Schedules.{is_talking}
use Rattle.spec_exchange.specs.Client.{Client, Stage, Apart, SaidNegotiate, SaidFirst, SaidSecond, AskedTree, may_take, take_op, may_push}
use Rattle.spec_exchange.specs.Client.{has_its_slot, goes_itself, settle_no_slots, begun, outstanding, asked, own_message, ask_message}
use Rattle.spec_exchange.specs.Client.{ends_at_cut, end_session, cut_channel, leave_dialog, bind_channel, begin_session, finish}
use Rattle.spec_exchange.specs.Operations.{NoSession}
use Rattle.spec_exchange.specs.Settling.{Heard as Hearing, Settles, GoesAgain, Attaches, EndsSession, heard, hear, is_awaited}
use Rattle.spec_exchange.specs.Dialogs.{DialogStep, GoesOn, Accepts, Binds, Readies, Refuses, dialog_step}
use Rattle.spec_exchange.specs.Dialogs.{dialog_message, went_on, accepted}
use Rattle.spec_exchange.specs.Dialogs.{open_channel}
use Rattle.spec_exchange.specs.ClientStep.{Pick, Act, Nothing, CloseChannels, pick_after, pick_act, act_heard, some_unsettled, IsReady}
use Rattle.spec_exchange.specs.Network.{World, Event, Submit, Open, Push, Serve, Take, Cut, Drop, Restart, Crash, Wait, Finish, Conn, Sent}
use Rattle.spec_exchange.specs.Network.{Received, Token, ForDialog, ForOp, ForAttach, op_of, happens, changed, later}
use Rattle.spec_exchange.specs.Network.{may_open, may_serve, fresh}
use Rattle.spec_exchange.specs.Network.{server_off, client_off, send_up, say_down, behind_front, take_front, pushed_by, answer, serve_front}
use Rattle.spec_exchange.specs.Network.{absorb_front, take_reply, took_by, dialog_took, op_took, closed_by, cut_by, behind_reply, restarted}
use Rattle.spec_exchange.specs.Network.{dialog_ended, run, start, Settings}
use Rattle.spec_exchange.specs.Runs.{acts}
use Rattle.law_sessions.specs.messages.Connections.{Connections, count_up, count_down, copies, is_bound}
use Rattle.law_sessions.proofs.messages.Run.{both_ways, ended_well, connections}
use Rattle.law_sessions.proofs.messages.Reached.{on_every_run}
use Rattle.law_server.proofs.tables.Logic.{either}
use Rattle.law_sessions.specs.sessions.Sessions.{Sessions, makes_session}
use Rattle.law_sessions.specs.sessions.Dialogs.{Dialogs, Channel, IsClosed, IsReady as ReadyNow, IsInDialog, Awaits}
use Rattle.law_sessions.specs.sessions.Dialogs.{MessageAlone, ReplyAlone, IsLost}
use Rattle.law_sessions.proofs.sessions.Always.{sessions}
use Rattle.law_sessions.proofs.sessions.DialogFacts.{dialogs}
use Rattle.law_sessions.proofs.sessions.Table.{Keeps, keeps_so, keeps_no_slots, keeps_begun, keeps_asked, keeps_answered, keeps_joined}
use Rattle.law_sessions.proofs.sessions.Table.{keeps_settle}
use Rattle.law_answers.specs.waiting_dialogs.Exact.{ExactAt, AreExact, MessagesAreExact}
use Rattle.law_answers.proofs.waiting_dialogs.Alike.{Alike, alike, moved, kept, put_exact, both_exact, closed_exact, empty_exact}

-- what the laws say of a world
record Facts (z : Settings) (w : World) : Type 0 where
  counts : ℕ → ℕ
  carried : Connections w.client w.conns counts
  sits : Sessions w.client w.conns w.server
  talk : Dialogs z.who w.client w.conns

-- ---- what is talking

no_talk : is_talking Apart ≡ false
unfolding is_talking
no_talk = refl

apart_exact : (c : Client) (k : ℕ) (p : Conn) → ExactAt c k Apart p
apart_exact c k p o t x xs e = absurd (let h : false ≡ true = sym no_talk ∙ t in cc)

-- a stage that talks is a binding's or makes a session
kinds_of : (stage : Stage) → is_talking stage ≡ true → is_bound stage ≡ false → makes_session stage ≡ true
unfolding is_talking
kinds_of Apart t b = absurd (let h : false ≡ true = t in cc)
kinds_of (SaidNegotiate bound) t b = ap not b
kinds_of (SaidFirst bound) t b = ap not b
kinds_of (SaidSecond bound) t b = ap not b
kinds_of AskedTree t b = refl

by_test : {P : Type 0} (b : Bool) → (b ≡ true → P) → (b ≡ false → P) → P
by_test true f g = f refl
by_test false f g = g refl

-- while one makes a session no other talks
no_other : (z : Settings) (w : World) → Facts z w → (k : ℕ) → makes_session (w.client.stage k) ≡ true → (j : ℕ) → (j == k) ≡ false
    → is_talking (w.client.stage j) ≡ true → ⊥
no_other z w f k makes j off t =
    let c = f.carried in
    let s = f.sits in
    let here : w.client.making ≡ Some k = s.making k makes in
    by_test (is_bound (w.client.stage j))
    (λ b. (let l = s.live_accepted (c.stages j b) in let h : None ≡ Some k = sym l.2 ∙ here in cc))
    (λ b. (let there : w.client.making ≡ Some j = s.making j (kinds_of (w.client.stage j) t b) in
    let h : Some j ≡ Some k = sym there ∙ here in
    let q : j ≡ k = (cc) in
    eqb-false j k off q))

-- of a client's stages alone: while one makes a session no other talks
abbrev IsQuietClient : Client → Type 0
IsQuietClient c =
    (k : ℕ) → makes_session (c.stage k) ≡ true → (j : ℕ) → (j == k) ≡ false → is_talking (c.stage j) ≡ true → ⊥

-- so every other connection is exact for any client
others_exact : (w : World) (d : Client) → IsQuietClient w.client → (k : ℕ) → makes_session (w.client.stage k) ≡ true → (j : ℕ)
    → (j == k) ≡ false → ExactAt d j (w.client.stage j) (w.conns j)
others_exact w d quiet k makes j off o t x xs e = absurd (quiet k makes j off t)

others_alike : (w : World) (d : Client) → Alike w.client d → AreExact w.client w.conns → (j : ℕ)
    → ExactAt d j (w.client.stage j) (w.conns j)
others_alike w d e i j = moved w.client d e j (w.client.stage j) (w.conns j) (i j)

alike_itself : (c : Client) → Alike c c
alike_itself c = record { who = refl; session = refl; pending = refl; accepted = refl }

-- ---- a connection that changes, with no stage

same_up : (c : Client) (conns : ℕ → Conn) (k : ℕ) (p : Conn) → p.up ≡ (conns k).up → (p.client_open ≡ true → (conns k).client_open ≡ true)
    → AreExact c conns → AreExact c (put conns k p)
same_up c conns k p up still i =
    put_exact (λ j q. ExactAt c j (c.stage j) q) conns k p (λ o t x xs e. i k (still o) t x xs (sym up ∙ e)) (λ j e. i j)

off_exact : (c : Client) (conns : ℕ → Conn) → AreExact c (λ q. server_off (conns q))
off_exact c conns k = empty_exact c k (c.stage k) (server_off (conns k)) refl

all_closed : (c : Client) (conns : ℕ → Conn) → AreExact c (λ q. client_off (conns q))
all_closed c conns k = closed_exact c k (c.stage k) (client_off (conns k)) refl

one_closed : (c : Client) (conns : ℕ → Conn) (k : ℕ) → AreExact c conns → AreExact c (put conns k (client_off (conns k)))
one_closed c conns k i =
    put_exact (λ j q. ExactAt c j (c.stage j) q) conns k (client_off (conns k))
    (closed_exact c k (c.stage k) (client_off (conns k)) refl) (λ j e. i j)

-- ---- Push, on a ready channel

sent_exact : (c d : Client) (conns : ℕ → Conn) (k n : ℕ) (t : Token) (m : Message) → Keeps c d → c.stage k ≡ Apart → AreExact c conns
    → AreExact d (put conns k (send_up (conns k) t m n))
sent_exact c d conns k n t m q at i =
    let e = alike c d q in
    let s = q.same in
    let p = send_up (conns k) t m n in
    let stage : d.stage k ≡ Apart = ap (λ (f : ℕ → Stage). f k) s.stage ∙ at in
    put_exact (λ j r. ExactAt d j (d.stage j) r) conns k p (subst (λ v. ExactAt d k v p) (sym stage) (apart_exact d k p))
    (λ j off. kept c d conns e s.stage i j)

abbrev IsPushed : World → ℕ → Client → Act → Type 0
IsPushed w k d x = AreExact (pushed_by w k d x).client (pushed_by w k d x).conns

kept_push : (w : World) (d : Client) → Keeps w.client d → AreExact w.client w.conns → AreExact d w.conns
kept_push w d q i = (let s = q.same in kept w.client d w.conns (alike w.client d q) s.stage i)

push_op : (w : World) (k g s : ℕ) (c : Client) → Keeps w.client c → w.client.stage k ≡ Apart → AreExact w.client w.conns
    → IsPushed w k (pick_after c k (Some (record { op = g; slot = s }))) (pick_act c k (Some (record { op = g; slot = s })))
push_op w k g s c q at i =
    let P : Client → Act → Type 0 = λ d x. IsPushed w k d x in
    both_ways P (may_push c k g) _ _ _ _
    (λ _. both_ways P (goes_itself c g) _ _ _ _
    (λ _. both_ways P (has_its_slot c g s) _ _ _ _
    (λ _. let d = outstanding (begun c g s) k g in
    sent_exact w.client d w.conns k _ (ForOp g) (own_message d k (w.conns k).next_id g)
    (keeps_so w.client c d q (keeps_begun c k g s)) at i)
    (λ _. kept_push w c q i))
    (λ _. let d = asked c k g in
    sent_exact w.client d w.conns k _ (ForAttach g) (ask_message d k (w.conns k).next_id g)
    (keeps_so w.client c d q (keeps_asked c k g)) at i))
    (λ _. kept_push w c q i)

push_pick : (w : World) (k : ℕ) (c : Client) (pick : Option Pick) → Keeps w.client c → w.client.stage k ≡ Apart → AreExact w.client w.conns
    → IsPushed w k (pick_after c k pick) (pick_act c k pick)
push_pick w k c None q at i =
    either (λ x. IsPushed w k c x) (some_unsettled c c.taken) _ _ (λ _. kept_push w c q i) (λ _. kept_push w c q i)
push_pick w k c (Some p) q at i = push_op w k p.op p.slot c q at i

pushes : (w : World) (k : ℕ) (slotless : List ℕ) (pick : Option Pick) → (w.client.ready k ≡ true → w.client.stage k ≡ Apart)
    → AreExact w.client w.conns → AreExact (changed w (Push k slotless pick)).client (changed w (Push k slotless pick)).conns
pushes w k slotless pick at i =
    both_ways (λ d x. IsPushed w k d x) (w.client.ready k) _ _ _ _
    (λ r. push_pick w k (settle_no_slots w.client k slotless) pick (keeps_no_slots w.client k slotless) (at r) i)
    (λ off. either (λ x. IsPushed w k w.client x) (some_unsettled w.client w.client.taken) _ _ (λ _. i) (λ _. i))

-- ---- Serve: a dialog's message was alone

rest_none : (z : Settings) (w : World) → Facts z w → (k : ℕ) (x : Sent) (rest : List Sent) → (w.conns k).up ≡ x ∷ rest
    → (w.conns k).client_open ≡ true → is_talking (w.client.stage k) ≡ true → rest ≡ []
rest_none z w f k x rest e co t = by ((let d = f.talk in d.channels k))
  where
    alone : (y : Sent) → (w.conns k).up ≡ y ∷ [] → rest ≡ []
    alone y u = (let h : x ∷ rest ≡ y ∷ [] = sym e ∙ u in cc)

    nothing : (w.conns k).up ≡ [] → rest ≡ []
    nothing u = absurd (let h : [] ≡ x ∷ rest = sym u ∙ e in cc)

    waits : Awaits (w.conns k) → rest ≡ []
    waits (MessageAlone y u n m) = alone y u
    waits (ReplyAlone y u n m) = nothing u
    waits (IsLost o u n) = nothing u

    by : Channel (w.client.ready k) (w.client.stage k) (w.conns k) → rest ≡ []
    by (IsClosed r s o n) = absurd (let h : false ≡ true = sym o ∙ co in cc)
    by (ReadyNow r s o) = absurd (let h : false ≡ true = sym no_talk ∙ (ap is_talking (sym s) ∙ t) in cc)
    by (IsInDialog r s o a) = waits a

say_same : (c : Conn) (y : Received) → (say_down c y).up ≡ c.up
say_same c y = either (λ d. d.up ≡ c.up) c.client_open (record c { down = c.down ++ y ∷ [] }) c (λ _. refl) (λ _. refl)

say_open : (c : Conn) (y : Received) → (say_down c y).client_open ≡ true → c.client_open ≡ true
say_open c y =
    either (λ d. d.client_open ≡ true → c.client_open ≡ true) c.client_open (record c { down = c.down ++ y ∷ [] }) c (λ _ o. o) (λ _ o. o)

serves : (z : Settings) (w : World) → Facts z w → (k : ℕ) → AreExact w.client w.conns → (xs : List Sent) → (w.conns k).up ≡ xs
    → AreExact (serve_front w k xs).client (serve_front w k xs).conns
serves z w f k i [] is = i
serves z w f k i (x ∷ rest) is =
    let g = put w.conns k (behind_front (w.conns k) rest) in
    let y : Received = record { token = x.token; reply = (answer w x).reply; place = w.log.places } in
    same_up w.client g k (say_down (g k) y) (say_same (g k) y) (say_open (g k) y)
    (put_exact (λ j q. ExactAt w.client j (w.client.stage j) q) w.conns k (behind_front (w.conns k) rest)
    (λ o t v vs e. absurd (let h : [] ≡ v ∷ vs = sym (rest_none z w f k x rest is o t) ∙ e in cc)) (λ j e. i j))

-- ---- Take of an operation's reply

hear_exact : (w : World) (g : ℕ) (asking : Bool) (r : Reply) (place : ℕ) (h : Hearing) → AreExact w.client w.conns
    → AreExact (hear w.client g asking r place h) (closed_by w 0 (act_heard h)).conns
hear_exact w g asking r place (Settles o) i = kept_push w _ (keeps_settle w.client g asking r place o) i
hear_exact w g asking r place GoesAgain i = kept_push w _ (keeps_answered w.client g) i
hear_exact w g asking r place Attaches i = kept_push w _ (keeps_joined w.client g) i
hear_exact w g asking r place EndsSession i = all_closed (hear w.client g asking r place EndsSession) w.conns

-- (the connection's number is looked at by CloseChannel alone, which no reply comes to)
hears : (w : World) (k g : ℕ) (asking : Bool) (r : Reply) (place : ℕ) → AreExact w.client w.conns
    → AreExact (op_took w k g asking r place).client (op_took w k g asking r place).conns
hears w k g asking r place i =
    both_ways (λ (d : Client) (x : Act). AreExact d (closed_by w k x).conns) (is_awaited w.client k g asking)
    (hear w.client g asking r place (heard w.client g asking r)) w.client (act_heard (heard w.client g asking r)) Nothing
    (λ _. by (heard w.client g asking r)) (λ _. i)
  where
    by : (h : Hearing) → AreExact (hear w.client g asking r place h) (closed_by w k (act_heard h)).conns
    by (Settles o) = hear_exact w g asking r place (Settles o) i
    by GoesAgain = hear_exact w g asking r place GoesAgain i
    by Attaches = hear_exact w g asking r place Attaches i
    by EndsSession = hear_exact w g asking r place EndsSession i

-- ---- Take of a dialog's response: w is the world in which it has left its list

abbrev IsTook : World → Type 0
IsTook v = AreExact v.client v.conns

left_exact : (w : World) (k : ℕ) (d : Client) → Alike w.client d → d.stage ≡ put w.client.stage k Apart → AreExact w.client w.conns
    → AreExact d (put w.conns k (client_off (w.conns k)))
left_exact w k d e is i =
    both_exact w.client d w.conns k (client_off (w.conns k)) Apart is (apart_exact d k (client_off (w.conns k)))
    (λ j off. others_alike w d e i j)

-- a channel that is ready: its stage is over, and nothing else changes where a session is live
apart_here : (w : World) (k : ℕ) (d : Client) → d.stage ≡ put w.client.stage k Apart
    → ((j : ℕ) → (j == k) ≡ false → ExactAt d j (w.client.stage j) (w.conns j)) → AreExact d w.conns
apart_here w k d is there j =
    subst (λ t. ExactAt d j t (w.conns j)) (sym (ap (λ (f : ℕ → Stage). f j) is))
    (by_test (j == k)
    (λ e. subst (λ t. ExactAt d j t (w.conns j)) (sym (ap (λ b. if b then Apart else w.client.stage j) e)) (apart_exact d j (w.conns j)))
    (λ e. subst (λ t. ExactAt d j t (w.conns j)) (sym (ap (λ b. if b then Apart else w.client.stage j) e)) (there j e)))

ended : (w : World) (k session tree : ℕ) → IsQuietClient w.client → (w.client.live ≡ false → makes_session (w.client.stage k) ≡ true)
    → AreExact w.client w.conns → IsTook (dialog_ended w k (IsReady k session tree))
ended w k session tree quiet makes i =
    ended_well (λ u. IsTook u) w k session tree
    (λ live. apart_here w k (bind_channel w.client k) refl
    (λ j off. others_alike w (bind_channel w.client k) (record { who = refl; session = refl; pending = refl; accepted = refl }) i j))
    (λ dead less. apart_here w k (begin_session w.client k session tree) refl
    (others_exact w (begin_session w.client k session tree) quiet k (makes dead)))
    (left_exact w k (leave_dialog w.client k) (record { who = refl; session = refl; pending = refl; accepted = refl }) refl i)

-- where the dialog goes on, its next message goes up
goes_exact : (w : World) (k : ℕ) (s : Stage) (d : Client) → d.stage ≡ put w.client.stage k s → (w.conns k).up ≡ []
    → ((j : ℕ) → (j == k) ≡ false → ExactAt d j (w.client.stage j) (w.conns j))
    → AreExact d (put w.conns k (send_up (w.conns k) ForDialog (dialog_message d k (w.conns k).next_id s) 1))
goes_exact w k s d is none there =
    let m = dialog_message d k (w.conns k).next_id s in
    let v : Sent = record { token = ForDialog; message = m } in
    let p = send_up (w.conns k) ForDialog m 1 in
    both_exact w.client d w.conns k p s is
    (λ o t x xs e. ((w.conns k).next_id, ap (λ (r : Sent). r.message) (front v x xs (sym (ap (λ us. us ++ v ∷ []) none) ∙ e)))) there
  where
    front : (v x : Sent) (xs : List Sent) → v ∷ [] ≡ x ∷ xs → x ≡ v
    front v x xs e = sym (let h : v ∷ [] ≡ x ∷ xs = e in cc)

-- ---- which step comes of which stage

-- the second SESSION_SETUP of a new session, before which the session's id is told
abbrev is_new_second : Stage → Bool
is_new_second (SaidSecond false) = true
is_new_second _ = false

same_stage : (s t : Stage) → GoesOn s ≡ GoesOn t → s ≡ t
same_stage s t e = cc

next_is : (b : Bool) (s t : Stage) (status : ℕ) → (if b then GoesOn s else Refuses status) ≡ GoesOn t → s ≡ t
next_is true s t status e = same_stage s t e
next_is false s t status e = absurd (let h : Refuses status ≡ GoesOn t = e in cc)

never_goes : (b : Bool) (d : DialogStep) (t : Stage) (status : ℕ) → (d ≡ GoesOn t → ⊥) → (if b then d else Refuses status) ≡ GoesOn t → ⊥
never_goes true d t status off e = off e
never_goes false d t status off e = let h : Refuses status ≡ GoesOn t = e in cc

second_makes : (stage next : Stage) (status : ℕ) → dialog_step stage status ≡ GoesOn next → is_new_second next ≡ true
    → makes_session stage ≡ true
second_makes Apart next status e s = absurd (let h : Refuses status ≡ GoesOn next = e in cc)
second_makes (SaidNegotiate b) next status e s =
    absurd (let h : false ≡ true = ap is_new_second (next_is (status == success) (SaidFirst b) next status e) ∙ s in cc)
second_makes (SaidFirst true) next status e s =
    absurd (let h : false ≡ true = ap is_new_second (next_is (status == more_processing_required) (SaidSecond true) next
    status e) ∙ s in cc)
second_makes (SaidFirst false) next status e s = refl
second_makes (SaidSecond true) next status e s =
    absurd (never_goes (status == success) Binds next status (λ q. (let h : Binds ≡ GoesOn next = q in cc)) e)
second_makes (SaidSecond false) next status e s =
    absurd (never_goes (status == success) Accepts next status (λ q. (let h : Accepts ≡ GoesOn next = q in cc)) e)
second_makes AskedTree next status e s =
    absurd (never_goes (status == success) Readies next status (λ q. (let h : Readies ≡ GoesOn next = q in cc)) e)

-- a step that ends well is none of those that go on or refuse
never_is : (b : Bool) (s : Stage) (d : DialogStep) (status : ℕ) → (GoesOn s ≡ d → ⊥) → (Refuses status ≡ d → ⊥)
    → (if b then GoesOn s else Refuses status) ≡ d → ⊥
never_is true s d status off no_end e = off e
never_is false s d status off no_end e = no_end e

ends_as : (b : Bool) (c d : DialogStep) (status : ℕ) → (c ≡ d → ⊥) → (Refuses status ≡ d → ⊥) → (if b then c else Refuses status) ≡ d → ⊥
ends_as true c d status off no_end e = off e
ends_as false c d status off no_end e = no_end e

accepts_makes : (stage : Stage) (status : ℕ) → dialog_step stage status ≡ Accepts → makes_session stage ≡ true
accepts_makes Apart status e = absurd (let h : Refuses status ≡ Accepts = e in cc)
accepts_makes (SaidNegotiate b) status e =
    absurd (never_is (status == success) (SaidFirst b) Accepts status (λ q. (let h : GoesOn (SaidFirst b) ≡ Accepts = q in cc))
    (λ q. (let h : Refuses status ≡ Accepts = q in cc)) e)
accepts_makes (SaidFirst b) status e =
    absurd (never_is (status == more_processing_required) (SaidSecond b) Accepts status
    (λ q. (let h : GoesOn (SaidSecond b) ≡ Accepts = q in cc)) (λ q. (let h : Refuses status ≡ Accepts = q in cc)) e)
accepts_makes (SaidSecond true) status e =
    absurd (ends_as (status == success) Binds Accepts status (λ q. (let h : Binds ≡ Accepts = q in cc))
    (λ q. (let h : Refuses status ≡ Accepts = q in cc)) e)
accepts_makes (SaidSecond false) status e = refl
accepts_makes AskedTree status e = refl

binds_bound : (stage : Stage) (status : ℕ) → dialog_step stage status ≡ Binds → is_bound stage ≡ true
binds_bound Apart status e = absurd (let h : Refuses status ≡ Binds = e in cc)
binds_bound (SaidNegotiate b) status e =
    absurd (never_is (status == success) (SaidFirst b) Binds status (λ q. (let h : GoesOn (SaidFirst b) ≡ Binds = q in cc))
    (λ q. (let h : Refuses status ≡ Binds = q in cc)) e)
binds_bound (SaidFirst b) status e =
    absurd (never_is (status == more_processing_required) (SaidSecond b) Binds status
    (λ q. (let h : GoesOn (SaidSecond b) ≡ Binds = q in cc)) (λ q. (let h : Refuses status ≡ Binds = q in cc)) e)
binds_bound (SaidSecond true) status e = refl
binds_bound (SaidSecond false) status e =
    absurd (ends_as (status == success) Accepts Binds status (λ q. (let h : Accepts ≡ Binds = q in cc))
    (λ q. (let h : Refuses status ≡ Binds = q in cc)) e)
binds_bound AskedTree status e =
    absurd (ends_as (status == success) Readies Binds status (λ q. (let h : Readies ≡ Binds = q in cc))
    (λ q. (let h : Refuses status ≡ Binds = q in cc)) e)

readies_makes : (stage : Stage) (status : ℕ) → dialog_step stage status ≡ Readies → makes_session stage ≡ true
readies_makes Apart status e = absurd (let h : Refuses status ≡ Readies = e in cc)
readies_makes (SaidNegotiate b) status e =
    absurd (never_is (status == success) (SaidFirst b) Readies status (λ q. (let h : GoesOn (SaidFirst b) ≡ Readies = q in cc))
    (λ q. (let h : Refuses status ≡ Readies = q in cc)) e)
readies_makes (SaidFirst b) status e =
    absurd (never_is (status == more_processing_required) (SaidSecond b) Readies status
    (λ q. (let h : GoesOn (SaidSecond b) ≡ Readies = q in cc)) (λ q. (let h : Refuses status ≡ Readies = q in cc)) e)
readies_makes (SaidSecond true) status e =
    absurd (ends_as (status == success) Binds Readies status (λ q. (let h : Binds ≡ Readies = q in cc))
    (λ q. (let h : Refuses status ≡ Readies = q in cc)) e)
readies_makes (SaidSecond false) status e =
    absurd (ends_as (status == success) Accepts Readies status (λ q. (let h : Accepts ≡ Readies = q in cc))
    (λ q. (let h : Refuses status ≡ Readies = q in cc)) e)
readies_makes AskedTree status e = refl

goes_alike : (c : Client) (k : ℕ) (s : Stage) (r : Reply) → is_new_second s ≡ false → Alike c (went_on c k s r)
goes_alike c k Apart r e = record { who = refl; session = refl; pending = refl; accepted = refl }
goes_alike c k (SaidNegotiate b) r e = record { who = refl; session = refl; pending = refl; accepted = refl }
goes_alike c k (SaidFirst b) r e = record { who = refl; session = refl; pending = refl; accepted = refl }
goes_alike c k (SaidSecond true) r e = record { who = refl; session = refl; pending = refl; accepted = refl }
goes_alike c k (SaidSecond false) r e = absurd (let h : true ≡ false = e in cc)
goes_alike c k AskedTree r e = record { who = refl; session = refl; pending = refl; accepted = refl }

-- ---- Take

dialog_by : (w : World) (k : ℕ) (r : Reply) → IsQuietClient w.client → (is_bound (w.client.stage k) ≡ true → w.client.live ≡ true)
    → (w.conns k).up ≡ [] → AreExact w.client w.conns → (d : DialogStep) → dialog_step (w.client.stage k) r.status ≡ d
    → IsTook (dialog_took w k r d)
dialog_by w k r quiet live none i (GoesOn s) e =
    goes_exact w k s (went_on w.client k s r) refl none
    (by_test (is_new_second s)
    (λ n. others_exact w (went_on w.client k s r) quiet k (second_makes (w.client.stage k) s r.status e n))
    (λ n j off. others_alike w (went_on w.client k s r) (goes_alike w.client k s r n) i j))
dialog_by w k r quiet live none i Accepts e =
    goes_exact w k AskedTree (accepted w.client k) refl none
    (others_exact w (accepted w.client k) quiet k (accepts_makes (w.client.stage k) r.status e))
dialog_by w k r quiet live none i Binds e =
    ended w k w.client.session w.client.tree quiet
    (λ dead. absurd (let h : true ≡ false = sym (live (binds_bound (w.client.stage k) r.status e)) ∙ dead in cc)) i
dialog_by w k r quiet live none i Readies e =
    ended w k w.client.pending r.tree_id quiet (λ dead. readies_makes (w.client.stage k) r.status e) i
dialog_by w k r quiet live none i (Refuses status) e =
    left_exact w k (leave_dialog w.client k) (record { who = refl; session = refl; pending = refl; accepted = refl }) refl i

put_up : (conns : ℕ → Conn) (k : ℕ) (rest : List Received) → (put conns k (take_front (conns k) rest) k).up ≡ (conns k).up
put_up conns k rest = ap (λ b. (if b then take_front (conns k) rest else conns k).up) (self k)
  where
    self : (n : ℕ) → (n == n) ≡ true
    self n = grind arith

takes : (w : World) (k : ℕ) → IsQuietClient w.client → (is_bound (w.client.stage k) ≡ true → w.client.live ≡ true)
    → AreExact w.client w.conns → (ys : List Received)
    → ((y : Received) (rest : List Received) → ys ≡ y ∷ rest → y.token ≡ ForDialog → (w.conns k).up ≡ [])
    → IsTook (take_reply w k ys)
takes w k quiet live i [] none = i
takes w k quiet live i (y ∷ rest) none = by y.token refl
  where
    j : AreExact w.client (put w.conns k (take_front (w.conns k) rest))
    j = same_up w.client w.conns k (take_front (w.conns k) rest) refl (λ o. o) i

    by : (t : Token) → y.token ≡ t → IsTook (took_by (behind_reply w k rest) k y.reply y.place t)
    by ForDialog e =
        dialog_by (behind_reply w k rest) k y.reply quiet live (put_up w.conns k rest ∙ none y rest refl e) j
        (dialog_step (w.client.stage k) y.reply.status) refl
    by (ForOp g) e = hears (behind_reply w k rest) k g false y.reply y.place j
    by (ForAttach g) e = hears (behind_reply w k rest) k g true y.reply y.place j

-- ---- where a dialog's reply comes, nothing waits for the server

zero_more : (b : Bool) (a n : ℕ) → b ≡ true → a + ((if b then 1 else 0) + n) ≡ 0 → ⊥
zero_more true a n q h = omega (arith, h)
zero_more false a n q h = let f : false ≡ true = q in cc

replies_alone : (z : Settings) (w : World) → Facts z w → (k : ℕ) (y : Received) (rest : List Received) → (w.conns k).down ≡ y ∷ rest
    → y.token ≡ ForDialog → (w.conns k).up ≡ []
replies_alone z w f k y rest e t = by ((let d = f.talk in d.channels k))
  where
    nothing : (w.conns k).down ≡ [] → (w.conns k).up ≡ []
    nothing n = absurd (let h : [] ≡ y ∷ rest = sym n ∙ e in cc)

    waits : Awaits (w.conns k) → (w.conns k).up ≡ []
    waits (MessageAlone x u n m) = nothing n
    waits (ReplyAlone x u n m) = u
    waits (IsLost o u n) = u

    counted : copies 0 (w.conns k) ≡ 0 → ⊥
    counted all =
        zero_more (op_of y.token == 0) (count_up 0 (w.conns k).up) (count_down 0 rest) (ap (λ v. op_of v == 0) t)
        (subst (λ ds. count_up 0 (w.conns k).up + count_down 0 ds ≡ 0) e all)

    by : Channel (w.client.ready k) (w.client.stage k) (w.conns k) → (w.conns k).up ≡ []
    by (IsClosed r s o n) = nothing n
    by (ReadyNow r s o) = absurd (counted (let c = f.carried in let all = c.ready k r in all.2))
    by (IsInDialog r s o a) = waits a

-- ---- the other events

first_same : (v x : Sent) (xs : List Sent) → v ∷ [] ≡ x ∷ xs → x ≡ v
first_same v x xs e = sym (let h : v ∷ [] ≡ x ∷ xs = e in cc)

fresh_exact : (c : Client) (k : ℕ) (served : Bool) → ExactAt (open_channel c k) k (SaidNegotiate c.live) (fresh c k served)
fresh_exact c k true o t x xs e = (
  0,
  ap (λ (r : Sent). r.message) (first_same (record {
    token = ForDialog;
    message = dialog_message c k 0 (SaidNegotiate c.live);
  }) x xs e),
)
fresh_exact c k false o t x xs e = absurd (let h : [] ≡ x ∷ xs = e in cc)

opened_exact : (w : World) (k : ℕ) (served : Bool) → AreExact w.client w.conns
    → AreExact (open_channel w.client k) (put w.conns k (fresh w.client k served))
opened_exact w k served i =
    let d = open_channel w.client k in
    both_exact w.client d w.conns k (fresh w.client k served) (SaidNegotiate w.client.live) refl (fresh_exact w.client k served)
    (λ j off. others_alike w d (record { who = refl; session = refl; pending = refl; accepted = refl }) i j)

-- an open session ends with its last channel, and else the channel alone
both_cut : {X Y : Type 0} (P : X → Y → Type 0) (a b : Bool) (x y z : X) (u v : Y) → a ≡ true → P x u → P y v
    → P (if a then (if b then x else y) else z) (if a && b then u else v)
both_cut P true true x y z u v e f g = f
both_cut P true false x y z u v e f g = g
both_cut P false b x y z u v e f g = absurd (let h : false ≡ true = e in cc)

cut_exact : (w : World) (k : ℕ) → AreExact w.client w.conns → IsTook (changed w (Cut k))
cut_exact w k i =
    either (λ (v : World). IsTook v) (w.client.ready k) _ _
    (λ r. both_cut (λ (d : Client) (x : Act). AreExact d (cut_by w k x).conns) (w.client.ready k) (ends_at_cut w.client)
    (end_session w.client) (cut_channel w.client k) w.client CloseChannels Nothing r (all_closed (end_session w.client) w.conns)
    (one_closed (cut_channel w.client k) w.conns k
    (kept w.client (cut_channel w.client k) w.conns (record { who = refl; session = refl; pending = refl; accepted = refl }) refl i)))
    (λ _. left_exact w k (leave_dialog w.client k) (record { who = refl; session = refl; pending = refl; accepted = refl }) refl i)

absorbed_exact : (w : World) (k : ℕ) (xs : List Sent) → IsTook (restarted (absorb_front w k xs))
absorbed_exact w k [] = off_exact w.client w.conns
absorbed_exact w k (x ∷ rest) = off_exact w.client (put w.conns k (behind_front (w.conns k) rest))

crashed_exact : (w : World) (k : ℕ) (kept : Bool) → IsTook (changed w (Crash k kept))
crashed_exact w k true = absorbed_exact w k (w.conns k).up
crashed_exact w k false = off_exact w.client w.conns

ready_apart : (z : Settings) (w : World) → Facts z w → (k : ℕ) → w.client.ready k ≡ true → w.client.stage k ≡ Apart
ready_apart z w f k e = by ((let d = f.talk in d.channels k))
  where
    by : Channel (w.client.ready k) (w.client.stage k) (w.conns k) → w.client.stage k ≡ Apart
    by (IsClosed r s o n) = s
    by (ReadyNow r s o) = s
    by (IsInDialog r s o a) = absurd (let h : false ≡ true = sym r ∙ e in cc)

stays_exact : (z : Settings) (w : World) (e : Event) → Facts z w → AreExact w.client w.conns → IsTook (happens w e)
stays_exact z w (Submit g op) f i =
    either (λ d. AreExact d w.conns) (may_take w.client g op) (take_op w.client g op) w.client
    (λ _. kept w.client (take_op w.client g op) w.conns (record {
      who = refl;
      session = refl;
      pending = refl;
      accepted = refl;
    }) refl i) (λ _. i)
stays_exact z w (Open k) f i =
    either (λ (v : World). IsTook v) (may_open w k) _ _
    (λ m. opened_exact w k ((step w.server w.moment (Accept k)).reply.status == success) i) (λ _. i)
stays_exact z w (Push k slotless pick) f i =
    either (λ (v : World). IsTook v) (w.client.ready k) _ _ (λ _. pushes w k slotless pick (ready_apart z w f k) i) (λ _. i)
stays_exact z w (Serve k) f i =
    either (λ (v : World). IsTook v) (may_serve w k) (later (serve_front w k (w.conns k).up) 1) w
    (λ _. serves z w f k i (w.conns k).up refl) (λ _. i)
stays_exact z w (Take k) f i =
    either (λ (v : World). IsTook v) ((w.conns k).client_open && is_filled (w.conns k).down) _ _
    (λ can. takes w k (no_other z w f) (λ b. (let c = f.carried in c.stages k b)) i (w.conns k).down (replies_alone z w f k)) (λ _. i)
stays_exact z w (Cut k) f i = either (λ (v : World). IsTook v) (w.conns k).client_open _ _ (λ _. cut_exact w k i) (λ _. i)
stays_exact z w (Drop k) f i =
    either (λ (v : World). IsTook v) (w.conns k).server_open _ _
    (λ _. put_exact (λ j q. ExactAt w.client j (w.client.stage j) q) w.conns k (server_off (w.conns k))
    (empty_exact w.client k (w.client.stage k) (server_off (w.conns k)) refl) (λ j e. i j)) (λ _. i)
stays_exact z w Restart f i = off_exact w.client w.conns
stays_exact z w (Crash k kept) f i = either (λ (v : World). IsTook v) (may_serve w k) _ _ (λ _. crashed_exact w k kept) (λ _. i)
stays_exact z w (Wait n) f i = i
stays_exact z w (Finish refusal) f i =
    either (λ (v : World). IsTook v) (not w.client.live) _ _
    (λ _. kept w.client (finish w.client (NoSession refusal)) w.conns (record {
      who = refl;
      session = refl;
      pending = refl;
      accepted = refl;
    }) refl i) (λ _. i)

-- ---- on every run

facts : (z : Settings) (es : List Event) → Facts z (run es (start z))
facts z es = record { counts = acts es (start z); carried = connections z es; sits = sessions z es; talk = dialogs z es }

pub messages_are_exact : MessagesAreExact
messages_are_exact z es =
    on_every_run (λ w a. AreExact w.client w.conns) z (λ k. empty_exact (start z).client k Apart ((start z).conns k) refl)
    (λ xs e h. stays_exact z (run xs (start z)) e (facts z xs) h) es
