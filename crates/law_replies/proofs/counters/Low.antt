-- Each event keeps the ids of sessions below a number, where the server's reply does.
use Rattle.std.proofs.Common.{◌≡◌, ℕ, ◌≤◌, ◌==◌, Bool, true, false, not, ◌&&◌, if◌then◌else◌, List, [], ◌∷◌, ◌++◌, refl}
use Rattle.std.proofs.Common.{subst, arith, Option, Some, None}
use Rattle.spec_exchange.specs.Table.{put, is_filled}
use Rattle.spec_exchange.specs.Status.{success}
use Rattle.spec_exchange.specs.State.{Reply, Accept, Message}
use Rattle.spec_exchange.specs.CheckSetup.{last_tree}
use Rattle.spec_exchange.specs.Step.{step}
use Rattle.spec_exchange.specs.Operations.{NoSession, HadStatus}
use Rattle.spec_exchange.specs.Client.{Client, Stage, Apart, SaidNegotiate, SaidFirst, SaidSecond, AskedTree, may_take, take_op, may_push}
use Rattle.spec_exchange.specs.Client.{has_its_slot, goes_itself, settle_no_slots, begun, outstanding, asked, own_message, ask_message}
use Rattle.spec_exchange.specs.Client.{ends_at_cut, end_session, cut_channel, leave_dialog, bind_channel, begin_session}
use Rattle.spec_exchange.specs.Client.{finish, note_refusal}
use Rattle.spec_exchange.specs.Settling.{Heard as Hearing, Settles, GoesAgain, Attaches, EndsSession, heard, hear, answered, is_awaited}
use Rattle.spec_exchange.specs.Dialogs.{DialogStep, GoesOn, Accepts, Binds, Readies, Refuses, dialog_step, dialog_message, stage_session}
use Rattle.spec_exchange.specs.Dialogs.{told_session, went_on, accepted, open_channel}
use Rattle.spec_exchange.specs.ClientStep.{Pick, Act, Nothing, CloseChannels, pick_after, pick_act, act_heard, some_unsettled, IsReady}
use Rattle.spec_exchange.specs.Network.{World, Event, Submit, Open, Push, Serve, Take, Cut, Drop, Restart, Crash, Wait, Finish, Conn, Sent}
use Rattle.spec_exchange.specs.Network.{Received, Token, ForDialog, ForOp, ForAttach, happens, changed, later, may_open, may_serve, fresh}
use Rattle.spec_exchange.specs.Network.{server_off, client_off, send_up, say_down, behind_front, take_front, pushed_by, answer, serve_front}
use Rattle.spec_exchange.specs.Network.{absorb_front, take_reply, took_by, dialog_took, op_took, closed_by, cut_by, behind_reply}
use Rattle.spec_exchange.specs.Network.{dialog_ended}
use Rattle.law_sessions.proofs.messages.Run.{both_ways, ended_well}
use Rattle.law_server.proofs.tables.Logic.{either}
use Rattle.law_sessions.proofs.sessions.Table.{Keeps, keeps_so, keeps_no_slots, keeps_begun, keeps_asked, keeps_settle}
use Rattle.law_replies.specs.counters.Low.{LowUp, LowDown, Low}

-- ---- lists

push_up : (n : ℕ) (xs : List Sent) (x : Sent) → x.message.session_id ≤ n → x.message.tree_id ≤ last_tree → LowUp n xs
    → LowUp n (xs ++ x ∷ [])
push_up n [] x l t all = (l, t, tt)
push_up n (v ∷ xs) x l t all = (all.0, all.1, push_up n xs x l t all.2)

push_down : (n : ℕ) (ys : List Received) (y : Received) → y.reply.session_id ≤ n → y.reply.tree_id ≤ last_tree → LowDown n ys
    → LowDown n (ys ++ y ∷ [])
push_down n [] y l t all = (l, t, tt)
push_down n (v ∷ ys) y l t all = (all.0, all.1, push_down n ys y l t all.2)

pub front_up : (n : ℕ) (xs : List Sent) (x : Sent) (rest : List Sent) → xs ≡ x ∷ rest → LowUp n xs
    → (x.message.session_id ≤ n) × (x.message.tree_id ≤ last_tree) × LowUp n rest
front_up n xs x rest e all = subst (λ l. LowUp n l) e all

pub front_down : (n : ℕ) (ys : List Received) (y : Received) (rest : List Received) → ys ≡ y ∷ rest → LowDown n ys
    → (y.reply.session_id ≤ n) × (y.reply.tree_id ≤ last_tree) × LowDown n rest
front_down n ys y rest e all = subst (λ l. LowDown n l) e all

-- ---- tables: what is said of each connection

abbrev LowConn : ℕ → Conn → Type 0
LowConn n c = LowUp n c.up × LowDown n c.down

put_low : (n : ℕ) (c : Client) (conns : ℕ → Conn) (k : ℕ) (d : Conn) → LowConn n d → Low n c conns → Low n c (put conns k d)
put_low n c conns k d l i =
    record {
      session = i.session;
      pending = i.pending;
      accepted = i.accepted;
      tree = i.tree;
      up = λ j. either (λ (x : Conn). LowUp n x.up) (j == k) d (conns j) (λ _. l.0) (λ _. i.up j);
      down = λ j. either (λ (x : Conn). LowDown n x.down) (j == k) d (conns j) (λ _. l.1) (λ _. i.down j);
    }

-- the client alone changes
becomes : (n : ℕ) (c d : Client) (conns : ℕ → Conn) → d.session ≤ n → d.pending ≤ n → d.accepted ≤ n → d.tree ≤ last_tree → Low n c conns
    → Low n d conns
becomes n c d conns session pending accepted tree i =
    record { session = session; pending = pending; accepted = accepted; tree = tree; up = i.up; down = i.down }

equal : (n a b : ℕ) → b ≡ a → a ≤ n → b ≤ n
equal n a b e l = omega (arith, e, l)

alike : (n : ℕ) (c d : Client) (conns : ℕ → Conn) → Keeps c d → Low n c conns → Low n d conns
alike n c d conns q i =
    let s = q.same in
    becomes n c d conns (equal n c.session d.session s.session i.session) (equal n c.pending d.pending s.pending i.pending)
    (equal n c.accepted d.accepted s.accepted i.accepted) (equal last_tree c.tree d.tree s.tree i.tree) i

sends : (n m : ℕ) (c : Client) (conns : ℕ → Conn) (k : ℕ) (t : Token) (x : Message) → x.session_id ≤ n → x.tree_id ≤ last_tree
    → Low n c conns → Low n c (put conns k (send_up (conns k) t x m))
sends n m c conns k t x l low i =
    put_low n c conns k (send_up (conns k) t x m) (push_up n (conns k).up (record { token = t; message = x }) l low (i.up k), i.down k) i

-- ---- Open, Cut, Drop and Restart

none_low : (n : ℕ) → 0 ≤ n
none_low n = omega arith

fresh_low : (n : ℕ) (c : Client) (k : ℕ) (served : Bool) → LowConn n (fresh c k served)
fresh_low n c k true = ((none_low n, none_low last_tree, tt), tt)
fresh_low n c k false = (tt, tt)

opens : (n : ℕ) (c : Client) (conns : ℕ → Conn) (k : ℕ) (served : Bool) → Low n c conns
    → Low n (open_channel c k) (put conns k (fresh c k served))
opens n c conns k served i =
    put_low n (open_channel c k) conns k (fresh c k served) (fresh_low n c k served)
    (becomes n c (open_channel c k) conns i.session i.pending i.accepted i.tree i)

one_off : (n : ℕ) (c : Client) (conns : ℕ → Conn) (k : ℕ) → Low n c conns → Low n c (put conns k (client_off (conns k)))
one_off n c conns k i = put_low n c conns k (client_off (conns k)) (i.up k, tt) i

all_off : (n : ℕ) (c : Client) (conns : ℕ → Conn) → Low n c conns → Low n c (λ k. client_off (conns k))
all_off n c conns i =
    record { session = i.session; pending = i.pending; accepted = i.accepted; tree = i.tree; up = i.up; down = λ k. tt }

servers_off : (n : ℕ) (c : Client) (conns : ℕ → Conn) → Low n c conns → Low n c (λ k. server_off (conns k))
servers_off n c conns i =
    record { session = i.session; pending = i.pending; accepted = i.accepted; tree = i.tree; up = λ k. tt; down = i.down }

abbrev pub IsLow : ℕ → World → Type 0
IsLow n w = Low n w.client w.conns

ended : (n : ℕ) (w : World) → IsLow n w → Low n (end_session w.client) (λ k. client_off (w.conns k))
ended n w i =
    all_off n (end_session w.client) w.conns (becomes n w.client (end_session w.client) w.conns i.session i.pending i.accepted i.tree i)

-- an open session ends with its last channel, and else the channel alone
pub both_cut : {X Y : Type 0} (P : X → Y → Type 0) (a b : Bool) (x y z : X) (u v : Y) → a ≡ true → P x u → P y v
    → P (if a then (if b then x else y) else z) (if a && b then u else v)
both_cut P true true x y z u v e f g = f
both_cut P true false x y z u v e f g = g
both_cut P false b x y z u v e f g = absurd (let h : false ≡ true = e in cc)

cuts : (n : ℕ) (w : World) (k : ℕ) → IsLow n w → IsLow n (changed w (Cut k))
cuts n w k i =
    either (λ (v : World). IsLow n v) (w.client.ready k) _ _
    (λ r. both_cut (λ (d : Client) (x : Act). Low n d (cut_by w k x).conns) (w.client.ready k) (ends_at_cut w.client)
    (end_session w.client) (cut_channel w.client k) w.client CloseChannels Nothing r (ended n w i)
    (one_off n (cut_channel w.client k) w.conns k
    (becomes n w.client (cut_channel w.client k) w.conns i.session i.pending i.accepted i.tree i)))
    (λ _. one_off n (leave_dialog w.client k) w.conns k
    (becomes n w.client (leave_dialog w.client k) w.conns i.session i.pending i.accepted i.tree i))

-- ---- Push

abbrev Pushed : ℕ → World → ℕ → Client → Act → Type 0
Pushed n w k c x = IsLow n (pushed_by w k c x)

push_op : (n : ℕ) (w : World) (k g s : ℕ) (c : Client) → Keeps w.client c → IsLow n w
    → Pushed n w k (pick_after c k (Some (record { op = g; slot = s }))) (pick_act c k (Some (record { op = g; slot = s })))
push_op n w k g s c q i =
    let P : Client → Act → Type 0 = λ d x. Pushed n w k d x in
    let still = alike n w.client c w.conns q i in
    both_ways P (may_push c k g) _ _ _ _
    (λ _. both_ways P (goes_itself c g) _ _ _ _
    (λ _. both_ways P (has_its_slot c g s) _ _ _ _
    (λ _. let d = outstanding (begun c g s) k g in
    let j = alike n w.client d w.conns (keeps_so w.client c d q (keeps_begun c k g s)) i in
    sends n _ d w.conns k (ForOp g) (own_message d k (w.conns k).next_id g) j.session j.tree j)
    (λ _. still))
    (λ _. let d = asked c k g in
    let j = alike n w.client d w.conns (keeps_so w.client c d q (keeps_asked c k g)) i in
    sends n _ d w.conns k (ForAttach g) (ask_message d k (w.conns k).next_id g) j.session j.tree j))
    (λ _. still)

push_pick : (n : ℕ) (w : World) (k : ℕ) (c : Client) (pick : Option Pick) → Keeps w.client c → IsLow n w
    → Pushed n w k (pick_after c k pick) (pick_act c k pick)
push_pick n w k c None q i =
    either (λ x. Pushed n w k c x) (some_unsettled c c.taken) _ _ (λ _. alike n w.client c w.conns q i)
    (λ _. alike n w.client c w.conns q i)
push_pick n w k c (Some p) q i = push_op n w k p.op p.slot c q i

pushes : (n : ℕ) (w : World) (k : ℕ) (slotless : List ℕ) (pick : Option Pick) → IsLow n w → IsLow n (changed w (Push k slotless pick))
pushes n w k slotless pick i =
    both_ways (λ d x. Pushed n w k d x) (w.client.ready k) _ _ _ _
    (λ _. push_pick n w k (settle_no_slots w.client k slotless) pick (keeps_no_slots w.client k slotless) i)
    (λ _. either (λ x. Pushed n w k w.client x) (some_unsettled w.client w.client.taken) _ _ (λ _. i) (λ _. i))

-- ---- Serve

abbrev pub Answers : ℕ → World → ℕ → Type 0
Answers n w k =
    (x : Sent) (rest : List Sent) → (w.conns k).up ≡ x ∷ rest → x.message.session_id ≤ n → x.message.tree_id ≤ last_tree
    → ((answer w x).reply.session_id ≤ n) × ((answer w x).reply.tree_id ≤ last_tree)

behind_low : (n : ℕ) (w : World) (k : ℕ) (x : Sent) (rest : List Sent) → (w.conns k).up ≡ x ∷ rest → IsLow n w
    → Low n w.client (put w.conns k (behind_front (w.conns k) rest))
behind_low n w k x rest e i =
    let f = front_up n (w.conns k).up x rest e (i.up k) in
    put_low n w.client w.conns k (behind_front (w.conns k) rest) (f.2, i.down k) i

said : (n : ℕ) (c : Client) (conns : ℕ → Conn) (k : ℕ) (y : Received) → y.reply.session_id ≤ n → y.reply.tree_id ≤ last_tree
    → Low n c conns → Low n c (put conns k (say_down (conns k) y))
said n c conns k y l t i =
    put_low n c conns k (say_down (conns k) y)
    (either (λ (d : Conn). LowConn n d) (conns k).client_open _ (conns k) (λ _. (i.up k, push_down n (conns k).down y l t (i.down k)))
    (λ _. (i.up k, i.down k))) i

serves : (n : ℕ) (w : World) (k : ℕ) → Answers n w k → IsLow n w → (xs : List Sent) → (w.conns k).up ≡ xs → IsLow n (serve_front w k xs)
serves n w k answers i [] e = i
serves n w k answers i (x ∷ rest) e =
    let A = answer w x in
    let f = front_up n (w.conns k).up x rest e (i.up k) in
    let told = answers x rest e f.0 f.1 in
    said n w.client (put w.conns k (behind_front (w.conns k) rest)) k (record { token = x.token; reply = A.reply; place = w.log.places })
    told.0 told.1 (behind_low n w k x rest e i)

absorbs : (n : ℕ) (w : World) (k : ℕ) → IsLow n w → (xs : List Sent) → (w.conns k).up ≡ xs → IsLow n (absorb_front w k xs)
absorbs n w k i [] e = i
absorbs n w k i (x ∷ rest) e = behind_low n w k x rest e i

crashes : (n : ℕ) (w : World) (k : ℕ) (kept : Bool) → IsLow n w → IsLow n (changed w (Crash k kept))
crashes n w k true i =
    let v = absorb_front w k (w.conns k).up in
    servers_off n v.client v.conns (absorbs n w k i (w.conns k).up refl)
crashes n w k false i = servers_off n w.client w.conns i

-- ---- Take

stage_low : (n : ℕ) (c : Client) → c.session ≤ n → c.pending ≤ n → (stage : Stage) → stage_session c stage ≤ n
stage_low n c session pending Apart = none_low n
stage_low n c session pending (SaidNegotiate bound) = none_low n
stage_low n c session pending (SaidFirst true) = session
stage_low n c session pending (SaidFirst false) = none_low n
stage_low n c session pending (SaidSecond true) = session
stage_low n c session pending (SaidSecond false) = pending
stage_low n c session pending AskedTree = pending

told_low : (n : ℕ) (c : Client) (r : Reply) → c.pending ≤ n → r.session_id ≤ n → (stage : Stage) → told_session c stage r ≤ n
told_low n c r pending l Apart = pending
told_low n c r pending l (SaidNegotiate bound) = pending
told_low n c r pending l (SaidFirst bound) = pending
told_low n c r pending l (SaidSecond true) = pending
told_low n c r pending l (SaidSecond false) = l
told_low n c r pending l AskedTree = pending

ready_low : (n : ℕ) (w : World) (k session tree : ℕ) → session ≤ n → tree ≤ last_tree → IsLow n w
    → IsLow n (dialog_ended w k (IsReady k session tree))
ready_low n w k session tree l low i =
    ended_well (λ (v : World). IsLow n v) w k session tree
    (λ _. becomes n w.client (bind_channel w.client k) w.conns i.session i.pending i.accepted i.tree i)
    (λ _ _. becomes n w.client (begin_session w.client k session tree) w.conns l i.pending i.accepted low i)
    (one_off n (leave_dialog w.client k) w.conns k
    (becomes n w.client (leave_dialog w.client k) w.conns i.session i.pending i.accepted i.tree i))

dialog_takes : (n : ℕ) (w : World) (k : ℕ) (r : Reply) → r.session_id ≤ n → r.tree_id ≤ last_tree → IsLow n w → (d : DialogStep)
    → IsLow n (dialog_took w k r d)
dialog_takes n w k r l t i (GoesOn stage) =
    let c = went_on w.client k stage r in
    let p = told_low n w.client r i.pending l stage in
    sends n 1 c w.conns k ForDialog (dialog_message c k (w.conns k).next_id stage) (stage_low n c i.session p stage) (none_low last_tree)
    (becomes n w.client c w.conns i.session p i.accepted i.tree i)
dialog_takes n w k r l t i Accepts =
    let c = accepted w.client k in
    sends n 1 c w.conns k ForDialog (dialog_message c k (w.conns k).next_id AskedTree) i.pending (none_low last_tree)
    (becomes n w.client c w.conns i.session i.pending i.pending i.tree i)
dialog_takes n w k r l t i Binds = ready_low n w k w.client.session w.client.tree i.session i.tree i
dialog_takes n w k r l t i Readies = ready_low n w k w.client.pending r.tree_id i.pending t i
dialog_takes n w k r l t i (Refuses status) =
    let c = note_refusal w.client k (HadStatus status) in
    one_off n c w.conns k (becomes n w.client c w.conns i.session i.pending i.accepted i.tree i)

hears : (n : ℕ) (w : World) (k g : ℕ) (asking : Bool) (r : Reply) (place : ℕ) → IsLow n w → (h : Hearing)
    → Low n (hear w.client g asking r place h) (closed_by w k (act_heard h)).conns
hears n w k g asking r place i (Settles o) =
    alike n w.client (hear w.client g asking r place (Settles o)) w.conns (keeps_settle w.client g asking r place o) i
hears n w k g asking r place i GoesAgain =
    becomes n w.client (answered w.client g) w.conns i.session i.pending i.accepted i.tree i
hears n w k g asking r place i Attaches =
    becomes n w.client (hear w.client g asking r place Attaches) w.conns i.session i.pending i.accepted i.tree i
hears n w k g asking r place i EndsSession =
    all_off n (hear w.client g asking r place EndsSession) w.conns
    (becomes n w.client (hear w.client g asking r place EndsSession) w.conns i.session i.pending i.accepted i.tree i)

op_takes : (n : ℕ) (w : World) (k g : ℕ) (asking : Bool) (r : Reply) (place : ℕ) → IsLow n w → IsLow n (op_took w k g asking r place)
op_takes n w k g asking r place i =
    both_ways (λ (c : Client) (x : Act). Low n c (closed_by w k x).conns) (is_awaited w.client k g asking)
    (hear w.client g asking r place (heard w.client g asking r)) w.client (act_heard (heard w.client g asking r)) Nothing
    (λ _. hears n w k g asking r place i (heard w.client g asking r)) (λ _. i)

takes : (n : ℕ) (w : World) (k : ℕ) → IsLow n w → (ys : List Received) → (w.conns k).down ≡ ys → IsLow n (take_reply w k ys)
takes n w k i [] e = i
takes n w k i (y ∷ rest) e = by y.token
  where
    behind : IsLow n (behind_reply w k rest)
    behind = (let f = front_down n (w.conns k).down y rest e (i.down k) in
        put_low n w.client w.conns k (take_front (w.conns k) rest) (i.up k, f.2) i)

    by : (t : Token) → IsLow n (took_by (behind_reply w k rest) k y.reply y.place t)
    by ForDialog =
        (let f = front_down n (w.conns k).down y rest e (i.down k) in
        dialog_takes n (behind_reply w k rest) k y.reply f.0 f.1 behind (dialog_step (w.client.stage k) y.reply.status))
    by (ForOp g) = op_takes n (behind_reply w k rest) k g false y.reply y.place behind
    by (ForAttach g) = op_takes n (behind_reply w k rest) k g true y.reply y.place behind

-- ---- every event

pub low_on : (n : ℕ) (w : World) (e : Event) → ((k : ℕ) → may_serve w k ≡ true → Answers n w k) → IsLow n w
    → Low n (happens w e).client (happens w e).conns
low_on n w (Submit g op) answers i =
    either (λ d. Low n d w.conns) (may_take w.client g op) (take_op w.client g op) w.client
    (λ _. becomes n w.client (take_op w.client g op) w.conns i.session i.pending i.accepted i.tree i) (λ _. i)
low_on n w (Open k) answers i =
    either (λ (v : World). IsLow n v) (may_open w k) _ _
    (λ _. opens n w.client w.conns k ((step w.server w.moment (Accept k)).reply.status == success) i) (λ _. i)
low_on n w (Push k slotless pick) answers i =
    either (λ (v : World). IsLow n v) (w.client.ready k) _ _ (λ _. pushes n w k slotless pick i) (λ _. i)
low_on n w (Serve k) answers i =
    either (λ (v : World). IsLow n v) (may_serve w k) (later (serve_front w k (w.conns k).up) 1) w
    (λ may. serves n w k (answers k may) i (w.conns k).up refl) (λ _. i)
low_on n w (Take k) answers i =
    either (λ (v : World). IsLow n v) ((w.conns k).client_open && is_filled (w.conns k).down) _ _
    (λ _. takes n w k i (w.conns k).down refl) (λ _. i)
low_on n w (Cut k) answers i = either (λ (v : World). IsLow n v) (w.conns k).client_open _ _ (λ _. cuts n w k i) (λ _. i)
low_on n w (Drop k) answers i =
    either (λ (v : World). IsLow n v) (w.conns k).server_open _ _
    (λ _. put_low n w.client w.conns k (server_off (w.conns k)) (tt, i.down k) i) (λ _. i)
low_on n w Restart answers i = servers_off n w.client w.conns i
low_on n w (Crash k kept) answers i = either (λ (v : World). IsLow n v) (may_serve w k) _ _ (λ _. crashes n w k kept i) (λ _. i)
low_on n w (Wait m) answers i = i
low_on n w (Finish refusal) answers i =
    either (λ (v : World). IsLow n v) (not w.client.live) _ _
    (λ _. becomes n w.client (finish w.client (NoSession refusal)) w.conns i.session i.pending i.accepted i.tree i) (λ _. i)
