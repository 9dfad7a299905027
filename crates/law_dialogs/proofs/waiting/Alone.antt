-- Each event leaves what waits of a dialog alone: an operation goes up on a ready channel, which carries nothing of a dialog.
use Rattle.std.proofs.Common.{◌≡◌, ℕ, ◌+◌, ◌==◌, Bool, true, false, not, ◌&&◌, if◌then◌else◌, List, [], ◌∷◌, ◌++◌, refl, sym}
use Rattle.std.proofs.Common.{ap, ◌∙◌, subst}
use Rattle.std.proofs.Common.{arith, Option, Some, None}
use Rattle.spec_exchange.specs.Table.{put, is_filled}
use Rattle.spec_exchange.specs.Status.{success}
use Rattle.spec_exchange.specs.State.{Reply, Accept, Message}
use Rattle.spec_exchange.specs.Step.{step}
use Rattle.spec_exchange.specs.Client.{Client, may_push, has_its_slot, goes_itself, settle_no_slots}
use Rattle.spec_exchange.specs.Client.{begun, outstanding, asked, own_message, ask_message, ends_at_cut}
use Rattle.spec_exchange.specs.Settling.{Heard as Hearing, Settles, GoesAgain, Attaches, EndsSession, heard, is_awaited}
use Rattle.spec_exchange.specs.Dialogs.{DialogStep, GoesOn, Accepts, Binds, Readies, Refuses, dialog_step}
use Rattle.spec_exchange.specs.ClientStep.{Pick, Act, Nothing, CloseChannels, pick_after, pick_act, act_heard, some_unsettled, IsReady}
use Rattle.spec_exchange.specs.Network.{World, Event, Submit, Open, Push, Serve, Take, Cut, Drop, Restart, Crash, Wait, Finish, Conn, Sent}
use Rattle.spec_exchange.specs.Network.{Received, Token, ForDialog, ForOp, ForAttach, op_of, happens, changed, later, may_open}
use Rattle.spec_exchange.specs.Network.{may_serve, fresh}
use Rattle.spec_exchange.specs.Network.{server_off, client_off, send_up, say_down, behind_front, take_front, pushed_by, answer, serve_front}
use Rattle.spec_exchange.specs.Network.{absorb_front, take_reply, took_by, dialog_took, op_took, closed_by, cut_by, behind_reply, restarted}
use Rattle.spec_exchange.specs.Network.{dialog_ended, run, start, Settings}
use Rattle.law_sessions.specs.messages.Connections.{Connections, count_up, count_down, copies}
use Rattle.law_sessions.proofs.messages.Run.{both_ways, ended_well, connections}
use Rattle.law_sessions.proofs.messages.Reached.{on_every_run}
use Rattle.law_server.proofs.tables.Logic.{either, front_of}
use Rattle.law_sessions.specs.sessions.Dialogs.{Dialogs, Channel, IsClosed, IsReady as ReadyNow, IsInDialog, Awaits}
use Rattle.law_sessions.specs.sessions.Dialogs.{MessageAlone, ReplyAlone, IsLost}
use Rattle.law_sessions.proofs.sessions.DialogFacts.{dialogs}
use Rattle.law_dialogs.specs.waiting.Alone.{NoDialogs, IsOneOr, Nothing as NoneWaits, One, Operations, AreAlone, DialogsAreAlone}

-- ---- by the change of the connections

put_alone : (conns : ℕ → Conn) (k : ℕ) (d : Conn) → IsOneOr d.up → AreAlone conns → AreAlone (put conns k d)
put_alone conns k d new i j =
    elim (j == k) as (λ b. IsOneOr (if b then d else conns j).up) [
      | true ↦ new
      | false ↦ i j
    ]

-- it stays as it is, whatever else of it changes
same_alone : (conns : ℕ → Conn) (k : ℕ) (d : Conn) → d.up ≡ (conns k).up → AreAlone conns → AreAlone (put conns k d)
same_alone conns k d e i = put_alone conns k d (subst IsOneOr (sym e) (i k)) i

no_more : (xs : List Sent) (x : Sent) → NoDialogs xs → (x.token ≡ ForDialog → ⊥) → NoDialogs (xs ++ x ∷ [])
no_more [] x all one = (one, tt)
no_more (y ∷ xs) x all one = (all.0, no_more xs x all.1 one)

-- an operation's message behind operations'
sent_alone : (conns : ℕ → Conn) (k n : ℕ) (t : Token) (m : Message) → (t ≡ ForDialog → ⊥) → NoDialogs (conns k).up → AreAlone conns
    → AreAlone (put conns k (send_up (conns k) t m n))
sent_alone conns k n t m own none i =
    put_alone conns k (send_up (conns k) t m n) (Operations (no_more (conns k).up (record { token = t; message = m }) none own)) i

-- a dialog's message where nothing waits
first_alone : (conns : ℕ → Conn) (k n : ℕ) (t : Token) (m : Message) → (conns k).up ≡ [] → AreAlone conns
    → AreAlone (put conns k (send_up (conns k) t m n))
first_alone conns k n t m none i =
    let x : Sent = record { token = t; message = m } in
    put_alone conns k (send_up (conns k) t m n) (One x (ap (λ us. us ++ x ∷ []) none)) i

off_alone : (conns : ℕ → Conn) → AreAlone (λ q. server_off (conns q))
off_alone conns q = NoneWaits refl

rest_empty : (x y : Sent) (rest : List Sent) → x ∷ rest ≡ y ∷ [] → rest ≡ []
rest_empty x y rest e = (let h : x ∷ rest ≡ y ∷ [] = e in cc)

rest_of : (x : Sent) (rest : List Sent) → NoDialogs (x ∷ rest) → NoDialogs rest
rest_of x rest all = all.1

behind_alone : (us : List Sent) (x : Sent) (rest : List Sent) → us ≡ x ∷ rest → IsOneOr us → IsOneOr rest
behind_alone us x rest e (NoneWaits n) = absurd (let h : [] ≡ x ∷ rest = sym n ∙ e in cc)
behind_alone us x rest e (One y n) = NoneWaits (rest_empty x y rest (sym e ∙ n))
behind_alone us x rest e (Operations all) = Operations (rest_of x rest (subst NoDialogs e all))

-- ---- a ready channel carries nothing of a dialog

zero_both : (b : Bool) (n : ℕ) → (if b then 1 else 0) + n ≡ 0 → (b ≡ false) × (n ≡ 0)
zero_both true n e = absurd (omega (arith, e))
zero_both false n e = (refl, omega (arith, e))

dialog_counts : (t : Token) → t ≡ ForDialog → (op_of t == 0) ≡ true
dialog_counts t e = ap (λ u. op_of u == 0) e

none_counted : (xs : List Sent) → count_up 0 xs ≡ 0 → NoDialogs xs
none_counted [] e = tt
none_counted (x ∷ xs) e =
    let s = zero_both (op_of x.token == 0) (count_up 0 xs) e in (
      λ t. (let h : false ≡ true = sym s.0 ∙ dialog_counts x.token t in cc),
      none_counted xs s.1,
    )

zero_left : (a b : ℕ) → a + b ≡ 0 → a ≡ 0
zero_left a b e = omega (arith, e)

-- ---- Push

sends_op : (w : World) (k g s : ℕ) (c : Client) → NoDialogs (w.conns k).up → AreAlone w.conns
    → AreAlone (pushed_by w k (pick_after c k (Some (record { op = g; slot = s })))
    (pick_act c k (Some (record { op = g; slot = s })))).conns
sends_op w k g s c none i =
    let Q : Client → Act → Type 0 = λ d x. AreAlone (pushed_by w k d x).conns in
    both_ways Q (may_push c k g) _ _ _ _
    (λ _. both_ways Q (goes_itself c g) _ _ _ _
    (λ _. both_ways Q (has_its_slot c g s) _ _ _ _
    (λ _. let d = outstanding (begun c g s) k g in
    sent_alone w.conns k _ (ForOp g) (own_message d k (w.conns k).next_id g)
    (λ e. (let h : ForOp g ≡ ForDialog = e in cc)) none i) (λ _. i))
    (λ _. let d = asked c k g in
    sent_alone w.conns k _ (ForAttach g) (ask_message d k (w.conns k).next_id g) (λ e. (let h : ForAttach g ≡ ForDialog = e in cc)) none i))
    (λ _. i)

picks : (w : World) (k : ℕ) (c : Client) (pick : Option Pick) → NoDialogs (w.conns k).up → AreAlone w.conns
    → AreAlone (pushed_by w k (pick_after c k pick) (pick_act c k pick)).conns
picks w k c None none i = either (λ x. AreAlone (pushed_by w k c x).conns) (some_unsettled c c.taken) _ _ (λ _. i) (λ _. i)
picks w k c (Some p) none i = sends_op w k p.op p.slot c none i

pushes : (w : World) (k : ℕ) (slotless : List ℕ) (pick : Option Pick) → (w.client.ready k ≡ true → NoDialogs (w.conns k).up)
    → AreAlone w.conns → AreAlone (changed w (Push k slotless pick)).conns
pushes w k slotless pick none i =
    both_ways (λ d x. AreAlone (pushed_by w k d x).conns) (w.client.ready k) _ _ _ _
    (λ r. picks w k (settle_no_slots w.client k slotless) pick (none r) i)
    (λ off. either (λ x. AreAlone (pushed_by w k w.client x).conns) (some_unsettled w.client w.client.taken) _ _ (λ _. i) (λ _. i))

-- ---- Serve

say_same : (c : Conn) (y : Received) → (say_down c y).up ≡ c.up
say_same c y = either (λ d. d.up ≡ c.up) c.client_open (record c { down = c.down ++ y ∷ [] }) c (λ _. refl) (λ _. refl)

serves : (w : World) (k : ℕ) → AreAlone w.conns → (xs : List Sent) → (w.conns k).up ≡ xs → AreAlone (serve_front w k xs).conns
serves w k i [] is = i
serves w k i (x ∷ rest) is =
    let g = put w.conns k (behind_front (w.conns k) rest) in
    let y : Received = record { token = x.token; reply = (answer w x).reply; place = w.log.places } in
    same_alone g k (say_down (g k) y) (say_same (g k) y)
    (put_alone w.conns k (behind_front (w.conns k) rest) (behind_alone (w.conns k).up x rest is (i k)) i)

-- ---- Take

hears : (w : World) (k g : ℕ) (asking : Bool) (r : Reply) (place : ℕ) → AreAlone w.conns → AreAlone (op_took w k g asking r place).conns
hears w k g asking r place i =
    either (λ (x : Act). AreAlone (closed_by w k x).conns) (is_awaited w.client k g asking) (act_heard (heard w.client g asking r)) Nothing
    (λ _. by (heard w.client g asking r)) (λ _. i)
  where
    by : (h : Hearing) → AreAlone (closed_by w k (act_heard h)).conns
    by (Settles o) = i
    by GoesAgain = i
    by Attaches = i
    by EndsSession = i

ended : (w : World) (k session tree : ℕ) → AreAlone w.conns → AreAlone (dialog_ended w k (IsReady k session tree)).conns
ended w k session tree i = ended_well (λ v. AreAlone v.conns) w k session tree (λ _. i) (λ _ _. i)
    (same_alone w.conns k (client_off (w.conns k)) refl i)

dialog_by : (w : World) (k : ℕ) (r : Reply) → (w.conns k).up ≡ [] → AreAlone w.conns → (d : DialogStep)
    → AreAlone (dialog_took w k r d).conns
dialog_by w k r none i (GoesOn s) = first_alone w.conns k 1 ForDialog _ none i
dialog_by w k r none i Accepts = first_alone w.conns k 1 ForDialog _ none i
dialog_by w k r none i Binds = ended w k w.client.session w.client.tree i
dialog_by w k r none i Readies = ended w k w.client.pending r.tree_id i
dialog_by w k r none i (Refuses status) = same_alone w.conns k (client_off (w.conns k)) refl i

put_up : (conns : ℕ → Conn) (k : ℕ) (rest : List Received) → (put conns k (take_front (conns k) rest) k).up ≡ (conns k).up
put_up conns k rest = ap (λ b. (if b then take_front (conns k) rest else conns k).up) (self k)
  where
    self : (n : ℕ) → (n == n) ≡ true
    self n = grind arith

takes : (w : World) (k : ℕ) → AreAlone w.conns → (ys : List Received)
    → ((y : Received) (rest : List Received) → ys ≡ y ∷ rest → y.token ≡ ForDialog → (w.conns k).up ≡ [])
    → AreAlone (take_reply w k ys).conns
takes w k i [] none = i
takes w k i (y ∷ rest) none = by y.token refl
  where
    j : AreAlone (put w.conns k (take_front (w.conns k) rest))
    j = same_alone w.conns k (take_front (w.conns k) rest) refl i

    by : (t : Token) → y.token ≡ t → AreAlone (took_by (behind_reply w k rest) k y.reply y.place t).conns
    by ForDialog e = dialog_by (behind_reply w k rest) k y.reply (put_up w.conns k rest ∙ none y rest refl e) j
        (dialog_step (w.client.stage k) y.reply.status)
    by (ForOp g) e = hears (behind_reply w k rest) k g false y.reply y.place j
    by (ForAttach g) e = hears (behind_reply w k rest) k g true y.reply y.place j

more_than : (b : Bool) (a n : ℕ) → b ≡ true → a + ((if b then 1 else 0) + n) ≡ 0 → ⊥
more_than true a n q h = omega (arith, h)
more_than false a n q h = let f : false ≡ true = q in cc

-- where a dialog's reply comes, nothing waits for the server
replies_alone : (z : Settings) (w : World) → Dialogs z.who w.client w.conns
    → ((k : ℕ) → w.client.ready k ≡ true → copies 0 (w.conns k) ≡ 0) → (k : ℕ) → (w.conns k).client_open ≡ true → (y : Received)
    (rest : List Received) → (w.conns k).down ≡ y ∷ rest → y.token ≡ ForDialog → (w.conns k).up ≡ []
replies_alone z w d ready k co y rest e t = by (d.channels k)
  where
    nothing : {X : Type 0} → (w.conns k).down ≡ [] → X
    nothing n = absurd (let h : [] ≡ y ∷ rest = sym n ∙ e in cc)

    waits : Awaits (w.conns k) → (w.conns k).up ≡ []
    waits (MessageAlone x u n m) = nothing n
    waits (ReplyAlone x u n m) = u
    waits (IsLost o u n) = u

    by : Channel (w.client.ready k) (w.client.stage k) (w.conns k) → (w.conns k).up ≡ []
    by (IsClosed r s o n) = nothing n
    by (ReadyNow r s o) =
        absurd (more_than (op_of y.token == 0) (count_up 0 (w.conns k).up) (count_down 0 rest) (dialog_counts y.token t)
        (subst (λ ds. count_up 0 (w.conns k).up + count_down 0 ds ≡ 0) e (ready k r)))
    by (IsInDialog r s o a) = waits a

-- ---- the other events

opened_alone : (c : Client) (conns : ℕ → Conn) (k : ℕ) (served : Bool) → AreAlone conns → AreAlone (put conns k (fresh c k served))
opened_alone c conns k true i = put_alone conns k (fresh c k true) (One _ refl) i
opened_alone c conns k false i = put_alone conns k (fresh c k false) (NoneWaits refl) i

cut_alone : (w : World) (k : ℕ) → AreAlone w.conns → AreAlone (changed w (Cut k)).conns
cut_alone w k i =
    either (λ (v : World). AreAlone v.conns) (w.client.ready k) _ _
    (λ _. either (λ (x : Act). AreAlone (cut_by w k x).conns) (w.client.ready k && ends_at_cut w.client) CloseChannels Nothing (λ _. i)
    (λ _. same_alone w.conns k (client_off (w.conns k)) refl i))
    (λ _. same_alone w.conns k (client_off (w.conns k)) refl i)

absorbed_alone : (w : World) (k : ℕ) (xs : List Sent) → AreAlone (restarted (absorb_front w k xs)).conns
absorbed_alone w k [] = off_alone w.conns
absorbed_alone w k (x ∷ rest) = off_alone (put w.conns k (behind_front (w.conns k) rest))

crashed_alone : (w : World) (k : ℕ) (kept : Bool) → AreAlone (changed w (Crash k kept)).conns
crashed_alone w k true = absorbed_alone w k (w.conns k).up
crashed_alone w k false = off_alone w.conns

stays_alone : (z : Settings) (w : World) (a : ℕ → ℕ) (e : Event) → Connections w.client w.conns a → Dialogs z.who w.client w.conns
    → AreAlone w.conns → AreAlone (happens w e).conns
stays_alone z w a (Submit g op) c d i = i
stays_alone z w a (Open k) c d i =
    either (λ (v : World). AreAlone v.conns) (may_open w k) _ _
    (λ m. opened_alone w.client w.conns k ((step w.server w.moment (Accept k)).reply.status == success) i) (λ _. i)
stays_alone z w a (Push k slotless pick) c d i = either (λ (v : World). AreAlone v.conns) (w.client.ready k) _ _
    (λ _. pushes w k slotless pick
    (λ r. (let all = c.ready k r in none_counted (w.conns k).up
    (zero_left (count_up 0 (w.conns k).up) (count_down 0 (w.conns k).down) all.2))) i)
    (λ _. i)
stays_alone z w a (Serve k) c d i = either (λ (v : World). AreAlone v.conns) (may_serve w k) (later (serve_front w k (w.conns k).up) 1) w
    (λ _. serves w k i (w.conns k).up refl) (λ _. i)
stays_alone z w a (Take k) c d i = either (λ (v : World). AreAlone v.conns) ((w.conns k).client_open && is_filled (w.conns k).down) _ _
    (λ can. takes w k i (w.conns k).down
    (replies_alone z w d (λ q r. (let all = c.ready q r in all.2)) k (front_of (w.conns k).client_open (is_filled (w.conns k).down) can)))
    (λ _. i)
stays_alone z w a (Cut k) c d i = either (λ (v : World). AreAlone v.conns) (w.conns k).client_open _ _ (λ _. cut_alone w k i) (λ _. i)
stays_alone z w a (Drop k) c d i = either (λ (v : World). AreAlone v.conns) (w.conns k).server_open _ _
    (λ _. put_alone w.conns k (server_off (w.conns k)) (NoneWaits refl) i) (λ _. i)
stays_alone z w a Restart c d i = off_alone w.conns
stays_alone z w a (Crash k kept) c d i =
    either (λ (v : World). AreAlone v.conns) (may_serve w k) _ _ (λ _. crashed_alone w k kept) (λ _. i)
stays_alone z w a (Wait n) c d i = i
stays_alone z w a (Finish refusal) c d i = either (λ (v : World). AreAlone v.conns) (not w.client.live) _ _ (λ _. i) (λ _. i)

-- ---- on every run

alone_always : (z : Settings) (es : List Event) → AreAlone (run es (start z)).conns
alone_always z es =
    on_every_run (λ w a. AreAlone w.conns) z (λ k. NoneWaits refl)
    (λ xs e h. stays_alone z (run xs (start z)) _ e (connections z xs) (dialogs z xs) h) es

first_not : (x : Sent) (xs : List Sent) → x.token ≡ ForDialog → NoDialogs (x ∷ xs) → ⊥
first_not x xs t a = a.0 t

one_alone : (us : List Sent) (x : Sent) (xs : List Sent) → us ≡ x ∷ xs → x.token ≡ ForDialog → IsOneOr us → xs ≡ []
one_alone us x xs e t (NoneWaits n) = absurd (let h : [] ≡ x ∷ xs = sym n ∙ e in cc)
one_alone us x xs e t (One y n) = rest_empty x y xs (sym e ∙ n)
one_alone us x xs e t (Operations all) = absurd (first_not x xs t (subst NoDialogs e all))

pub dialogs_are_alone : DialogsAreAlone
dialogs_are_alone z es k x xs e t = one_alone ((run es (start z)).conns k).up x xs e t (alone_always z es k)
