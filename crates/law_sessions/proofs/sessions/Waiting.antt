-- What holds of each message that waits holds of each behind an event too, where it holds of the new ones.
use Rattle.std.proofs.Common.{◌≡◌, ℕ, ◌==◌, Bool, true, false, not, ◌&&◌, if◌then◌else◌, List, [], ◌∷◌, ◌++◌, ◌⊎◌, inl}
use Rattle.std.proofs.Common.{inr, refl, arith, sym, subst, ◌∙◌, Option, Some, None, slice_get}
use Rattle.spec_exchange.specs.Table.{put, is_filled}
use Rattle.spec_exchange.specs.Status.{success}
use Rattle.spec_exchange.specs.State.{Reply, Accept, Message}
use Rattle.spec_exchange.specs.Step.{step}
use Rattle.spec_exchange.specs.Client.{Client, Stage, SaidNegotiate, AskedTree, create_for, guid_for, may_push}
use Rattle.spec_exchange.specs.Client.{has_its_slot, goes_itself, settle_no_slots, begun, outstanding, asked}
use Rattle.spec_exchange.specs.Client.{own_message, ask_message, ends_at_cut}
use Rattle.spec_exchange.specs.Settling.{Heard as Hearing, Settles, GoesAgain, Attaches, EndsSession, heard, is_awaited}
use Rattle.spec_exchange.specs.Dialogs.{DialogStep, GoesOn, Accepts, Binds, Readies, Refuses, dialog_step}
use Rattle.spec_exchange.specs.Dialogs.{dialog_message, went_on, accepted}
use Rattle.spec_exchange.specs.ClientStep.{Pick, Act, Nothing, CloseChannels, pick_after, pick_act, act_heard, some_unsettled, IsReady}
use Rattle.spec_exchange.specs.Network.{World, Event, Submit, Open, Push, Serve, Take, Cut, Drop, Restart, Crash, Wait}
use Rattle.spec_exchange.specs.Network.{Finish, Conn, Sent, Received, Token, ForDialog, ForOp, ForAttach, happens}
use Rattle.spec_exchange.specs.Network.{changed, later, may_open, may_serve, fresh, server_off, client_off, send_up}
use Rattle.spec_exchange.specs.Network.{say_down, behind_front, take_front, pushed_by, answer, serve_front}
use Rattle.spec_exchange.specs.Network.{absorb_front, take_reply, took_by, dialog_took, op_took, closed_by, cut_by}
use Rattle.spec_exchange.specs.Network.{behind_reply, restarted, dialog_ended}
use Rattle.law_sessions.proofs.messages.Lists.{get-push, waited}
use Rattle.law_sessions.proofs.messages.Run.{both_ways, ended_well}
use Rattle.law_server.proofs.tables.Logic.{either}
use Rattle.law_sessions.specs.sessions.Sessions.{is_work}
use Rattle.law_sessions.proofs.sessions.Run.{own_work, ask_work}

abbrev pub AllUp : (Sent → Type 0) → (ℕ → Conn) → Type 0
AllUp P conns = (k n : ℕ) (x : Sent) → slice_get (conns k).up n ≡ Some x → P x

-- what an event may send
pub record News (P : Sent → Type 0) (w : World) : Type 0 where
  pub work : (t : Token) (m : Message) → is_work m.command ≡ true → P (record { token = t; message = m })
  pub first : (k id : ℕ) (b : Bool) → P (record { token = ForDialog; message = dialog_message w.client k id (SaidNegotiate b) })
  pub next : (k id : ℕ) (r : Reply) (s : Stage) → dialog_step (w.client.stage k) r.status ≡ GoesOn s → P (record {
    token = ForDialog;
    message = dialog_message (went_on w.client k s r) k id s;
  })
  pub tree : (k id : ℕ) → P (record { token = ForDialog; message = dialog_message (accepted w.client k) k id AskedTree })

-- ---- by the change of the connections

one_of : {X : Type 0} (P : X → Type 0) (xs : List X) (y : X) (n : ℕ) (x : X) → slice_get (xs ++ y ∷ []) n ≡ Some x
    → ((m : ℕ) → slice_get xs m ≡ Some x → P x) → P y → P x
one_of {X} P xs y n x h old new = by (get-push xs y n).1
  where
    same : (y x : X) → Some y ≡ Some x → y ≡ x
    same y x e = cc

    by : (slice_get (xs ++ y ∷ []) n ≡ slice_get xs n) ⊎ (slice_get (xs ++ y ∷ []) n ≡ Some y) → P x
    by (inl e) = old n (sym e ∙ h)
    by (inr e) = subst P (same y x (sym e ∙ h)) new

sent_up : (P : Sent → Type 0) (conns : ℕ → Conn) (k n0 : ℕ) (t : Token) (m : Message) → P (record {
  token = t;
  message = m;
}) → AllUp P conns → AllUp P (put conns k (send_up (conns k) t m n0))
sent_up P conns k n0 t m new i j n x h =
    elim (j == k) as (λ b. slice_get (if b then send_up (conns k) t m n0 else conns j).up n ≡ Some x → P x) [
      | true ↦ λ g. one_of P (conns k).up (record { token = t; message = m }) n x g (λ p. i k p x) new
      | false ↦ λ g. i j n x g
    ] h

-- a connection whose list is the same or empty
pub lost_up : (P : Sent → Type 0) (conns : ℕ → Conn) (k : ℕ) (d : Conn) → (d.up ≡ (conns k).up) ⊎ (d.up ≡ [])
    → AllUp P conns → AllUp P (put conns k d)
lost_up P conns k d same i j n x h =
    elim (j == k) as (λ b. slice_get (if b then d else conns j).up n ≡ Some x → P x) [
      | true ↦ λ g. by same g
      | false ↦ λ g. i j n x g
    ] h
  where
    by : (d.up ≡ (conns k).up) ⊎ (d.up ≡ []) → slice_get d.up n ≡ Some x → P x
    by (inl e) g = i k n x (subst (λ xs. slice_get xs n ≡ Some x) e g)
    by (inr e) g = absurd (grind arith)

behind_up : (P : Sent → Type 0) (conns : ℕ → Conn) (k : ℕ) (x0 : Sent) (rest : List Sent) → (conns k).up ≡ x0 ∷ rest
    → AllUp P conns → AllUp P (put conns k (behind_front (conns k) rest))
behind_up P conns k x0 rest is i j n x h = let o = waited conns k x0 rest j n x is h in i j o.0 x o.1

all_lost : (P : Sent → Type 0) (conns : ℕ → Conn) → AllUp P (λ q. server_off (conns q))
all_lost P conns j n x h = absurd (grind arith)

-- ---- by event

opened_up : (P : Sent → Type 0) (c : Client) (conns : ℕ → Conn) (k : ℕ) (served : Bool) → P (record {
  token = ForDialog;
  message = dialog_message c k 0 (SaidNegotiate c.live);
}) → AllUp P conns → AllUp P (put conns k (fresh c k served))
opened_up P c conns k served new i j n x h =
    elim (j == k) as (λ b. slice_get (if b then fresh c k served else conns j).up n ≡ Some x → P x) [
      | true ↦ λ g. by served n g
      | false ↦ λ g. i j n x g
    ] h
  where
    by : (b : Bool) (n : ℕ) → slice_get (if b then record {
      token = ForDialog;
      message = dialog_message c k 0 (SaidNegotiate c.live);
    } ∷ [] else []) n ≡ Some x → P x
    by true n g = one_of P [] (record { token = ForDialog; message = dialog_message c k 0 (SaidNegotiate c.live) }) n x
        g (λ m e. absurd (grind arith)) new
    by false n g = absurd (grind arith)

sends_op : (P : Sent → Type 0) (w : World) (k g s : ℕ) (c : Client) → News P w → AllUp P w.conns
    → AllUp P (pushed_by w k (pick_after c k (Some (record { op = g; slot = s })))
    (pick_act c k (Some (record { op = g; slot = s })))).conns
sends_op P w k g s c new i =
    let Q : Client → Act → Type 0 = λ d x. AllUp P (pushed_by w k d x).conns in
    both_ways Q (may_push c k g) _ _ _ _
    (λ _. both_ways Q (goes_itself c g) _ _ _ _
    (λ _. both_ways Q (has_its_slot c g s) _ _ _ _
    (λ _. let d = outstanding (begun c g s) k g in
    sent_up P w.conns k _ (ForOp g) (own_message d k (w.conns k).next_id g)
    (new.work (ForOp g) _ (own_work (d.op g) (guid_for d g) (d.file (create_for d g)) (d.slot_of g)
    (d.number_of g)).0) i) (λ _. i))
    (λ _. let d = asked c k g in
    sent_up P w.conns k _ (ForAttach g) (ask_message d k (w.conns k).next_id g)
    (new.work (ForAttach g) _ (ask_work (d.op (create_for d g)) (guid_for d (create_for d g))
    (d.file (create_for d g))).0) i))
    (λ _. i)

picks : (P : Sent → Type 0) (w : World) (k : ℕ) (c : Client) (pick : Option Pick) → News P w → AllUp P w.conns
    → AllUp P (pushed_by w k (pick_after c k pick) (pick_act c k pick)).conns
picks P w k c None new i = either (λ x. AllUp P (pushed_by w k c x).conns) (some_unsettled c c.taken) _ _ (λ _. i) (λ _. i)
picks P w k c (Some p) new i = sends_op P w k p.op p.slot c new i

pushes : (P : Sent → Type 0) (w : World) (k : ℕ) (slotless : List ℕ) (pick : Option Pick) → News P w → AllUp P w.conns
    → AllUp P (changed w (Push k slotless pick)).conns
pushes P w k slotless pick new i =
    both_ways (λ d x. AllUp P (pushed_by w k d x).conns) (w.client.ready k) _ _ _ _
    (λ _. picks P w k (settle_no_slots w.client k slotless) pick new i)
    (λ off. either (λ x. AllUp P (pushed_by w k w.client x).conns) (some_unsettled w.client w.client.taken) _ _ (λ _. i) (λ _. i))

say_same : (c : Conn) (y : Received) → (say_down c y).up ≡ c.up
say_same c y = either (λ d. d.up ≡ c.up) c.client_open (record c { down = c.down ++ y ∷ [] }) c (λ _. refl) (λ _. refl)

serves : (P : Sent → Type 0) (w : World) (k : ℕ) → AllUp P w.conns → (xs : List Sent) → (w.conns k).up ≡ xs
    → AllUp P (serve_front w k xs).conns
serves P w k i [] is = i
serves P w k i (x ∷ rest) is =
    let g = put w.conns k (behind_front (w.conns k) rest) in lost_up P g k (say_down (g k) (record {
      token = x.token;
      reply = (answer w x).reply;
      place = w.log.places;
    })) (inl (say_same (g k) _))
    (behind_up P w.conns k x rest is i)

hears : (P : Sent → Type 0) (w : World) (k g : ℕ) (asking : Bool) (r : Reply) (place : ℕ) → AllUp P w.conns
    → AllUp P (op_took w k g asking r place).conns
hears P w k g asking r place i =
    either (λ (x : Act). AllUp P (closed_by w k x).conns) (is_awaited w.client k g asking)
    (act_heard (heard w.client g asking r)) Nothing (λ _. by (heard w.client g asking r)) (λ _. i)
  where
    by : (h : Hearing) → AllUp P (closed_by w k (act_heard h)).conns
    by (Settles o) = i
    by GoesAgain = i
    by Attaches = i
    by EndsSession = i

ended_up : (P : Sent → Type 0) (w : World) (k session tree : ℕ) → AllUp P w.conns
    → AllUp P (dialog_ended w k (IsReady k session tree)).conns
ended_up P w k session tree i = ended_well (λ v. AllUp P v.conns) w k session tree (λ _. i) (λ _ _. i)
    (lost_up P w.conns k (client_off (w.conns k)) (inl refl) i)

dialogs : (P : Sent → Type 0) (w : World) (k : ℕ) (r : Reply) → News P w → AllUp P w.conns → (d : DialogStep)
    → dialog_step (w.client.stage k) r.status ≡ d → AllUp P (dialog_took w k r d).conns
dialogs P w k r new i (GoesOn s) e = sent_up P w.conns k 1 ForDialog _ (new.next k (w.conns k).next_id r s e) i
dialogs P w k r new i Accepts e = sent_up P w.conns k 1 ForDialog _ (new.tree k (w.conns k).next_id) i
dialogs P w k r new i Binds e = ended_up P w k w.client.session w.client.tree i
dialogs P w k r new i Readies e = ended_up P w k w.client.pending r.tree_id i
dialogs P w k r new i (Refuses status) e = lost_up P w.conns k (client_off (w.conns k)) (inl refl) i

news_behind : (P : Sent → Type 0) (w : World) (k : ℕ) (rest : List Received) → News P w → News P (behind_reply w k rest)
news_behind P w k rest n = record { work = n.work; first = n.first; next = n.next; tree = n.tree }

takes : (P : Sent → Type 0) (w : World) (k : ℕ) → News P w → AllUp P w.conns → (ys : List Received) → AllUp P (take_reply w k ys).conns
takes P w k new i [] = i
takes P w k new i (y ∷ rest) = by y.token
  where
    j : AllUp P (put w.conns k (take_front (w.conns k) rest))
    j = lost_up P w.conns k (take_front (w.conns k) rest) (inl refl) i

    by : (t : Token) → AllUp P (took_by (behind_reply w k rest) k y.reply y.place t).conns
    by ForDialog = dialogs P (behind_reply w k rest) k y.reply (news_behind P w k rest new) j
        (dialog_step (w.client.stage k) y.reply.status) refl
    by (ForOp g) = hears P (behind_reply w k rest) k g false y.reply y.place j
    by (ForAttach g) = hears P (behind_reply w k rest) k g true y.reply y.place j

cut_off_up : (P : Sent → Type 0) (w : World) (k : ℕ) → AllUp P w.conns → AllUp P (changed w (Cut k)).conns
cut_off_up P w k i =
    either (λ (v : World). AllUp P v.conns) (w.client.ready k) _ _
    (λ _. either (λ (x : Act). AllUp P (cut_by w k x).conns) (w.client.ready k && ends_at_cut w.client)
    CloseChannels Nothing (λ _. i) (λ _. lost_up P w.conns k (client_off (w.conns k)) (inl refl) i))
    (λ _. lost_up P w.conns k (client_off (w.conns k)) (inl refl) i)

absorbs_lost : (P : Sent → Type 0) (w : World) (k : ℕ) (xs : List Sent) → AllUp P (restarted (absorb_front w k xs)).conns
absorbs_lost P w k [] = all_lost P w.conns
absorbs_lost P w k (x ∷ rest) = all_lost P (put w.conns k (behind_front (w.conns k) rest))

crashes : (P : Sent → Type 0) (w : World) (k : ℕ) (kept : Bool) → AllUp P (changed w (Crash k kept)).conns
crashes P w k true = absorbs_lost P w k (w.conns k).up
crashes P w k false = all_lost P w.conns

pub still_all_up : (P : Sent → Type 0) (w : World) (e : Event) → News P w → AllUp P w.conns → AllUp P (happens w e).conns
still_all_up P w (Submit g op) new i = i
still_all_up P w (Open k) new i =
    either (λ (v : World). AllUp P v.conns) (may_open w k) _ _
    (λ m. opened_up P w.client w.conns k ((step w.server w.moment (Accept k)).reply.status == success)
    (new.first k 0 w.client.live) i) (λ _. i)
still_all_up P w (Push k slotless pick) new i = either (λ (v : World). AllUp P v.conns) (w.client.ready k) _ _
    (λ _. pushes P w k slotless pick new i) (λ _. i)
still_all_up P w (Serve k) new i = either (λ (v : World). AllUp P v.conns) (may_serve w k)
    (later (serve_front w k (w.conns k).up) 1) w (λ _. serves P w k i (w.conns k).up refl) (λ _. i)
still_all_up P w (Take k) new i = either (λ (v : World). AllUp P v.conns) ((w.conns k).client_open
    && is_filled (w.conns k).down) _ _ (λ _. takes P w k new i (w.conns k).down) (λ _. i)
still_all_up P w (Cut k) new i = either (λ (v : World). AllUp P v.conns) (w.conns k).client_open _ _ (λ _. cut_off_up P w k i) (λ _. i)
still_all_up P w (Drop k) new i = either (λ (v : World). AllUp P v.conns) (w.conns k).server_open _ _
    (λ _. lost_up P w.conns k (server_off (w.conns k)) (inr refl) i) (λ _. i)
still_all_up P w Restart new i = all_lost P w.conns
still_all_up P w (Crash k kept) new i = either (λ (v : World). AllUp P v.conns) (may_serve w k) _ _ (λ _. crashes P w k kept) (λ _. i)
still_all_up P w (Wait n) new i = i
still_all_up P w (Finish refusal) new i = either (λ (v : World). AllUp P v.conns) (not w.client.live) _ _ (λ _. i) (λ _. i)
