-- Each message that waits is without a fault, and its command carries no status that doesn't fit 4 bytes.
use Rattle.std.proofs.Common.{◌≡◌, ℕ, ◌==◌, Bool, true, false, not, ◌&&◌, if◌then◌else◌, List, [], ◌∷◌, ◌++◌, ◌⊎◌, inl, inr, refl}
use Rattle.std.proofs.Common.{arith, sym, subst, ◌∙◌, Option, Some, None, slice_get}
use Rattle.spec_exchange.specs.Table.{put}
use Rattle.spec_exchange.specs.Status.{success}
use Rattle.spec_exchange.specs.State.{Reply, Message, Accept}
use Rattle.spec_exchange.specs.Step.{step}
use Rattle.spec_exchange.specs.Operations.{Op, OpCreate, OpWrite, OpRead, OpEnd, OpTime, OpRename, OpRemove, OpLock}
use Rattle.spec_exchange.specs.Operations.{OpUnlock, OpFlush, OpStat, OpList, OpClose, request_of, reconnect_of}
use Rattle.spec_exchange.specs.Client.{Client, Stage, Apart, SaidNegotiate, SaidFirst, SaidSecond, AskedTree}
use Rattle.spec_exchange.specs.Client.{create_for, guid_for, may_push, goes_itself, has_its_slot, settle_no_slots}
use Rattle.spec_exchange.specs.Client.{begun, outstanding, asked, own_message, ask_message, ends_at_cut}
use Rattle.spec_exchange.specs.Settling.{Heard as Hearing, Settles, GoesAgain, Attaches, EndsSession, heard, is_awaited}
use Rattle.spec_exchange.specs.Dialogs.{DialogStep, GoesOn, Accepts, Binds}
use Rattle.spec_exchange.specs.Dialogs.{Readies, Refuses, dialog_step, dialog_message, stage_command}
use Rattle.spec_exchange.specs.Dialogs.{went_on, accepted}
use Rattle.spec_exchange.specs.ClientStep.{Pick, Act, Nothing, CloseChannels, pick_after, pick_act, act_heard, some_unsettled, IsReady}
use Rattle.spec_exchange.specs.Network.{World, Event, Submit, Open, Push, Serve, Take, Cut, Drop, Restart, Crash, Wait}
use Rattle.spec_exchange.specs.Network.{Finish, Conn, Sent, Received, Token, ForDialog, ForOp, ForAttach, happens, Settings, start, run}
use Rattle.spec_exchange.specs.Network.{changed, later, may_open, may_serve, may_take_reply, fresh, server_off}
use Rattle.spec_exchange.specs.Network.{client_off, send_up, say_down, behind_front, take_front, pushed_by, answer}
use Rattle.spec_exchange.specs.Network.{serve_front, absorb_front, take_reply, took_by, dialog_took, op_took, closed_by}
use Rattle.spec_exchange.specs.Network.{cut_by, behind_reply, restarted, dialog_ended}
use Rattle.law_sessions.proofs.messages.Lists.{get-push, waited}
use Rattle.law_sessions.proofs.messages.Reached.{on_every_run}
use Rattle.law_sessions.proofs.messages.Run.{both_ways, ended_well}
use Rattle.law_server.proofs.tables.Logic.{either}
use Rattle.law_sessions.proofs.sessions.Waiting.{AllUp, lost_up}
use Rattle.law_answers.proofs.statuses.Checks.{Carries}

-- a message without a fault, whose command carries no other status
pub record IsPlain (x : Sent) : Type 0 where
  pub command : Carries x.message.command
  pub fault : x.message.fault ≡ None

own_carries : (op : Op) (guid file slot number : ℕ) → Carries (request_of op guid file slot number)
own_carries (OpCreate path access share disposition persist directory) guid file slot number = tt
own_carries (OpWrite create at bytes) guid file slot number = tt
own_carries (OpRead create at size) guid file slot number = tt
own_carries (OpEnd create size) guid file slot number = tt
own_carries (OpTime create time) guid file slot number = tt
own_carries (OpRename create path) guid file slot number = tt
own_carries (OpRemove create) guid file slot number = tt
own_carries (OpLock create at n exclusive) guid file slot number = tt
own_carries (OpUnlock create at n) guid file slot number = tt
own_carries (OpFlush create) guid file slot number = tt
own_carries (OpStat create) guid file slot number = tt
own_carries (OpList create) guid file slot number = tt
own_carries (OpClose create) guid file slot number = tt

ask_carries : (op : Op) (guid file : ℕ) → Carries (reconnect_of op guid file)
ask_carries (OpCreate path access share disposition persist directory) guid file = tt
ask_carries (OpWrite create at bytes) guid file = refl
ask_carries (OpRead create at size) guid file = refl
ask_carries (OpEnd create size) guid file = refl
ask_carries (OpTime create time) guid file = refl
ask_carries (OpRename create path) guid file = refl
ask_carries (OpRemove create) guid file = refl
ask_carries (OpLock create at n exclusive) guid file = refl
ask_carries (OpUnlock create at n) guid file = refl
ask_carries (OpFlush create) guid file = refl
ask_carries (OpStat create) guid file = refl
ask_carries (OpList create) guid file = refl
ask_carries (OpClose create) guid file = refl

-- what a dialog sends

stage_carries : (c : Client) (s : Stage) → Carries (stage_command c s)
stage_carries c Apart = refl
stage_carries c (SaidNegotiate bound) = refl
stage_carries c (SaidFirst bound) = tt
stage_carries c (SaidSecond bound) = tt
stage_carries c AskedTree = tt

stage_plain : (c : Client) (k id : ℕ) (s : Stage) → IsPlain (record { token = ForDialog; message = dialog_message c k id s })
stage_plain c k id s = record { command = stage_carries c s; fault = refl }

one_of : (xs : List Sent) (y : Sent) (n : ℕ) (x : Sent) → slice_get (xs ++ y ∷ []) n ≡ Some x
    → ((m : ℕ) → slice_get xs m ≡ Some x → IsPlain x) → IsPlain y → IsPlain x
one_of xs y n x h old new = by (get-push xs y n).1
  where
    same : (y x : Sent) → Some y ≡ Some x → y ≡ x
    same y x e = cc

    by : (slice_get (xs ++ y ∷ []) n ≡ slice_get xs n) ⊎ (slice_get (xs ++ y ∷ []) n ≡ Some y) → IsPlain x
    by (inl e) = old n (sym e ∙ h)
    by (inr e) = subst IsPlain (same y x (sym e ∙ h)) new

sent_up : (conns : ℕ → Conn) (k n0 : ℕ) (t : Token) (m : Message) → IsPlain (record { token = t; message = m })
    → AllUp IsPlain conns → AllUp IsPlain (put conns k (send_up (conns k) t m n0))
sent_up conns k n0 t m new i j n x h =
    elim (j == k) as (λ b. slice_get (if b then send_up (conns k) t m n0 else conns j).up n ≡ Some x → IsPlain x) [
      | true ↦ λ g. one_of (conns k).up (record { token = t; message = m }) n x g (λ p. i k p x) new
      | false ↦ λ g. i j n x g
    ] h

opened_up : (c : Client) (conns : ℕ → Conn) (k : ℕ) (served : Bool) → AllUp IsPlain conns → AllUp IsPlain (put conns k (fresh c k served))
opened_up c conns k served i j n x h =
    elim (j == k) as (λ b. slice_get (if b then fresh c k served else conns j).up n ≡ Some x → IsPlain x)
    [ true ↦ λ g. by served n g | false ↦ λ g. i j n x g ] h
  where
    by : (b : Bool) (n : ℕ) → slice_get (if b then record {
      token = ForDialog;
      message = dialog_message c k 0 (SaidNegotiate c.live);
    } ∷ [] else []) n ≡ Some x → IsPlain x
    by true n g = one_of [] (record { token = ForDialog; message = dialog_message c k 0 (SaidNegotiate c.live) }) n x g
        (λ m e. absurd (grind arith)) (stage_plain c k 0 (SaidNegotiate c.live))
    by false n g = absurd (grind arith)

sends_op : (w : World) (k g s : ℕ) (c : Client) → AllUp IsPlain w.conns
    → AllUp IsPlain (pushed_by w k (pick_after c k (Some (record { op = g; slot = s })))
    (pick_act c k (Some (record { op = g; slot = s })))).conns
sends_op w k g s c i =
    let Q : Client → Act → Type 0 = λ d x. AllUp IsPlain (pushed_by w k d x).conns in
    both_ways Q (may_push c k g) _ _ _ _
    (λ _. both_ways Q (goes_itself c g) _ _ _ _
    (λ _. both_ways Q (has_its_slot c g s) _ _ _ _
    (λ _. let d = outstanding (begun c g s) k g in sent_up w.conns k _ (ForOp g) (own_message d k (w.conns k).next_id g)
    (record {
      command = own_carries (d.op g) (guid_for d g) (d.file (create_for d g)) (d.slot_of g) (d.number_of g);
      fault = refl;
    }) i) (λ _. i))
    (λ _. let d = asked c k g in sent_up w.conns k _ (ForAttach g) (ask_message d k (w.conns k).next_id g)
    (record {
      command = ask_carries (d.op (create_for d g)) (guid_for d (create_for d g)) (d.file (create_for d g));
      fault = refl;
    }) i))
    (λ _. i)

picks : (w : World) (k : ℕ) (c : Client) (pick : Option Pick) → AllUp IsPlain w.conns
    → AllUp IsPlain (pushed_by w k (pick_after c k pick) (pick_act c k pick)).conns
picks w k c None i = either (λ x. AllUp IsPlain (pushed_by w k c x).conns) (some_unsettled c c.taken) _ _ (λ _. i) (λ _. i)
picks w k c (Some p) i = sends_op w k p.op p.slot c i

pushes : (w : World) (k : ℕ) (slotless : List ℕ) (pick : Option Pick) → AllUp IsPlain w.conns
    → AllUp IsPlain (changed w (Push k slotless pick)).conns
pushes w k slotless pick i =
    both_ways (λ d x. AllUp IsPlain (pushed_by w k d x).conns) (w.client.ready k) _ _ _ _
    (λ _. picks w k (settle_no_slots w.client k slotless) pick i)
    (λ off. either (λ x. AllUp IsPlain (pushed_by w k w.client x).conns) (some_unsettled w.client w.client.taken) _ _ (λ _. i) (λ _. i))

say_same : (c : Conn) (y : Received) → (say_down c y).up ≡ c.up
say_same c y = either (λ d. d.up ≡ c.up) c.client_open (record c { down = c.down ++ y ∷ [] }) c (λ _. refl) (λ _. refl)

behind_up : (conns : ℕ → Conn) (k : ℕ) (x0 : Sent) (rest : List Sent) → (conns k).up ≡ x0 ∷ rest → AllUp IsPlain conns
    → AllUp IsPlain (put conns k (behind_front (conns k) rest))
behind_up conns k x0 rest is i j n x h = let o = waited conns k x0 rest j n x is h in i j o.0 x o.1

all_lost : (conns : ℕ → Conn) → AllUp IsPlain (λ q. server_off (conns q))
all_lost conns j n x h = absurd (grind arith)

serves : (w : World) (k : ℕ) → AllUp IsPlain w.conns → (xs : List Sent) → (w.conns k).up ≡ xs → AllUp IsPlain (serve_front w k xs).conns
serves w k i [] is = i
serves w k i (x ∷ rest) is =
    let g = put w.conns k (behind_front (w.conns k) rest) in
    lost_up IsPlain g k (say_down (g k) (record { token = x.token; reply = (answer w x).reply; place = w.log.places }))
    (inl (say_same (g k) _)) (behind_up w.conns k x rest is i)

hears : (w : World) (k g : ℕ) (asking : Bool) (r : Reply) (place : ℕ) → AllUp IsPlain w.conns
    → AllUp IsPlain (op_took w k g asking r place).conns
hears w k g asking r place i = either (λ (x : Act). AllUp IsPlain (closed_by w k x).conns)
    (is_awaited w.client k g asking) (act_heard (heard w.client g asking r)) Nothing
    (λ _. by (heard w.client g asking r)) (λ _. i)
  where
    by : (h : Hearing) → AllUp IsPlain (closed_by w k (act_heard h)).conns
    by (Settles o) = i
    by GoesAgain = i
    by Attaches = i
    by EndsSession = i

ended_up : (w : World) (k session tree : ℕ) → AllUp IsPlain w.conns → AllUp IsPlain (dialog_ended w k (IsReady k session tree)).conns
ended_up w k session tree i = ended_well (λ v. AllUp IsPlain v.conns) w k session tree (λ _. i) (λ _ _. i)
    (lost_up IsPlain w.conns k (client_off (w.conns k)) (inl refl) i)

dialogs : (w : World) (k : ℕ) (r : Reply) → AllUp IsPlain w.conns → (d : DialogStep) → AllUp IsPlain (dialog_took w k r d).conns
dialogs w k r i (GoesOn s) =
    sent_up w.conns k 1 ForDialog _ (stage_plain (went_on w.client k s r) k (w.conns k).next_id s) i
dialogs w k r i Accepts =
    sent_up w.conns k 1 ForDialog _ (stage_plain (accepted w.client k) k (w.conns k).next_id AskedTree) i
dialogs w k r i Binds = ended_up w k w.client.session w.client.tree i
dialogs w k r i Readies = ended_up w k w.client.pending r.tree_id i
dialogs w k r i (Refuses status) = lost_up IsPlain w.conns k (client_off (w.conns k)) (inl refl) i

takes : (w : World) (k : ℕ) → AllUp IsPlain w.conns → (ys : List Received) → AllUp IsPlain (take_reply w k ys).conns
takes w k i [] = i
takes w k i (y ∷ rest) = by y.token
  where
    j : AllUp IsPlain (put w.conns k (take_front (w.conns k) rest))
    j = lost_up IsPlain w.conns k (take_front (w.conns k) rest) (inl refl) i

    by : (t : Token) → AllUp IsPlain (took_by (behind_reply w k rest) k y.reply y.place t).conns
    by ForDialog = dialogs (behind_reply w k rest) k y.reply j (dialog_step (w.client.stage k) y.reply.status)
    by (ForOp g) = hears (behind_reply w k rest) k g false y.reply y.place j
    by (ForAttach g) = hears (behind_reply w k rest) k g true y.reply y.place j

cuts : (w : World) (k : ℕ) → AllUp IsPlain w.conns → AllUp IsPlain (changed w (Cut k)).conns
cuts w k i =
    either (λ (v : World). AllUp IsPlain v.conns) (w.client.ready k) _ _
    (λ _. either (λ (x : Act). AllUp IsPlain (cut_by w k x).conns) (w.client.ready k && ends_at_cut w.client)
    CloseChannels Nothing (λ _. i) (λ _. lost_up IsPlain w.conns k (client_off (w.conns k)) (inl refl) i))
    (λ _. lost_up IsPlain w.conns k (client_off (w.conns k)) (inl refl) i)

absorbs_lost : (w : World) (k : ℕ) (xs : List Sent) → AllUp IsPlain (restarted (absorb_front w k xs)).conns
absorbs_lost w k [] = all_lost w.conns
absorbs_lost w k (x ∷ rest) = all_lost (put w.conns k (behind_front (w.conns k) rest))

crashes : (w : World) (k : ℕ) (kept : Bool) → AllUp IsPlain (changed w (Crash k kept)).conns
crashes w k true = absorbs_lost w k (w.conns k).up
crashes w k false = all_lost w.conns

pub plain_on : (w : World) (e : Event) → AllUp IsPlain w.conns → AllUp IsPlain (happens w e).conns
plain_on w (Submit g op) i = i
plain_on w (Open k) i = either (λ (v : World). AllUp IsPlain v.conns) (may_open w k) _ _
    (λ _. opened_up w.client w.conns k ((step w.server w.moment (Accept k)).reply.status == success) i) (λ _. i)
plain_on w (Push k slotless pick) i = either (λ (v : World). AllUp IsPlain v.conns) (w.client.ready k) _ _
    (λ _. pushes w k slotless pick i) (λ _. i)
plain_on w (Serve k) i = either (λ (v : World). AllUp IsPlain v.conns) (may_serve w k)
    (later (serve_front w k (w.conns k).up) 1) w (λ _. serves w k i (w.conns k).up refl) (λ _. i)
plain_on w (Take k) i = either (λ (v : World). AllUp IsPlain v.conns) (may_take_reply w k) _ _ (λ _. takes w k i (w.conns k).down) (λ _. i)
plain_on w (Cut k) i = either (λ (v : World). AllUp IsPlain v.conns) (w.conns k).client_open _ _ (λ _. cuts w k i) (λ _. i)
plain_on w (Drop k) i = either (λ (v : World). AllUp IsPlain v.conns) (w.conns k).server_open _ _
    (λ _. lost_up IsPlain w.conns k (server_off (w.conns k)) (inr refl) i) (λ _. i)
plain_on w Restart i = all_lost w.conns
plain_on w (Crash k kept) i = either (λ (v : World). AllUp IsPlain v.conns) (may_serve w k) _ _ (λ _. crashes w k kept) (λ _. i)
plain_on w (Wait n) i = i
plain_on w (Finish refusal) i = either (λ (v : World). AllUp IsPlain v.conns) (not w.client.live) _ _ (λ _. i) (λ _. i)

-- ---- on every run

none_first : (z : Settings) → AllUp IsPlain (start z).conns
none_first z k n x h = absurd (let q : None ≡ Some x = h in cc)

pub plain_up : (z : Settings) (es : List Event) → AllUp IsPlain (run es (start z)).conns
plain_up z es =
    on_every_run (λ w a. AllUp IsPlain w.conns) z (none_first z) (λ xs e h. plain_on (run xs (start z)) e h) es
