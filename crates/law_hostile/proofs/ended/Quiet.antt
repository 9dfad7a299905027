-- The client's end puts nothing down: behind an event of a repeat run that isn't a Give of a request no reply waits.
use Rattle.std.proofs.Common.{◌≡◌, ℕ, ◌==◌, Bool, true, false, if◌then◌else◌, List, [], ◌∷◌, refl, ap, ◌∙◌, Option, Some, None}
use Rattle.law_server.proofs.tables.Logic.{either}
use Rattle.law_nonces.proofs.negotiation.Tables.{by_key}
use Rattle.law_records.proofs.recovery.Lists.{put_here}
use Rattle.spec_exchange.specs.Table.{put}
use Rattle.spec_exchange.specs.Operations.{Refusal, HadStatus, BadToken}
use Rattle.spec_exchange.specs.Client.{Client, Stage, Apart, SaidNegotiate, SaidFirst, SaidSecond, AskedTree}
use Rattle.spec_exchange.specs.ClientStep.{Act, Nothing, Sends, Asks, CloseChannel, CloseChannels, AllSettled, IsCut, IsReady, IsRefused}
use Rattle.spec_exchange.specs.ClientStep.{Hears, Pushes, act, client_after}
use Rattle.spec_exchange.specs.Dialogs.{DialogStep, GoesOn, Accepts, Binds, Readies, Refuses, dialog_step, went_on}
use Rattle.spec_exchange.specs.Network.{Token, ForDialog, ForOp, ForAttach, Event, Submit, Open, Push, Serve, Take, Cut, Drop, Restart, Crash}
use Rattle.spec_exchange.specs.Network.{Wait, Finish, with_client, cut_off, is_possible, moments}
use Rattle.spec_commands.specs.ReplyOf.{reply_of}
use Rattle.spec_world.specs.Settings.{WorldSettings}
use Rattle.spec_world.specs.Messages.{HeardMessage}
use Rattle.spec_world.specs.Dialog.{line_response, dialog_response, status_due, dialog_fault, noted_heard, paid_in}
use Rattle.spec_world.specs.World.{Wires, World, with_values, with_client_end, pushed_wires, closed_wires, off_by, one_off, cut_wires}
use Rattle.spec_world.specs.World.{op_heard, line_heard, line_hears, dialog_went, session_accepted, channel_bound, dialog_reply, dialog_wires}
use Rattle.spec_world.specs.World.{dialog_passed, dialog_hears, hears, take_frame, next_token, behind_frame, command_asked, paid}
use Rattle.spec_world.specs.Events.{Plain, bytes_happen, bytes_changed, bytes_later}
use Rattle.spec_hostile.specs.RepeatRuns.{RepeatWorld, DownFrame, uses_no_list, own_connection, loaded_down}
use Rattle.law_hostile.specs.empties.Empties.{HasEmptyLists}
use Rattle.law_hostile.proofs.finals.Recalling.{wires_loaded, conn_loaded}
use Rattle.law_hostile.proofs.loosely.Taking.{may_take_loaded}

abbrev pub Quiet : (ℕ → Wires) → (ℕ → Wires) → Type 0
Quiet f g = (j : ℕ) → (f j).down ≡ [] → (g j).down ≡ []

self_quiet : (f : ℕ → Wires) → Quiet f f
self_quiet f j e = e

pub then_quiet : (f g h : ℕ → Wires) → Quiet f g → Quiet g h → Quiet f h
then_quiet f g h p q j e = q j (p j e)

pub put_quiet : (f : ℕ → Wires) (k : ℕ) (u : Wires) → ((f k).down ≡ [] → u.down ≡ []) → Quiet f (put f k u)
put_quiet f k u h = by_key (λ j (v : Wires). (f j).down ≡ [] → v.down ≡ []) f k u h (λ j off e. e)

-- ---- the client closes ends

closed_quiet : (w : World) (k : ℕ) (a : Act) → Quiet w.wires (closed_wires w k a).wires
closed_quiet w k CloseChannels = λ j e. refl
closed_quiet w k CloseChannel = put_quiet w.wires k _ (λ e. refl)
closed_quiet w k Nothing = self_quiet w.wires
closed_quiet w k (Sends g) = self_quiet w.wires
closed_quiet w k (Asks g) = self_quiet w.wires
closed_quiet w k AllSettled = self_quiet w.wires

off_quiet : (w : World) (k : ℕ) (a : Act) → Quiet w.wires (off_by w k a).wires
off_quiet w k CloseChannels = λ j e. refl
off_quiet w k CloseChannel = put_quiet w.wires k _ (λ e. refl)
off_quiet w k Nothing = put_quiet w.wires k _ (λ e. refl)
off_quiet w k (Sends g) = put_quiet w.wires k _ (λ e. refl)
off_quiet w k (Asks g) = put_quiet w.wires k _ (λ e. refl)
off_quiet w k AllSettled = put_quiet w.wires k _ (λ e. refl)

cut_quiet : (w : World) (k : ℕ) → Quiet w.wires (cut_wires w k).wires
cut_quiet w k =
    either (λ (v : World). Quiet w.wires v.wires) (w.values.client.ready k)
    (with_values (off_by w k (act w.values.client (IsCut k))) (cut_off w.values k)) (with_values (one_off w k) (cut_off w.values k))
    (λ _. off_quiet w k (act w.values.client (IsCut k)))
    (λ _. put_quiet w.wires k _ (λ e. refl))

-- ---- Push

pushed_quiet : (w : World) (k : ℕ) (c : Client) (a : Act) → Quiet w.wires (pushed_wires w k c a).wires
pushed_quiet w k c (Sends g) = put_quiet w.wires k _ (λ e. e)
pushed_quiet w k c (Asks g) = put_quiet w.wires k _ (λ e. e)
pushed_quiet w k c Nothing = self_quiet w.wires
pushed_quiet w k c CloseChannel = self_quiet w.wires
pushed_quiet w k c CloseChannels = self_quiet w.wires
pushed_quiet w k c AllSettled = self_quiet w.wires

-- ---- Take, on a line

op_quiet : (w : World) (k g : ℕ) (asking : Bool) (x : HeardMessage) (place : ℕ) → Quiet w.wires (op_heard w k g asking x place).wires
op_quiet w k g asking x place =
    let v = with_client_end w k (paid_in (w.wires k).client_end x.header) in
    let a = act w.values.client (Hears k g asking (reply_of (command_asked w.values.client g asking) x.header x.bytes) place) in
    then_quiet w.wires v.wires (closed_wires v k a).wires (put_quiet w.wires k _ (λ e. e)) (closed_quiet v k a)

line_quiet : (w : World) (k : ℕ) (x : HeardMessage) (place : ℕ) (t : Option Token) → Quiet w.wires (line_heard w k x place t).wires
line_quiet w k x place (Some (ForOp g)) = op_quiet w k g false x place
line_quiet w k x place (Some (ForAttach g)) = op_quiet w k g true x place
line_quiet w k x place (Some ForDialog) = cut_quiet w k
line_quiet w k x place None = cut_quiet w k

lines_quiet : (w : World) (k place : ℕ) (o : Option HeardMessage) → Quiet w.wires (line_hears w k place o).wires
lines_quiet w k place None = cut_quiet w k
lines_quiet w k place (Some x) = line_quiet w k x place ((w.wires k).client_end.awaited x.header.message)

-- ---- Take, of a dialog

went_quiet : (w : World) (k : ℕ) (s : Stage) (token : List ℕ) → Quiet w.wires (dialog_went w k s token).wires
went_quiet w k (SaidFirst bound) token = put_quiet w.wires k _ (λ e. e)
went_quiet w k (SaidSecond bound) token = put_quiet w.wires k _ (λ e. e)
went_quiet w k Apart token = self_quiet w.wires
went_quiet w k (SaidNegotiate bound) token = self_quiet w.wires
went_quiet w k AskedTree token = self_quiet w.wires

dialog_quiet : (z : WorldSettings) (w : World) (k : ℕ) (stage : Stage) (x : HeardMessage) (d : DialogStep)
    → Quiet w.wires (dialog_wires z w k stage x d).wires
dialog_quiet z w k stage x (GoesOn next) =
    let n = (w.wires k).client_end in
    let c = went_on w.values.client k next (dialog_reply w stage x) in
    let v = with_client_end (with_values w (with_client w.values c)) k (noted_heard n stage x) in
    let token = next_token z n next x.bytes in
    then_quiet w.wires v.wires (dialog_went v k next token).wires (put_quiet w.wires k _ (λ e. e)) (went_quiet v k next token)
dialog_quiet z w k stage x Accepts =
    let v = session_accepted w k x in
    then_quiet w.wires v.wires (dialog_wires z w k stage x Accepts).wires (put_quiet w.wires k _ (λ e. e)) (put_quiet v.wires k _ (λ e. e))
dialog_quiet z w k stage x Binds =
    let v = channel_bound w k x in
    let a = act w.values.client (IsReady k w.values.client.session w.values.client.tree) in
    then_quiet w.wires v.wires (closed_wires v k a).wires (put_quiet w.wires k _ (λ e. e)) (closed_quiet v k a)
dialog_quiet z w k stage x Readies =
    let v = with_client_end w k (record (paid_in (w.wires k).client_end x.header) { stage = Apart }) in
    let a = act w.values.client (IsReady k w.values.client.pending (dialog_reply w stage x).tree_id) in
    then_quiet w.wires v.wires (closed_wires v k a).wires (put_quiet w.wires k _ (λ e. e)) (closed_quiet v k a)
dialog_quiet z w k stage x (Refuses status) = closed_quiet w k (act w.values.client (IsRefused k (HadStatus status)))

passed_quiet : (z : WorldSettings) (w : World) (k : ℕ) (stage : Stage) (x : HeardMessage) (o : Option Refusal)
    → Quiet w.wires (dialog_passed z w k stage x o).wires
passed_quiet z w k stage x (Some why) = closed_quiet w k (act w.values.client (IsRefused k why))
passed_quiet z w k stage x None = dialog_quiet z w k stage x (dialog_step stage x.header.status)

response_quiet : (z : WorldSettings) (w : World) (k : ℕ) (stage : Stage) (o : Option HeardMessage)
    → Quiet w.wires (dialog_hears z w k stage o).wires
response_quiet z w k stage None = closed_quiet w k (act w.values.client (IsRefused k BadToken))
response_quiet z w k stage (Some x) =
    passed_quiet z w k stage x (if x.header.status == status_due stage then dialog_fault z.client (w.wires k).client_end stage x else None)

heard_quiet : (z : WorldSettings) (w : World) (k : ℕ) (frame : List ℕ) (place : ℕ) (s : Stage)
    → Quiet w.wires (hears z w k frame place s).wires
heard_quiet z w k frame place Apart = lines_quiet w k place (line_response (w.wires k).client_end frame)
heard_quiet z w k frame place (SaidNegotiate bound) =
    response_quiet z w k (SaidNegotiate bound) (dialog_response (w.wires k).client_end (SaidNegotiate bound) frame)
heard_quiet z w k frame place (SaidFirst bound) =
    response_quiet z w k (SaidFirst bound) (dialog_response (w.wires k).client_end (SaidFirst bound) frame)
heard_quiet z w k frame place (SaidSecond bound) =
    response_quiet z w k (SaidSecond bound) (dialog_response (w.wires k).client_end (SaidSecond bound) frame)
heard_quiet z w k frame place AskedTree = response_quiet z w k AskedTree (dialog_response (w.wires k).client_end AskedTree frame)

-- ---- each event

changed_quiet : (z : WorldSettings) (w : World) (e : Event) → uses_no_list e ≡ true → Quiet w.wires (bytes_changed z w e).wires
changed_quiet z w (Submit g op) s = self_quiet w.wires
changed_quiet z w (Open k) s = put_quiet w.wires k _ (λ e. refl)
changed_quiet z w (Push k slotless pick) s =
    let p = Pushes k slotless (paid w k slotless pick) in
    pushed_quiet w k (client_after w.values.client p) (act w.values.client p)
changed_quiet z w (Serve k) s = absurd (let q : false ≡ true = s in cc)
changed_quiet z w (Take k) s = absurd (let q : false ≡ true = s in cc)
changed_quiet z w (Cut k) s = cut_quiet w k
changed_quiet z w (Drop k) s = put_quiet w.wires k _ (λ e. e)
changed_quiet z w Restart s = λ j e. e
changed_quiet z w (Crash k kept) s = absurd (let q : false ≡ true = s in cc)
changed_quiet z w (Wait n) s = absurd (let q : false ≡ true = s in cc)
changed_quiet z w (Finish refusal) s = absurd (let q : false ≡ true = s in cc)

pub same_quiet : (z : WorldSettings) (w : World) (e : Event) → uses_no_list e ≡ true → HasEmptyLists w
    → ((bytes_happen z w (Plain e)).wires (own_connection e)).down ≡ []
same_quiet z w e s empties =
    either (λ (v : World). Quiet w.wires v.wires) (is_possible w.values e) (bytes_later (bytes_changed z w e) (moments e)) w
    (λ _. changed_quiet z w e s) (λ _. self_quiet w.wires) (own_connection e) (empties.down (own_connection e))

pub down_quiet : (z : WorldSettings) (r : RepeatWorld) (k : ℕ) (d : DownFrame)
    → ((bytes_happen z (loaded_down r k d) (Plain (Take k))).wires k).down ≡ []
down_quiet z r k d =
    let l = loaded_down r k d in
    let b = behind_frame l k [] [] in
    let s = (l.wires k).client_end.stage in
    let none : (b.wires k).down ≡ [] = ap (λ (x : Wires). x.down) (put_here l.wires k _) in
    let took : ((take_frame z l k (l.wires k).down (l.values.conns k).down).wires k).down ≡ [] =
    ap (λ bs. ((take_frame z l k bs (l.values.conns k).down).wires k).down) (ap (λ (x : Wires). x.down) (wires_loaded r k d))
    ∙ (ap (λ ys. ((take_frame z l k (d.frame ∷ []) ys).wires k).down) (conn_loaded r k d)
    ∙ heard_quiet z b k d.frame d.received.place s k none) in
    ap (λ t. ((if t then bytes_later (bytes_changed z l (Take k)) 1 else l).wires k).down) (may_take_loaded r k d) ∙ took
