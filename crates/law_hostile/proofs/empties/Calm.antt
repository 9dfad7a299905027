-- What an event puts stands on the lists of its own connection: those of any other are empty behind it where they were before.
use Rattle.std.proofs.Common.{◌≡◌, ℕ, ◌==◌, Bool, true, false, if◌then◌else◌, List, [], ◌∷◌, refl, ◌∙◌, ap, Option, Some, None}
use Rattle.law_server.proofs.tables.Logic.{either}
use Rattle.spec_exchange.specs.Table.{put}
use Rattle.spec_exchange.specs.State.{Reply}
use Rattle.spec_exchange.specs.Operations.{Refusal, HadStatus, BadToken}
use Rattle.spec_exchange.specs.Client.{Client, Stage, Apart, SaidNegotiate, SaidFirst, SaidSecond, AskedTree}
use Rattle.spec_exchange.specs.ClientStep.{Act, Nothing, Sends, Asks, CloseChannel, CloseChannels, AllSettled, IsCut, IsReady, IsRefused}
use Rattle.spec_exchange.specs.ClientStep.{Hears, Pushes, ClientEvent, act, client_after}
use Rattle.spec_exchange.specs.Dialogs.{DialogStep, GoesOn, Accepts, Binds, Readies, Refuses, dialog_step, went_on}
use Rattle.spec_exchange.specs.Network.{World as Values, Conn, Sent, Received, Token, ForDialog, ForOp, ForAttach, Event, Submit, Open, Push}
use Rattle.spec_exchange.specs.Network.{Serve, Take, Cut, Drop, Restart, Crash, Wait, Finish, with_client, cut_off, cut_by, closed_by, pushed_by}
use Rattle.spec_exchange.specs.Network.{dialog_ended, dialog_took, op_took, is_possible, moments}
use Rattle.spec_commands.specs.ReplyOf.{reply_of}
use Rattle.spec_world.specs.Settings.{WorldSettings}
use Rattle.spec_world.specs.Messages.{HeardMessage}
use Rattle.spec_world.specs.Ends.{ConnEnd}
use Rattle.spec_world.specs.Dialog.{line_response, dialog_response, status_due, dialog_fault, noted_heard, paid_in}
use Rattle.spec_world.specs.Connection.{ConnectionStep, LastTaken}
use Rattle.spec_world.specs.World.{Wires, World, with_values, with_client_end, pushed_wires, closed_wires, off_by, one_off, cut_wires}
use Rattle.spec_world.specs.World.{op_heard, line_heard, line_hears, dialog_went, session_accepted, channel_bound, dialog_reply, dialog_wires}
use Rattle.spec_world.specs.World.{dialog_passed, dialog_hears, dialog_off, hears, take_frame, next_token, behind_frame, command_asked}
use Rattle.spec_world.specs.World.{served_by, served_mutely, serve_frame, step_at, dropped_wires, values_took, values_said}
use Rattle.spec_world.specs.World.{replied_each, last_reply, paid}
use Rattle.spec_world.specs.Events.{Plain, bytes_happen, bytes_changed, bytes_later}
use Rattle.spec_hostile.specs.RepeatRuns.{uses_no_list, own_connection}

abbrev pub WiresCalm : ℕ → (ℕ → Wires) → (ℕ → Wires) → Type 0
WiresCalm k f g = (j : ℕ) → (j == k) ≡ false → ((f j).up ≡ [] → (g j).up ≡ []) × ((f j).down ≡ [] → (g j).down ≡ [])

abbrev pub ConnsCalm : ℕ → (ℕ → Conn) → (ℕ → Conn) → Type 0
ConnsCalm k f g = (j : ℕ) → (j == k) ≡ false → ((f j).up ≡ [] → (g j).up ≡ []) × ((f j).down ≡ [] → (g j).down ≡ [])

abbrev pub Calm : ℕ → World → World → Type 0
Calm k w v = WiresCalm k w.wires v.wires × ConnsCalm k w.values.conns v.values.conns

-- ---- tables

wires_same : (k : ℕ) (f : ℕ → Wires) → WiresCalm k f f
wires_same k f j off = (λ e. e, λ e. e)

pub wires_put : (k : ℕ) (f : ℕ → Wires) (u : Wires) → WiresCalm k f (put f k u)
wires_put k f u j off = (
  λ e. ap (λ b. (if b then u else f j).up) off ∙ e,
  λ e. ap (λ b. (if b then u else f j).down) off ∙ e,
)

wires_then : (k : ℕ) (f g h : ℕ → Wires) → WiresCalm k f g → WiresCalm k g h → WiresCalm k f h
wires_then k f g h p q j off = (λ e. (q j off).0 ((p j off).0 e), λ e. (q j off).1 ((p j off).1 e))

conns_same : (k : ℕ) (f : ℕ → Conn) → ConnsCalm k f f
conns_same k f j off = (λ e. e, λ e. e)

pub conns_put : (k : ℕ) (f : ℕ → Conn) (c : Conn) → ConnsCalm k f (put f k c)
conns_put k f c j off = (
  λ e. ap (λ b. (if b then c else f j).up) off ∙ e,
  λ e. ap (λ b. (if b then c else f j).down) off ∙ e,
)

conns_then : (k : ℕ) (f g h : ℕ → Conn) → ConnsCalm k f g → ConnsCalm k g h → ConnsCalm k f h
conns_then k f g h p q j off = (λ e. (q j off).0 ((p j off).0 e), λ e. (q j off).1 ((p j off).1 e))

pub then_calm : (k : ℕ) (w v u : World) → Calm k w v → Calm k v u → Calm k w u
then_calm k w v u p q = (
  wires_then k w.wires v.wires u.wires p.0 q.0,
  conns_then k w.values.conns v.values.conns u.values.conns p.1 q.1,
)

itself : (k : ℕ) (w : World) → Calm k w w
itself k w = (wires_same k w.wires, conns_same k w.values.conns)

-- ---- the client closes ends

closed_wires_calm : (w : World) (k : ℕ) (a : Act) → WiresCalm k w.wires (closed_wires w k a).wires
closed_wires_calm w k CloseChannels = λ j off. (λ e. e, λ e. refl)
closed_wires_calm w k CloseChannel = wires_put k w.wires _
closed_wires_calm w k Nothing = wires_same k w.wires
closed_wires_calm w k (Sends g) = wires_same k w.wires
closed_wires_calm w k (Asks g) = wires_same k w.wires
closed_wires_calm w k AllSettled = wires_same k w.wires

off_wires_calm : (w : World) (k : ℕ) (a : Act) → WiresCalm k w.wires (off_by w k a).wires
off_wires_calm w k CloseChannels = λ j off. (λ e. e, λ e. refl)
off_wires_calm w k CloseChannel = wires_put k w.wires _
off_wires_calm w k Nothing = wires_put k w.wires _
off_wires_calm w k (Sends g) = wires_put k w.wires _
off_wires_calm w k (Asks g) = wires_put k w.wires _
off_wires_calm w k AllSettled = wires_put k w.wires _

closed_conns_calm : (v : Values) (k : ℕ) (a : Act) → ConnsCalm k v.conns (closed_by v k a).conns
closed_conns_calm v k CloseChannels = λ j off. (λ e. e, λ e. refl)
closed_conns_calm v k CloseChannel = conns_put k v.conns _
closed_conns_calm v k Nothing = conns_same k v.conns
closed_conns_calm v k (Sends g) = conns_same k v.conns
closed_conns_calm v k (Asks g) = conns_same k v.conns
closed_conns_calm v k AllSettled = conns_same k v.conns

cut_conns_by : (v : Values) (k : ℕ) (a : Act) → ConnsCalm k v.conns (cut_by v k a).conns
cut_conns_by v k CloseChannels = λ j off. (λ e. e, λ e. refl)
cut_conns_by v k CloseChannel = conns_put k v.conns _
cut_conns_by v k Nothing = conns_put k v.conns _
cut_conns_by v k (Sends g) = conns_put k v.conns _
cut_conns_by v k (Asks g) = conns_put k v.conns _
cut_conns_by v k AllSettled = conns_put k v.conns _

cut_conns_calm : (v : Values) (k : ℕ) → ConnsCalm k v.conns (cut_off v k).conns
cut_conns_calm v k =
    either (λ (u : Values). ConnsCalm k v.conns u.conns) (v.client.ready k) _ _
    (λ _. cut_conns_by v k (act v.client (IsCut k))) (λ _. conns_put k v.conns _)

cut_calm : (w : World) (k : ℕ) → Calm k w (cut_wires w k)
cut_calm w k =
    either (λ (v : World). Calm k w v) (w.values.client.ready k)
    (with_values (off_by w k (act w.values.client (IsCut k))) (cut_off w.values k)) (with_values (one_off w k) (cut_off w.values k))
    (λ _. (off_wires_calm w k (act w.values.client (IsCut k)), cut_conns_calm w.values k))
    (λ _. (wires_put k w.wires _, cut_conns_calm w.values k))

-- ---- Push

pushed_wires_calm : (w : World) (k : ℕ) (c : Client) (a : Act) → WiresCalm k w.wires (pushed_wires w k c a).wires
pushed_wires_calm w k c (Sends g) = wires_put k w.wires _
pushed_wires_calm w k c (Asks g) = wires_put k w.wires _
pushed_wires_calm w k c Nothing = wires_same k w.wires
pushed_wires_calm w k c CloseChannel = wires_same k w.wires
pushed_wires_calm w k c CloseChannels = wires_same k w.wires
pushed_wires_calm w k c AllSettled = wires_same k w.wires

pushed_conns_calm : (v : Values) (k : ℕ) (c : Client) (a : Act) → ConnsCalm k v.conns (pushed_by v k c a).conns
pushed_conns_calm v k c (Sends g) = conns_put k v.conns _
pushed_conns_calm v k c (Asks g) = conns_put k v.conns _
pushed_conns_calm v k c Nothing = conns_same k v.conns
pushed_conns_calm v k c CloseChannel = conns_same k v.conns
pushed_conns_calm v k c CloseChannels = conns_same k v.conns
pushed_conns_calm v k c AllSettled = conns_same k v.conns

-- ---- Take, on a line

op_calm : (w : World) (k g : ℕ) (asking : Bool) (x : HeardMessage) (place : ℕ) → Calm k w (op_heard w k g asking x place)
op_calm w k g asking x place =
    let v = with_client_end w k (paid_in (w.wires k).client_end x.header) in
    let a = act w.values.client (Hears k g asking (reply_of (command_asked w.values.client g asking) x.header x.bytes) place) in (
      wires_then k w.wires v.wires (closed_wires v k a).wires (wires_put k w.wires _) (closed_wires_calm v k a),
      closed_conns_calm w.values k a,
    )

line_calm : (w : World) (k : ℕ) (x : HeardMessage) (place : ℕ) (t : Option Token) → Calm k w (line_heard w k x place t)
line_calm w k x place (Some (ForOp g)) = op_calm w k g false x place
line_calm w k x place (Some (ForAttach g)) = op_calm w k g true x place
line_calm w k x place (Some ForDialog) = cut_calm w k
line_calm w k x place None = cut_calm w k

hears_line : (w : World) (k place : ℕ) (o : Option HeardMessage) → Calm k w (line_hears w k place o)
hears_line w k place None = cut_calm w k
hears_line w k place (Some x) = line_calm w k x place ((w.wires k).client_end.awaited x.header.message)

-- ---- Take, of a dialog

went_calm : (w : World) (k : ℕ) (s : Stage) (token : List ℕ) → WiresCalm k w.wires (dialog_went w k s token).wires
went_calm w k (SaidFirst bound) token = wires_put k w.wires _
went_calm w k (SaidSecond bound) token = wires_put k w.wires _
went_calm w k Apart token = wires_same k w.wires
went_calm w k (SaidNegotiate bound) token = wires_same k w.wires
went_calm w k AskedTree token = wires_same k w.wires

dialog_calm : (z : WorldSettings) (w : World) (k : ℕ) (stage : Stage) (x : HeardMessage) (d : DialogStep)
    → WiresCalm k w.wires (dialog_wires z w k stage x d).wires
dialog_calm z w k stage x (GoesOn next) =
    let n = (w.wires k).client_end in
    let c = went_on w.values.client k next (dialog_reply w stage x) in
    let v = with_client_end (with_values w (with_client w.values c)) k (noted_heard n stage x) in
    let token = next_token z n next x.bytes in
    wires_then k w.wires v.wires (dialog_went v k next token).wires (wires_put k w.wires _) (went_calm v k next token)
dialog_calm z w k stage x Accepts =
    let v = session_accepted w k x in
    wires_then k w.wires v.wires (dialog_wires z w k stage x Accepts).wires (wires_put k w.wires _) (wires_put k v.wires _)
dialog_calm z w k stage x Binds =
    let v = channel_bound w k x in
    let a = act w.values.client (IsReady k w.values.client.session w.values.client.tree) in
    wires_then k w.wires v.wires (closed_wires v k a).wires (wires_put k w.wires _) (closed_wires_calm v k a)
dialog_calm z w k stage x Readies =
    let v = with_client_end w k (record (paid_in (w.wires k).client_end x.header) { stage = Apart }) in
    let a = act w.values.client (IsReady k w.values.client.pending (dialog_reply w stage x).tree_id) in
    wires_then k w.wires v.wires (closed_wires v k a).wires (wires_put k w.wires _) (closed_wires_calm v k a)
dialog_calm z w k stage x (Refuses status) = closed_wires_calm w k (act w.values.client (IsRefused k (HadStatus status)))

ended_calm : (v : Values) (k : ℕ) (e : ClientEvent) → ConnsCalm k v.conns (dialog_ended v k e).conns
ended_calm v k e = closed_conns_calm v k (act v.client e)

took_calm : (v : Values) (k : ℕ) (r : Reply) (d : DialogStep) → ConnsCalm k v.conns (dialog_took v k r d).conns
took_calm v k r (GoesOn stage) = conns_put k v.conns _
took_calm v k r Accepts = conns_put k v.conns _
took_calm v k r Binds = ended_calm v k (IsReady k v.client.session v.client.tree)
took_calm v k r Readies = ended_calm v k (IsReady k v.client.pending r.tree_id)
took_calm v k r (Refuses status) = ended_calm v k (IsRefused k (HadStatus status))

off_calm : (w : World) (k : ℕ) (why : Refusal) → Calm k w (dialog_off w k why)
off_calm w k why = (closed_wires_calm w k (act w.values.client (IsRefused k why)), ended_calm w.values k (IsRefused k why))

passed_calm : (z : WorldSettings) (w : World) (k : ℕ) (stage : Stage) (x : HeardMessage) (o : Option Refusal)
    → Calm k w (dialog_passed z w k stage x o)
passed_calm z w k stage x (Some why) = off_calm w k why
passed_calm z w k stage x None =
    let d = dialog_step stage x.header.status in
    (dialog_calm z w k stage x d, took_calm w.values k (dialog_reply w stage x) d)

response_calm : (z : WorldSettings) (w : World) (k : ℕ) (stage : Stage) (o : Option HeardMessage) → Calm k w (dialog_hears z w k stage o)
response_calm z w k stage None = off_calm w k BadToken
response_calm z w k stage (Some x) =
    passed_calm z w k stage x (if x.header.status == status_due stage then dialog_fault z.client (w.wires k).client_end stage x else None)

heard_calm : (z : WorldSettings) (w : World) (k : ℕ) (frame : List ℕ) (place : ℕ) (s : Stage) → Calm k w (hears z w k frame place s)
heard_calm z w k frame place Apart = hears_line w k place (line_response (w.wires k).client_end frame)
heard_calm z w k frame place (SaidNegotiate bound) =
    response_calm z w k (SaidNegotiate bound) (dialog_response (w.wires k).client_end (SaidNegotiate bound) frame)
heard_calm z w k frame place (SaidFirst bound) =
    response_calm z w k (SaidFirst bound) (dialog_response (w.wires k).client_end (SaidFirst bound) frame)
heard_calm z w k frame place (SaidSecond bound) =
    response_calm z w k (SaidSecond bound) (dialog_response (w.wires k).client_end (SaidSecond bound) frame)
heard_calm z w k frame place AskedTree = response_calm z w k AskedTree (dialog_response (w.wires k).client_end AskedTree frame)

take_calm : (z : WorldSettings) (w : World) (k : ℕ) (bs : List (List ℕ)) (ys : List Received) → Calm k w (take_frame z w k bs ys)
take_calm z w k [] ys = itself k w
take_calm z w k (b ∷ bs) [] = itself k w
take_calm z w k (b ∷ bs) (y ∷ ys) =
    let v = behind_frame w k bs ys in
    then_calm k w v (hears z v k b y.place (w.wires k).client_end.stage) (wires_put k w.wires _, conns_put k w.values.conns _)
    (heard_calm z v k b y.place (w.wires k).client_end.stage)

-- ---- Serve and Drop

took_conns : (v : Values) (k : ℕ) (token : Token) (xs : List Sent) (o : Option LastTaken)
    → ConnsCalm k v.conns (values_took v k token xs o).conns
took_conns v k token xs None = conns_put k v.conns _
took_conns v k token xs (Some t) = conns_put k v.conns _

replied_calm : (v : Values) (k : ℕ) (y : Received) (fs : List (List ℕ)) → ConnsCalm k v.conns (replied_each v k y fs).conns
unfolding replied_each
replied_calm v k y [] = conns_same k v.conns
replied_calm v k y (f ∷ fs) =
    let u = Rattle.spec_exchange.specs.Network.replied v k y in
    conns_then k v.conns u.conns (replied_each u k y fs).conns (conns_put k v.conns _) (replied_calm u k y fs)

said_calm : (v : Values) (k : ℕ) (token : Token) (xs : List Sent) (S : ConnectionStep) → ConnsCalm k v.conns (values_said v k token xs S).conns
said_calm v k token xs S =
    let u = values_took v k token xs S.taken in
    let y : Received = record { token = token; reply = last_reply S.taken; place = v.log.places } in
    conns_then k v.conns u.conns (replied_each u k y S.frames).conns (took_conns v k token xs S.taken) (replied_calm u k y S.frames)

by_end : (w : World) (k : ℕ) (bs : List (List ℕ)) (xs : List Sent) (token : Token) (S : ConnectionStep) (o : Option ConnEnd)
    → Calm k w (served_by w k bs xs token S o)
by_end w k bs xs token S None = (wires_put k w.wires _, said_calm w.values k token xs S)
by_end w k bs xs token S (Some why) =
    let v = served_mutely w k bs xs token S in
    then_calm k w v (dropped_wires v k) (wires_put k w.wires _, took_conns w.values k token xs S.taken)
    (wires_put k v.wires _, conns_put k v.values.conns _)

serve_calm : (z : WorldSettings) (w : World) (k : ℕ) (bs : List (List ℕ)) (xs : List Sent) → Calm k w (serve_frame z w k bs xs)
serve_calm z w k [] xs = itself k w
serve_calm z w k (b ∷ bs) [] = itself k w
serve_calm z w k (b ∷ bs) (x ∷ xs) = let S = step_at z w k b in by_end w k bs xs x.token S S.ends

-- ---- each event of a repeat run

pub changed_calm : (z : WorldSettings) (w : World) (e : Event) → uses_no_list e ≡ true → Calm (own_connection e) w (bytes_changed z w e)
changed_calm z w (Submit g op) s = itself 0 w
changed_calm z w (Open k) s = (wires_put k w.wires _, conns_put k w.values.conns _)
changed_calm z w (Push k slotless pick) s =
    let p = Pushes k slotless (paid w k slotless pick) in
    let c = client_after w.values.client p in
    let a = act w.values.client p in
    (pushed_wires_calm w k c a, pushed_conns_calm w.values k c a)
changed_calm z w (Serve k) s = absurd (cc)
changed_calm z w (Take k) s = absurd (cc)
changed_calm z w (Cut k) s = cut_calm w k
changed_calm z w (Drop k) s = (wires_put k w.wires _, conns_put k w.values.conns _)
changed_calm z w Restart s = (λ j off. (λ e. refl, λ e. e), λ j off. (λ e. refl, λ e. e))
changed_calm z w (Crash k kept) s = absurd (cc)
changed_calm z w (Wait n) s = absurd (cc)
changed_calm z w (Finish refusal) s = absurd (cc)

happen_calm : (z : WorldSettings) (w : World) (k : ℕ) (e : Event) → Calm k w (bytes_changed z w e) → Calm k w (bytes_happen z w (Plain e))
happen_calm z w k e h =
    either (λ (v : World). Calm k w v) (is_possible w.values e) (bytes_later (bytes_changed z w e) (moments e)) w (λ _. h) (λ _. itself k w)

pub same_calm : (z : WorldSettings) (w : World) (e : Event) → uses_no_list e ≡ true
    → Calm (own_connection e) w (bytes_happen z w (Plain e))
same_calm z w e s = happen_calm z w (own_connection e) e (changed_calm z w e s)

pub serves_calm : (z : WorldSettings) (w : World) (k : ℕ) → Calm k w (bytes_happen z w (Plain (Serve k)))
serves_calm z w k = happen_calm z w k (Serve k) (serve_calm z w k (w.wires k).up (w.values.conns k).up)

pub takes_calm : (z : WorldSettings) (w : World) (k : ℕ) → Calm k w (bytes_happen z w (Plain (Take k)))
takes_calm z w k = happen_calm z w k (Take k) (take_calm z w k (w.wires k).down (w.values.conns k).down)
