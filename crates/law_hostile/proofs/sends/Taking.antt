-- The numbers that a client sends fit behind each event of a repeat run.
use Rattle.std.proofs.Common.{◌≡◌, ℕ, ◌+◌, ◌<◌, ◌^◌, ◌==◌, true, false, if◌then◌else◌, List, [], ◌∷◌, refl, sym, ap, subst}
use Rattle.std.proofs.Common.{Option, Some, None, slice_get}
use Rattle.law_server.proofs.tables.Logic.{either}
use Rattle.law_records.proofs.recovery.Lists.{put_here}
use Rattle.spec_exchange.specs.Commands.{Command}
use Rattle.spec_exchange.specs.Operations.{Refusal, HadStatus, BadToken, id_in, is_create}
use Rattle.spec_exchange.specs.Client.{Client, Identity, Stage, Apart, SaidNegotiate, SaidFirst, SaidSecond, AskedTree}
use Rattle.spec_exchange.specs.ClientStep.{Act, Nothing, Sends, Asks, CloseChannel, CloseChannels, AllSettled, Pushes, IsCut}
use Rattle.spec_exchange.specs.ClientStep.{client_after, act}
use Rattle.spec_exchange.specs.Dialogs.{DialogStep, GoesOn, Accepts, Binds, Readies, Refuses, dialog_step}
use Rattle.spec_exchange.specs.Network.{World as Values, Received, Token, ForDialog, ForOp, ForAttach, Event, Submit, Open, Push, Serve, Take}
use Rattle.spec_exchange.specs.Network.{Cut, Drop, Restart, Crash, Wait, Finish, cut_off, pushed_by, dialog_took, is_possible, moments}
use Rattle.spec_wire.specs.declared.messages.header.Header.{Header}
use Rattle.spec_commands.specs.ReplyOf.{reply_of}
use Rattle.spec_world.specs.Settings.{WorldSettings}
use Rattle.spec_world.specs.Messages.{HeardMessage}
use Rattle.spec_world.specs.Ends.{ClientEnd}
use Rattle.spec_world.specs.Dialog.{line_response, dialog_response, status_due, dialog_fault}
use Rattle.spec_world.specs.World.{World, Wires, with_values, off_by, one_off, cut_wires, line_heard, line_hears, dialog_reply}
use Rattle.spec_world.specs.World.{dialog_passed, dialog_hears, hears, take_frame, behind_frame, command_asked, paid}
use Rattle.spec_world.specs.Events.{Plain, bytes_happen, bytes_changed, bytes_later}
use Rattle.spec_hostile.specs.RepeatRuns.{RepeatWorld, RepeatEvent, Same, Give, UpFrame, DownFrame, is_heard, is_served, uses_no_list}
use Rattle.spec_hostile.specs.RepeatRuns.{same_done, loaded_up, loaded_down, given_up, given_down, give_up, give_down, repeat_happens}
use Rattle.spec_hostile.specs.RepeatRuns.{down_frames}
use Rattle.law_hostile.proofs.ended.Naming.{served_client}
use Rattle.law_hostile.proofs.sends.Clients.{Base, Fit, submits_fit, pushes_fit, hears_fit, cuts_fit, leaves_fit, refuses_fit, ready_fit, opens_fit, went_fit}
use Rattle.law_hostile.proofs.sends.Clients.{accepts_fit, more_fit}

-- ---- what the client hears

-- what a create hears on a line names an open of at most 8 bytes
abbrev pub LineLow : ClientEnd → Client → List ℕ → Type 0
LineLow n c frame =
    (y : HeardMessage) (g : ℕ) → n.stage ≡ Apart → line_response n frame ≡ Some y → n.awaited y.header.message ≡ Some (ForOp g)
    → is_create (c.op g) ≡ true → id_in (reply_of (command_asked c g false) y.header y.bytes).body < 256 ^ 8

-- a dialog's response tells a session of at most 8 bytes, and a tree of 4
abbrev pub DialogLow : ClientEnd → List ℕ → Type 0
DialogLow n frame =
    (s : Stage) (y : HeardMessage) → dialog_response n s frame ≡ Some y → (let h = y.header in (h.session < 256 ^ 8) × (h.tree < 256 ^ 4))

reply_session : (c : Command) (h : Header) (m : List ℕ) → (reply_of c h m).session_id ≡ h.session
unfolding reply_of
reply_session c h m = refl

reply_tree : (c : Command) (h : Header) (m : List ℕ) → (reply_of c h m).tree_id ≡ h.tree
unfolding reply_of
reply_tree c h m = refl

abbrev pub FitWorld : Identity → ℕ → Base → World → Type 0
FitWorld who limit base w = Fit who limit base w.values.client

cut_fit : (who : Identity) (limit : ℕ) (base : Base) (w : World) (k : ℕ) → FitWorld who limit base w → FitWorld who limit base (cut_wires w k)
cut_fit who limit base w k f =
    let v = w.values in
    either (FitWorld who limit base) (v.client.ready k) (with_values (off_by w k (act v.client (IsCut k))) (cut_off v k))
    (with_values (one_off w k) (cut_off v k)) (λ _. off) (λ _. off)
  where
    off : Fit who limit base (cut_off w.values k).client
    off = either (λ (u : Values). Fit who limit base u.client) (w.values.client.ready k) _ _ (λ _. cuts_fit who limit base w.values.client k f)
        (λ _. leaves_fit who limit base w.values.client k f)

line_fit : (who : Identity) (limit : ℕ) (base : Base) (w : World) (k : ℕ) (y : HeardMessage) (place : ℕ) (t : Option Token)
    → ((g : ℕ) → t ≡ Some (ForOp g) → is_create (w.values.client.op g) ≡ true
    → id_in (reply_of (command_asked w.values.client g false) y.header y.bytes).body < 256 ^ 8)
    → FitWorld who limit base w → FitWorld who limit base (line_heard w k y place t)
line_fit who limit base w k y place (Some (ForOp g)) low f =
    hears_fit who limit base w.values.client k g false (reply_of (command_asked w.values.client g false) y.header y.bytes) place
    (λ on _. low g refl on) f
line_fit who limit base w k y place (Some (ForAttach g)) low f =
    hears_fit who limit base w.values.client k g true (reply_of (command_asked w.values.client g true) y.header y.bytes) place
    (λ on e. absurd (let q : true ≡ false = e in cc)) f
line_fit who limit base w k y place (Some ForDialog) low f = cut_fit who limit base w k f
line_fit who limit base w k y place None low f = cut_fit who limit base w k f

lines_fit : (who : Identity) (limit : ℕ) (base : Base) (w : World) (k place : ℕ) (frame : List ℕ) (o : Option HeardMessage)
    → line_response (w.wires k).client_end frame ≡ o → (w.wires k).client_end.stage ≡ Apart
    → LineLow (w.wires k).client_end w.values.client frame → FitWorld who limit base w → FitWorld who limit base (line_hears w k place o)
lines_fit who limit base w k place frame None is at low f = cut_fit who limit base w k f
lines_fit who limit base w k place frame (Some y) is at low f =
    line_fit who limit base w k y place ((w.wires k).client_end.awaited y.header.message) (λ g e on. low y g at is e on) f

step_fit : (who : Identity) (limit : ℕ) (base : Base) (w : World) (k : ℕ) (s : Stage) (y : HeardMessage) (d : DialogStep)
    → (let h = y.header in (h.session < 256 ^ 8) × (h.tree < 256 ^ 4)) → FitWorld who limit base w
    → Fit who limit base (dialog_took w.values k (dialog_reply w s y) d).client
step_fit who limit base w k s y (GoesOn next) low f =
    went_fit who limit base w.values.client k next (dialog_reply w s y)
    (subst (λ n. n < 256 ^ 8) (sym (reply_session _ y.header y.bytes)) low.0) f
step_fit who limit base w k s y Accepts low f = accepts_fit who limit base w.values.client k f
step_fit who limit base w k s y Binds low f = ready_fit who limit base w.values.client k w.values.client.session w.values.client.tree f.session f.tree f
step_fit who limit base w k s y Readies low f =
    ready_fit who limit base w.values.client k w.values.client.pending (dialog_reply w s y).tree_id f.pending
    (subst (λ n. n < 256 ^ 4) (sym (reply_tree _ y.header y.bytes)) low.1) f
step_fit who limit base w k s y (Refuses status) low f = refuses_fit who limit base w.values.client k (HadStatus status) f

passed_fit : (who : Identity) (limit : ℕ) (base : Base) (z : WorldSettings) (w : World) (k : ℕ) (s : Stage) (y : HeardMessage) (o : Option Refusal)
    → (let h = y.header in (h.session < 256 ^ 8) × (h.tree < 256 ^ 4)) → FitWorld who limit base w → FitWorld who limit base (dialog_passed z w k s y o)
passed_fit who limit base z w k s y (Some why) low f = refuses_fit who limit base w.values.client k why f
passed_fit who limit base z w k s y None low f = step_fit who limit base w k s y (dialog_step s y.header.status) low f

response_fit : (who : Identity) (limit : ℕ) (base : Base) (z : WorldSettings) (w : World) (k : ℕ) (s : Stage) (frame : List ℕ) (o : Option HeardMessage)
    → dialog_response (w.wires k).client_end s frame ≡ o → DialogLow (w.wires k).client_end frame → FitWorld who limit base w
    → FitWorld who limit base (dialog_hears z w k s o)
response_fit who limit base z w k s frame None is low f = refuses_fit who limit base w.values.client k BadToken f
response_fit who limit base z w k s frame (Some y) is low f =
    passed_fit who limit base z w k s y (if y.header.status == status_due s then dialog_fault z.client (w.wires k).client_end s y else None)
    (low s y is) f

heard_fit : (who : Identity) (limit : ℕ) (base : Base) (z : WorldSettings) (w : World) (k : ℕ) (frame : List ℕ) (place : ℕ) (s : Stage)
    → (w.wires k).client_end.stage ≡ s → LineLow (w.wires k).client_end w.values.client frame → DialogLow (w.wires k).client_end frame
    → FitWorld who limit base w → FitWorld who limit base (hears z w k frame place s)
heard_fit who limit base z w k frame place Apart at line low f =
    lines_fit who limit base w k place frame (line_response (w.wires k).client_end frame) refl at line f
heard_fit who limit base z w k frame place (SaidNegotiate bound) at line low f =
    response_fit who limit base z w k (SaidNegotiate bound) frame (dialog_response (w.wires k).client_end (SaidNegotiate bound) frame) refl low f
heard_fit who limit base z w k frame place (SaidFirst bound) at line low f =
    response_fit who limit base z w k (SaidFirst bound) frame (dialog_response (w.wires k).client_end (SaidFirst bound) frame) refl low f
heard_fit who limit base z w k frame place (SaidSecond bound) at line low f =
    response_fit who limit base z w k (SaidSecond bound) frame (dialog_response (w.wires k).client_end (SaidSecond bound) frame) refl low f
heard_fit who limit base z w k frame place AskedTree at line low f =
    response_fit who limit base z w k AskedTree frame (dialog_response (w.wires k).client_end AskedTree frame) refl low f

frame_fit : (who : Identity) (limit : ℕ) (base : Base) (z : WorldSettings) (w : World) (k : ℕ) (bs : List (List ℕ)) (ys : List Received) (frame : List ℕ)
    → bs ≡ frame ∷ [] → LineLow (w.wires k).client_end w.values.client frame → DialogLow (w.wires k).client_end frame → FitWorld who limit base w
    → FitWorld who limit base (take_frame z w k bs ys)
frame_fit who limit base z w k [] ys frame is line low f = f
frame_fit who limit base z w k (b ∷ bs) [] frame is line low f = f
frame_fit who limit base z w k (b ∷ bs) (y ∷ ys) frame is line low f =
    let v = behind_frame w k bs ys in
    let n = (w.wires k).client_end in
    let same : (v.wires k).client_end ≡ n = ap (λ (u : Wires). u.client_end) (put_here w.wires k _) in
    let b_is : frame ≡ b = cc in
    heard_fit who limit base z v k b y.place n.stage (ap (λ (i : ClientEnd). i.stage) same)
    (subst (λ (i : ClientEnd). LineLow i w.values.client b) (sym same) (subst (LineLow n w.values.client) b_is line))
    (subst (λ (i : ClientEnd). DialogLow i b) (sym same) (subst (DialogLow n) b_is low)) f

-- ---- an event

-- how many operations may be taken behind it
abbrev pub limit_behind : Event → ℕ → ℕ
limit_behind (Submit g op) n = n + 1
limit_behind _ n = n

up_to : (who : Identity) (limit : ℕ) (base : Base) (w : World) (e : Event) → FitWorld who limit base w → FitWorld who (limit_behind e limit) base w
up_to who limit base w (Submit g op) f = more_fit who limit base w.values.client f
up_to who limit base w (Open k) f = f
up_to who limit base w (Push k slotless pick) f = f
up_to who limit base w (Serve k) f = f
up_to who limit base w (Take k) f = f
up_to who limit base w (Cut k) f = f
up_to who limit base w (Drop k) f = f
up_to who limit base w Restart f = f
up_to who limit base w (Crash k kept) f = f
up_to who limit base w (Wait n) f = f
up_to who limit base w (Finish refusal) f = f

happen_fit : (who : Identity) (limit : ℕ) (base : Base) (z : WorldSettings) (w : World) (e : Event)
    → (FitWorld who limit base w → FitWorld who (limit_behind e limit) base (bytes_changed z w e)) → FitWorld who limit base w
    → FitWorld who (limit_behind e limit) base (bytes_happen z w (Plain e))
happen_fit who limit base z w e h f =
    either (FitWorld who (limit_behind e limit) base) (is_possible w.values e) (bytes_later (bytes_changed z w e) (moments e)) w (λ _. h f)
    (λ _. up_to who limit base w e f)

pushed_fit : (who : Identity) (limit : ℕ) (base : Base) (v : Values) (k : ℕ) (c : Client) (a : Act) → Fit who limit base c → Fit who limit base (pushed_by v k c a).client
pushed_fit who limit base v k c (Sends g) f = f
pushed_fit who limit base v k c (Asks g) f = f
pushed_fit who limit base v k c Nothing f = f
pushed_fit who limit base v k c CloseChannel f = f
pushed_fit who limit base v k c CloseChannels f = f
pushed_fit who limit base v k c AllSettled f = f

changed_fit : (who : Identity) (limit : ℕ) (base : Base) (z : WorldSettings) (w : World) (e : Event) → uses_no_list e ≡ true → FitWorld who limit base w
    → FitWorld who (limit_behind e limit) base (bytes_changed z w e)
changed_fit who limit base z w (Submit g op) s f = submits_fit who limit base w.values.client g op f
changed_fit who limit base z w (Open k) s f = opens_fit who limit base w.values.client k f
changed_fit who limit base z w (Push k slotless pick) s f =
    let p = Pushes k slotless (paid w k slotless pick) in
    pushed_fit who limit base w.values k (client_after w.values.client p) (act w.values.client p)
    (pushes_fit who limit base w.values.client k slotless (paid w k slotless pick) f)
changed_fit who limit base z w (Serve k) s f = absurd (cc)
changed_fit who limit base z w (Take k) s f = absurd (cc)
changed_fit who limit base z w (Cut k) s f = cut_fit who limit base w k f
changed_fit who limit base z w (Drop k) s f = f
changed_fit who limit base z w Restart s f = f
changed_fit who limit base z w (Crash k kept) s f = absurd (cc)
changed_fit who limit base z w (Wait n) s f = absurd (cc)
changed_fit who limit base z w (Finish refusal) s f = absurd (cc)

same_event_fit : (who : Identity) (limit : ℕ) (base : Base) (z : WorldSettings) (r : RepeatWorld) (e : Event) → FitWorld who limit base r.world
    → FitWorld who (limit_behind e limit) base (repeat_happens z r (Same e)).world
same_event_fit who limit base z r e f =
    either (λ (v : RepeatWorld). FitWorld who (limit_behind e limit) base v.world) (uses_no_list e) (same_done z r e) r
    (λ s. happen_fit who limit base z r.world e (changed_fit who limit base z r.world e s) f) (λ _. up_to who limit base r.world e f)

up_fit : (who : Identity) (limit : ℕ) (base : Base) (z : WorldSettings) (r : RepeatWorld) (k : ℕ) (o : Option UpFrame) → FitWorld who limit base r.world
    → FitWorld who limit base (give_up z r k o).world
up_fit who limit base z r k None f = f
up_fit who limit base z r k (Some u) f =
    either (λ (v : RepeatWorld). FitWorld who limit base v.world) (is_served r.world k) (given_up z r k u) r
    (λ _. subst (Fit who limit base) (sym (served_client z (loaded_up r k u) k)) f) (λ _. f)

down_fit : (who : Identity) (limit : ℕ) (base : Base) (z : WorldSettings) (r : RepeatWorld) (k : ℕ) (d : DownFrame)
    → LineLow (r.world.wires k).client_end r.world.values.client d.frame → DialogLow (r.world.wires k).client_end d.frame
    → FitWorld who limit base r.world → FitWorld who limit base (given_down z r k d).world
unfolding down_frames
down_fit who limit base z r k d line low f =
    let v = loaded_down r k d in
    let n = (r.world.wires k).client_end in
    let same : (v.wires k).client_end ≡ n = ap (λ (u : Wires). u.client_end) (put_here r.world.wires k _) in
    let frames : (v.wires k).down ≡ d.frame ∷ [] = ap (λ (u : Wires). u.down) (put_here r.world.wires k _) in
    happen_fit who limit base z v (Take k)
    (λ g. frame_fit who limit base z v k (v.wires k).down (v.values.conns k).down d.frame frames
    (subst (λ (i : ClientEnd). LineLow i r.world.values.client d.frame) (sym same) line)
    (subst (λ (i : ClientEnd). DialogLow i d.frame) (sym same) low) g) f

-- what is given to a client's end tells numbers that fit
abbrev pub GivenLow : RepeatWorld → RepeatEvent → Type 0
GivenLow r (Same e) = Unit {0}
GivenLow r (Give k true place) = Unit {0}
GivenLow r (Give k false place) =
    (d : DownFrame) → slice_get r.downs place ≡ Some d → is_heard r.world k ≡ true
    → LineLow (r.world.wires k).client_end r.world.values.client d.frame × DialogLow (r.world.wires k).client_end d.frame

give_down_fit : (who : Identity) (limit : ℕ) (base : Base) (z : WorldSettings) (r : RepeatWorld) (k : ℕ) (o : Option DownFrame)
    → ((d : DownFrame) → o ≡ Some d → is_heard r.world k ≡ true
    → LineLow (r.world.wires k).client_end r.world.values.client d.frame × DialogLow (r.world.wires k).client_end d.frame)
    → FitWorld who limit base r.world → FitWorld who limit base (give_down z r k o).world
give_down_fit who limit base z r k None low f = f
give_down_fit who limit base z r k (Some d) low f =
    either (λ (v : RepeatWorld). FitWorld who limit base v.world) (is_heard r.world k) (given_down z r k d) r
    (λ on. (let l = low d refl on in down_fit who limit base z r k d l.0 l.1 f)) (λ _. f)

abbrev pub limit_at : RepeatEvent → ℕ → ℕ
limit_at (Same e) n = limit_behind e n
limit_at (Give k up place) n = n

pub event_fit : (who : Identity) (limit : ℕ) (base : Base) (z : WorldSettings) (r : RepeatWorld) (e : RepeatEvent) → GivenLow r e → FitWorld who limit base r.world
    → FitWorld who (limit_at e limit) base (repeat_happens z r e).world
event_fit who limit base z r (Same e) low f = same_event_fit who limit base z r e f
event_fit who limit base z r (Give k true place) low f = up_fit who limit base z r k (slice_get r.ups place) f
event_fit who limit base z r (Give k false place) low f = give_down_fit who limit base z r k (slice_get r.downs place) low f
