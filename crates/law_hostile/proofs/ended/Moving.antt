-- What each event of a repeat run does to the server and its records: it does what the model of values does, or nothing.
use Rattle.std.proofs.Common.{◌≡◌, ℕ, Bool, true, false, if◌then◌else◌, List, [], ◌∷◌, ◌++◌, ◌⊎◌, inl, inr, refl, sym, ap, ◌∙◌, subst}
use Rattle.std.proofs.Common.{Option, Some, None, slice_get}
use Rattle.law_server.specs.tables.Fits.{Fits, all_sound}
use Rattle.law_server.proofs.tables.Logic.{either}
use Rattle.law_server.proofs.tables.Folded.{sound_more}
use Rattle.law_server.proofs.tables.Stepped.{stepped}
use Rattle.law_records.specs.recovery.Recovers.{RecordRecovers}
use Rattle.law_records.proofs.recovery.Worlds.{stepped as recorded_on}
use Rattle.law_sessions.proofs.sessions.Heard.{answered}
use Rattle.spec_exchange.specs.Commands.{Command, Unreadable, Aside, Setup, Logoff, TreeConnect, TreeDisconnect, Create, Close, Flush}
use Rattle.spec_exchange.specs.Commands.{Read, Write, Lock, Ioctl, ListDirectory, QueryFile, QueryVolume, SetInfo}
use Rattle.spec_exchange.specs.State.{Server, Message, Heard, Answer}
use Rattle.spec_exchange.specs.Step.{step}
use Rattle.spec_exchange.specs.Operations.{Refusal, BadToken}
use Rattle.spec_exchange.specs.Client.{Stage, Apart}
use Rattle.spec_exchange.specs.ClientStep.{Act, Nothing, Sends, Asks, CloseChannel, CloseChannels, AllSettled, IsRefused, IsReady, IsCut, Hears, act}
use Rattle.spec_exchange.specs.Dialogs.{DialogStep, GoesOn, Accepts, Binds, Readies, Refuses, dialog_step, stage_command}
use Rattle.spec_exchange.specs.Network.{World as Values, Event, Submit, Open, Push, Serve, Take, Cut, Drop, Restart, Crash, Wait, Finish, Token}
use Rattle.spec_exchange.specs.Network.{ForDialog, ForOp, ForAttach, happens, changed, later, is_possible, answer_to, untouched, cut_off, cut_by}
use Rattle.spec_exchange.specs.Network.{closed_by, op_took, dialog_took}
use Rattle.spec_commands.specs.ReplyOf.{reply_of}
use Rattle.spec_world.specs.Settings.{WorldSettings}
use Rattle.spec_world.specs.Messages.{HeardMessage}
use Rattle.spec_world.specs.Ends.{ClientEnd}
use Rattle.spec_world.specs.Dialog.{line_response, dialog_response}
use Rattle.spec_world.specs.World.{World, paid, cut_wires, with_values, off_by, one_off, command_asked}
use Rattle.spec_world.specs.Events.{Plain, bytes_happen, bytes_changed, bytes_later}
use Rattle.spec_hostile.specs.RepeatRuns.{RepeatWorld, RepeatEvent, Same, Give, UpFrame, DownFrame, uses_no_list, same_done, is_served, is_heard}
use Rattle.spec_hostile.specs.RepeatRuns.{given_up, given_down, give_up, give_down, repeat_happens}
use Rattle.law_hostile.proofs.greeted.Greeting.{AllFine}
use Rattle.law_hostile.proofs.loosely.Over.{KeepsOver, Stands, same_keeps, happens_over, stands_on, answered_over, closed_same, cut_off_same, dialog_same}
use Rattle.law_hostile.proofs.loosely.Following.{Follows}
use Rattle.law_hostile.proofs.loosely.Serving.{Took}
use Rattle.law_hostile.proofs.loosely.Ending.{given_ends}
use Rattle.law_hostile.proofs.loosely.Taking.{line_values, line_values_of, line_given}
use Rattle.law_hostile.proofs.loosely.Dialoguing.{passed_values, dialog_values, dialog_given, found_fault}
use Rattle.law_hostile.proofs.ended.Given.{StepsUp, steps_up}

-- ---- a server and its records behind an event

pub record Moves (w v : Values) : Type 0 where
  pub over : KeepsOver w.server v.server
  pub stands : Stands v

same_stands : (w v : Values) → v.server ≡ w.server → v.records ≡ w.records → Stands w → Stands v
same_stands w v e f i =
    record {
      fits = (subst Fits (sym e) i.fits.0, subst (λ rs. all_sound rs ≡ true) (sym f) i.fits.1);
      recorded = subst (λ s. RecordRecovers v.records s) (sym e) (subst (λ rs. RecordRecovers rs w.server) (sym f) i.recorded);
    }

still_moves : (w v : Values) → v.server ≡ w.server → v.records ≡ w.records → Stands w → Moves w v
still_moves w v e f i = record { over = same_keeps w.server v.server e; stands = same_stands w v e f i }

-- behind what another world's event leaves
meets_moves : (w v : Values) (e : Event) → v.server ≡ (happens w e).server → v.records ≡ (happens w e).records → Stands w → Moves w v
meets_moves w v e f g i =
    record {
      over = subst (λ s. KeepsOver w.server s) (sym f) (happens_over w e i);
      stands = same_stands (happens w e) v f g (stands_on w e i);
    }

-- ---- an answer

pub answer_is : (s : Server) (now : ℕ) (m : Message) (c : Command)
    → ((status : ℕ) × (answer_to s now m c ≡ untouched s m status)) ⊎ (answer_to s now m c ≡ step s now (Heard m))
answer_is s now m (Aside status) = inl (status, refl)
answer_is s now m (Unreadable status) = inr refl
answer_is s now m (Setup request) = inr refl
answer_is s now m Logoff = inr refl
answer_is s now m (TreeConnect share) = inr refl
answer_is s now m TreeDisconnect = inr refl
answer_is s now m (Create request) = inr refl
answer_is s now m (Close file query) = inr refl
answer_is s now m (Flush file) = inr refl
answer_is s now m (Read file at size minimum channel) = inr refl
answer_is s now m (Write file at bytes channel) = inr refl
answer_is s now m (Lock file index number elements) = inr refl
answer_is s now m (Ioctl file code room) = inr refl
answer_is s now m (ListDirectory file class restart single pattern room) = inr refl
answer_is s now m (QueryFile file class room) = inr refl
answer_is s now m (QueryVolume file class room) = inr refl
answer_is s now m (SetInfo file setting) = inr refl

no_more : {X : Type 0} (xs : List X) → xs ++ [] ≡ xs
no_more [] = refl
no_more (x ∷ xs) = ap (λ ys. x ∷ ys) (no_more xs)

answer_stands : (w v : Values) (m : Message) (A : Answer)
    → ((status : ℕ) × (A ≡ untouched w.server m status)) ⊎ (A ≡ step w.server w.moment (Heard m))
    → v.server ≡ A.server → v.records ≡ w.records ++ A.records → Stands w → Stands v
answer_stands w v m A (inl q) e f i =
    same_stands w v (e ∙ ap (λ (B : Answer). B.server) q.1)
    (f ∙ (ap (λ (B : Answer). w.records ++ B.records) q.1 ∙ no_more w.records)) i
answer_stands w v m A (inr q) e f i =
    let B = step w.server w.moment (Heard m) in
    let server : v.server ≡ B.server = e ∙ ap (λ (C : Answer). C.server) q in
    let records : v.records ≡ w.records ++ B.records = f ∙ ap (λ (C : Answer). w.records ++ C.records) q in
    let good = stepped w.server w.moment (Heard m) i.fits.0 in
    record {
      fits = (
        subst Fits (sym server) good.0,
        subst (λ rs. all_sound rs ≡ true) (sym records) (sound_more w.records B.records i.fits.1 good.1),
      );
      recorded = subst (λ s. RecordRecovers v.records s) (sym server)
          (subst (λ rs. RecordRecovers rs B.server) (sym records) (recorded_on w.records w.server w.moment (Heard m) tt i.fits.0 i.recorded));
    }

took_moves : (w v : Values) (m : Message) → Took w v m (answer_to w.server w.moment m m.command) → Stands w → Moves w v
took_moves w v m t i =
    let A = answer_to w.server w.moment m m.command in
    record {
      over = subst (λ s. KeepsOver w.server s) (sym t.server)
          (answered_over w.server w.moment m A (answered w.server w.moment m m.command refl));
      stands = answer_stands w v m A (answer_is w.server w.moment m m.command) t.server t.records i;
    }

-- ---- the events that use no list

-- what the values meet
abbrev pub met : World → Event → Event
met w (Push k slotless pick) = Push k slotless (paid w k slotless pick)
met w e = e

if_values : (b : Bool) (x w : World) (y : Values) (n : ℕ) → x.values ≡ y
    → (if b then bytes_later x n else w).values ≡ (if b then later y n else w.values)
if_values true x w y n e = ap (λ v. later v n) e
if_values false x w y n e = refl

cut_is : (w : World) (k : ℕ) → (cut_wires w k).values ≡ cut_off w.values k
cut_is w k =
    either (λ (v : World). v.values ≡ cut_off w.values k) (w.values.client.ready k)
    (with_values (off_by w k (act w.values.client (IsCut k))) (cut_off w.values k)) (with_values (one_off w k) (cut_off w.values k))
    (λ _. refl) (λ _. refl)

pub happen_is : (z : WorldSettings) (w : World) (e : Event) → uses_no_list e ≡ true
    → (bytes_happen z w (Plain e)).values ≡ happens w.values (met w e)
happen_is z w (Submit g op) s = refl
happen_is z w (Open k) s = if_values (is_possible w.values (Open k)) (bytes_changed z w (Open k)) w (changed w.values (Open k)) 1 refl
happen_is z w (Push k slotless pick) s =
    if_values (w.values.client.ready k) (bytes_changed z w (Push k slotless pick)) w
    (changed w.values (Push k slotless (paid w k slotless pick))) 1 refl
happen_is z w (Serve k) s = absurd (let h : false ≡ true = s in cc)
happen_is z w (Take k) s = absurd (let h : false ≡ true = s in cc)
happen_is z w (Cut k) s =
    if_values (w.values.conns k).client_open (bytes_changed z w (Cut k)) w (changed w.values (Cut k)) 1 (cut_is w k)
happen_is z w (Drop k) s = if_values (w.values.conns k).server_open (bytes_changed z w (Drop k)) w (changed w.values (Drop k)) 1 refl
happen_is z w Restart s = refl
happen_is z w (Crash k kept) s = absurd (let h : false ≡ true = s in cc)
happen_is z w (Wait n) s = absurd (let h : false ≡ true = s in cc)
happen_is z w (Finish refusal) s = absurd (let h : false ≡ true = s in cc)

same_moves : (z : WorldSettings) (r : RepeatWorld) (e : Event) → uses_no_list e ≡ true → Stands r.world.values
    → Moves r.world.values (same_done z r e).world.values
same_moves z r e s i =
    let is = happen_is z r.world e s in
    meets_moves r.world.values (same_done z r e).world.values (met r.world e) (ap (λ (v : Values). v.server) is)
    (ap (λ (v : Values). v.records) is) i

-- ---- Give up

ends_moves : (w a v : Values) → Follows a v → Moves w a → Moves w v
ends_moves w a v f m =
    record {
      over = subst (λ s. KeepsOver w.server s) (sym f.server) m.over;
      stands = same_stands a v f.server f.records m.stands;
    }

up_moves : (z : WorldSettings) (r : RepeatWorld) (k i : ℕ) (u : UpFrame) → AllFine z r → slice_get r.ups i ≡ Some u
    → is_served r.world k ≡ true → Stands r.world.values → Moves r.world.values (given_up z r k u).world.values
up_moves z r k i u fine at on stands = by (steps_up z r k i u fine at on)
  where
    by : StepsUp z r k u → Moves r.world.values (given_up z r k u).world.values
    by (inl q) =
        ends_moves r.world.values (happens r.world.values (Drop k)) (given_up z r k u).world.values (given_ends z r k u q.0 on q.1)
        (meets_moves r.world.values (happens r.world.values (Drop k)) (Drop k) refl refl stands)
    by (inr h) = took_moves r.world.values (given_up z r k u).world.values h.message h.took stands

-- ---- Give down: the server isn't told

abbrev SameServer : Values → Values → Type 0
SameServer w v = (v.server ≡ w.server) × (v.records ≡ w.records)

closed_records : (w : Values) (k : ℕ) (x : Act) → (closed_by w k x).records ≡ w.records
closed_records w k Nothing = refl
closed_records w k CloseChannel = refl
closed_records w k CloseChannels = refl
closed_records w k (Sends g) = refl
closed_records w k (Asks g) = refl
closed_records w k AllSettled = refl

cut_records : (w : Values) (k : ℕ) (x : Act) → (cut_by w k x).records ≡ w.records
cut_records w k Nothing = refl
cut_records w k CloseChannel = refl
cut_records w k CloseChannels = refl
cut_records w k (Sends g) = refl
cut_records w k (Asks g) = refl
cut_records w k AllSettled = refl

cut_off_records : (w : Values) (k : ℕ) → (cut_off w k).records ≡ w.records
cut_off_records w k =
    either (λ (v : Values). v.records ≡ w.records) (w.client.ready k) _ _ (λ _. cut_records w k (act w.client (IsCut k))) (λ _. refl)

dialog_records : (w : Values) (k : ℕ) (r : _) (d : DialogStep) → (dialog_took w k r d).records ≡ w.records
dialog_records w k r (GoesOn stage) = refl
dialog_records w k r Accepts = refl
dialog_records w k r Binds = closed_records w k (act w.client (IsReady k w.client.session w.client.tree))
dialog_records w k r Readies = closed_records w k (act w.client (IsReady k w.client.pending r.tree_id))
dialog_records w k r (Refuses status) = closed_records w k CloseChannel

op_server : (w : Values) (k g : ℕ) (asking : Bool) (r : _) (place : ℕ) → SameServer w (op_took w k g asking r place)
op_server w k g asking r place =
    let a = act w.client (Hears k g asking r place) in (closed_same w k a, closed_records w k a)

line_server : (w : Values) (k : ℕ) (x : HeardMessage) (place : ℕ) (t : Option Token) → SameServer w (line_values w k x place t)
line_server w k x place (Some (ForOp g)) = op_server w k g false (reply_of (command_asked w.client g false) x.header x.bytes) place
line_server w k x place (Some (ForAttach g)) = op_server w k g true (reply_of (command_asked w.client g true) x.header x.bytes) place
line_server w k x place (Some ForDialog) = (cut_off_same w k, cut_off_records w k)
line_server w k x place None = (cut_off_same w k, cut_off_records w k)

lines_server : (w : Values) (k place : ℕ) (awaited : ℕ → Option Token) (o : Option HeardMessage)
    → SameServer w (line_values_of w k place awaited o)
lines_server w k place awaited None = (cut_off_same w k, cut_off_records w k)
lines_server w k place awaited (Some x) = line_server w k x place (awaited x.header.message)

passed_server : (w : Values) (k : ℕ) (s : Stage) (x : HeardMessage) (o : Option Refusal) → SameServer w (passed_values w k s x o)
passed_server w k s x (Some why) = (closed_same w k (act w.client (IsRefused k why)), closed_records w k (act w.client (IsRefused k why)))
passed_server w k s x None =
    let r = reply_of (stage_command w.client s) x.header x.bytes in
    (dialog_same w k r (dialog_step s x.header.status), dialog_records w k r (dialog_step s x.header.status))

dialogs_server : (z : WorldSettings) (w : Values) (k : ℕ) (n : ClientEnd) (s : Stage) (o : Option HeardMessage)
    → SameServer w (dialog_values z w k n s o)
dialogs_server z w k n s None =
    (closed_same w k (act w.client (IsRefused k BadToken)), closed_records w k (act w.client (IsRefused k BadToken)))
dialogs_server z w k n s (Some x) = passed_server w k s x (found_fault z n s x)

-- ---- each event

by_stage : (P : Type 0) (s : Stage) → (s ≡ Apart → P) → ((s ≡ Apart → ⊥) → P) → P
by_stage P Apart f g = f refl
by_stage P (Rattle.spec_exchange.specs.Client.SaidNegotiate b) f g = g (λ e. absurd (cc))
by_stage P (Rattle.spec_exchange.specs.Client.SaidFirst b) f g = g (λ e. absurd (cc))
by_stage P (Rattle.spec_exchange.specs.Client.SaidSecond b) f g = g (λ e. absurd (cc))
by_stage P Rattle.spec_exchange.specs.Client.AskedTree f g = g (λ e. absurd (cc))

down_same : (z : WorldSettings) (r : RepeatWorld) (k : ℕ) (d : DownFrame) → is_heard r.world k ≡ true
    → SameServer r.world.values (given_down z r k d).world.values
down_same z r k d on =
    let w = r.world.values in
    let n = (r.world.wires k).client_end in
    let v = (given_down z r k d).world.values in
    by_stage (SameServer w v) n.stage
    (λ apart. (
    let f = line_given z r k d on apart in
    let q = lines_server w k d.received.place n.awaited (line_response n d.frame) in (f.server ∙ q.0, f.records ∙ q.1)))
    (λ other. (
    let f = dialog_given z r k d on other in
    let q = dialogs_server z w k n n.stage (dialog_response n n.stage d.frame) in (f.server ∙ q.0, f.records ∙ q.1)))

pub down_server : (z : WorldSettings) (r : RepeatWorld) (k : ℕ) (d : DownFrame) → is_heard r.world k ≡ true
    → (given_down z r k d).world.values.server ≡ r.world.values.server
down_server z r k d on = (down_same z r k d on).0

down_moves : (z : WorldSettings) (r : RepeatWorld) (k : ℕ) (d : DownFrame) → is_heard r.world k ≡ true → Stands r.world.values
    → Moves r.world.values (given_down z r k d).world.values
down_moves z r k d on stands =
    let q = down_same z r k d on in still_moves r.world.values (given_down z r k d).world.values q.0 q.1 stands

pub event_moves : (z : WorldSettings) (r : RepeatWorld) (e : RepeatEvent) → AllFine z r → Stands r.world.values
    → Moves r.world.values (repeat_happens z r e).world.values
event_moves z r (Same e) fine stands = by (uses_no_list e) refl
  where
    by : (b : Bool) → uses_no_list e ≡ b → Moves r.world.values (if b then same_done z r e else r).world.values
    by true s = same_moves z r e s stands
    by false s = still_moves r.world.values r.world.values refl refl stands
event_moves z r (Give k true place) fine stands = by (slice_get r.ups place) refl
  where
    served : (u : UpFrame) → slice_get r.ups place ≡ Some u → (b : Bool) → is_served r.world k ≡ b
        → Moves r.world.values (if b then given_up z r k u else r).world.values
    served u at true on = up_moves z r k place u fine at on stands
    served u at false off = still_moves r.world.values r.world.values refl refl stands

    by : (o : Option UpFrame) → slice_get r.ups place ≡ o → Moves r.world.values (give_up z r k o).world.values
    by None at = still_moves r.world.values r.world.values refl refl stands
    by (Some u) at = served u at (is_served r.world k) refl
event_moves z r (Give k false place) fine stands = by (slice_get r.downs place)
  where
    heard : (d : DownFrame) (b : Bool) → is_heard r.world k ≡ b → Moves r.world.values (if b then given_down z r k d else r).world.values
    heard d true on = down_moves z r k d on stands
    heard d false off = still_moves r.world.values r.world.values refl refl stands

    by : (o : Option DownFrame) → Moves r.world.values (give_down z r k o).world.values
    by None = still_moves r.world.values r.world.values refl refl stands
    by (Some d) = heard d (is_heard r.world k) refl
