-- Each event keeps what fits together of the server, and so does each run.
use Rattle.std.proofs.Common.{◌≡◌, ℕ, ◌≤◌, min, Bool, true, false, List, [], ◌∷◌, ◌++◌, arith}
use Rattle.spec_exchange.specs.Commands.{Command, Unreadable, Aside, Setup, Logoff, TreeConnect, TreeDisconnect, Create}
use Rattle.spec_exchange.specs.Commands.{Close, Flush, Read, Write, Lock, Ioctl, ListDirectory, QueryFile, QueryVolume}
use Rattle.spec_exchange.specs.Commands.{SetInfo}
use Rattle.spec_exchange.specs.State.{Server, Message, Accept, Heard, End, Answer, Reply}
use Rattle.spec_exchange.specs.Fold.{recovery_records, full_room, fold}
use Rattle.spec_exchange.specs.Step.{step}
use Rattle.spec_exchange.specs.Client.{Client}
use Rattle.spec_exchange.specs.ClientStep.{Act, Nothing, Sends, Asks, CloseChannels, AllSettled, CloseChannel, IsReady, act}
use Rattle.spec_exchange.specs.Dialogs.{DialogStep, GoesOn, Accepts, Binds, Readies, Refuses, dialog_step}
use Rattle.spec_exchange.specs.Network.{World, Event, Submit, Open, Push, Serve, Take, Cut, Drop, Restart, Crash, Wait}
use Rattle.spec_exchange.specs.Network.{Finish, Sent, Received, Token, ForDialog, ForOp, ForAttach, happens, run, start}
use Rattle.spec_exchange.specs.Network.{Settings, blank_server, changed, is_possible, pushed_by, answer, answer_to}
use Rattle.spec_exchange.specs.Network.{serve_front, absorb_front, crashed, restarted, take_reply, behind_reply}
use Rattle.spec_exchange.specs.Network.{took_by, dialog_took, closed_by, cut_by, cut_off}
use Rattle.law_server.specs.tables.Fits.{Fits, all_sound}
use Rattle.law_server.proofs.tables.Logic.{either}
use Rattle.law_server.proofs.tables.Folded.{sound_more, sound_none, sound_recovery, recovered_fits}
use Rattle.law_server.proofs.tables.Stepped.{Good, stepped}

abbrev pub ServerFits : World → Type 0
ServerFits w = Fits w.server × all_sound w.records ≡ true

-- ---- Serve

answered : (s : Server) (now : ℕ) (m : Message) (c : Command) → Fits s → Good (answer_to s now m c)
answered s now m (Aside status) i = (i, sound_none)
answered s now m (Unreadable status) i = stepped s now (Heard m) i
answered s now m (Setup request) i = stepped s now (Heard m) i
answered s now m Logoff i = stepped s now (Heard m) i
answered s now m (TreeConnect share) i = stepped s now (Heard m) i
answered s now m TreeDisconnect i = stepped s now (Heard m) i
answered s now m (Create request) i = stepped s now (Heard m) i
answered s now m (Close file query) i = stepped s now (Heard m) i
answered s now m (Flush file) i = stepped s now (Heard m) i
answered s now m (Read file at size minimum channel) i = stepped s now (Heard m) i
answered s now m (Write file at bytes channel) i = stepped s now (Heard m) i
answered s now m (Lock file index number elements) i = stepped s now (Heard m) i
answered s now m (Ioctl file code room) i = stepped s now (Heard m) i
answered s now m (ListDirectory file class restart single pattern room) i = stepped s now (Heard m) i
answered s now m (QueryFile file class room) i = stepped s now (Heard m) i
answered s now m (QueryVolume file class room) i = stepped s now (Heard m) i
answered s now m (SetInfo file setting) i = stepped s now (Heard m) i

-- an answer's state and records, behind those of the world
with_good : (w : World) (A : Answer) → all_sound w.records ≡ true → Good A → Fits A.server × all_sound (w.records ++ A.records) ≡ true
with_good w A r g = (g.0, sound_more w.records A.records r g.1)

absorbs : (w : World) (k : ℕ) (xs : List Sent) → ServerFits w → ServerFits (absorb_front w k xs)
absorbs w k [] i = i
absorbs w k (x ∷ rest) i = with_good w (answer w x) i.1 (answered w.server w.moment x.message x.message.command i.0)

serves : (w : World) (k : ℕ) (xs : List Sent) → ServerFits w → ServerFits (serve_front w k xs)
serves w k [] i = i
serves w k (x ∷ rest) i = with_good w (answer w x) i.1 (answered w.server w.moment x.message x.message.command i.0)

-- ---- Restart and Crash

restarts : (w : World) → ServerFits w → ServerFits (restarted w)
restarts w i = (
  recovered_fits w.server w.records i.0.room i.1,
  sound_more w.records (recovery_records w.records) i.1
      (sound_recovery (fold w.records)),
)

crashes : (w : World) (k : ℕ) (kept : Bool) → ServerFits w → ServerFits (crashed w k kept)
crashes w k true i = restarts (absorb_front w k (w.conns k).up) (absorbs w k (w.conns k).up i)
crashes w k false i = restarts w i

-- ---- the events that the server doesn't meet

pushes : (w : World) (k : ℕ) (c : Client) (a : Act) → ServerFits w → ServerFits (pushed_by w k c a)
pushes w k c Nothing i = i
pushes w k c (Sends g) i = i
pushes w k c (Asks g) i = i
pushes w k c CloseChannel i = i
pushes w k c CloseChannels i = i
pushes w k c AllSettled i = i

closes : (w : World) (k : ℕ) (a : Act) → ServerFits w → ServerFits (closed_by w k a)
closes w k Nothing i = i
closes w k (Sends g) i = i
closes w k (Asks g) i = i
closes w k CloseChannel i = i
closes w k CloseChannels i = i
closes w k AllSettled i = i

cuts : (w : World) (k : ℕ) (a : Act) → ServerFits w → ServerFits (cut_by w k a)
cuts w k Nothing i = i
cuts w k (Sends g) i = i
cuts w k (Asks g) i = i
cuts w k CloseChannel i = i
cuts w k CloseChannels i = i
cuts w k AllSettled i = i

dialogs : (w : World) (k : ℕ) (r : Reply) (step : DialogStep) → ServerFits w → ServerFits (dialog_took w k r step)
dialogs w k r (GoesOn stage) i = i
dialogs w k r Accepts i = i
dialogs w k r Binds i = closes w k (act w.client (IsReady k w.client.session w.client.tree)) i
dialogs w k r Readies i = closes w k (act w.client (IsReady k w.client.pending r.tree_id)) i
dialogs w k r (Refuses status) i = i

takes_by : (w : World) (k : ℕ) (r : Reply) (place : ℕ) (token : Token) → ServerFits w → ServerFits (took_by w k r place token)
takes_by w k r place ForDialog i = dialogs w k r (dialog_step (w.client.stage k) r.status) i
takes_by w k r place (ForOp g) i = closes w k _ i
takes_by w k r place (ForAttach g) i = closes w k _ i

takes : (w : World) (k : ℕ) (ys : List Received) → ServerFits w → ServerFits (take_reply w k ys)
takes w k [] i = i
takes w k (y ∷ rest) i = takes_by (behind_reply w k rest) k y.reply y.place y.token i

cut_offs : (w : World) (k : ℕ) → ServerFits w → ServerFits (cut_off w k)
cut_offs w k i = either (λ v. ServerFits v) (w.client.ready k) _ _ (λ _. cuts w k _ i) (λ _. i)

-- ---- each event

changes : (w : World) (e : Event) → ServerFits w → ServerFits (changed w e)
changes w (Submit g op) i = i
changes w (Open k) i = with_good w (step w.server w.moment (Accept k)) i.1 (stepped w.server w.moment (Accept k) i.0)
changes w (Push k slotless pick) i = pushes w k _ _ i
changes w (Serve k) i = serves w k (w.conns k).up i
changes w (Take k) i = takes w k (w.conns k).down i
changes w (Cut k) i = cut_offs w k i
changes w (Drop k) i = with_good w (step w.server w.moment (End k)) i.1 (stepped w.server w.moment (End k) i.0)
changes w Restart i = restarts w i
changes w (Crash k kept) i = crashes w k kept i
changes w (Wait n) i = i
changes w (Finish refusal) i = i

pub holds_behind : (w : World) (e : Event) → ServerFits w → ServerFits (happens w e)
holds_behind w e i = either (λ v. ServerFits v) (is_possible w e) _ _ (λ _. changes w e i) (λ _. i)

always : (es : List Event) (w : World) → ServerFits w → ServerFits (run es w)
unfolding run
always [] w i = i
always (e ∷ es) w i = always es (happens w e) (holds_behind w e i)

room_within : (n : ℕ) → min n full_room ≤ full_room
room_within n = omega arith

begins : (z : Settings) → ServerFits (start z)
begins z = (recovered_fits (blank_server z) [] (room_within z.room) sound_none, sound_recovery (fold []))

pub holds : (z : Settings) (es : List Event) → ServerFits (run es (start z))
holds z es = always es (start z) (begins z)

pub fitting : (z : Settings) (es : List Event) → Fits (run es (start z)).server
fitting z es = (holds z es).0

pub sound : (z : Settings) (es : List Event) → all_sound (run es (start z)).records ≡ true
sound z es = (holds z es).1
