-- Each event keeps what the server and its journal keep below 2^32, and so a reply's status fits its field.
use Rattle.std.proofs.lemmas.Bool.Decides.{nat_tests}
use Rattle.std.proofs.Common.{◌≡◌, ℕ, ◌^◌, ◌<◌, Bool, true, false, not, List, [], ◌∷◌, ◌++◌, refl, arith, sym, subst, None}
use Rattle.spec_exchange.specs.Commands.{Command, Unreadable, Aside, Setup, Logoff, TreeConnect, TreeDisconnect, Create}
use Rattle.spec_exchange.specs.Commands.{Close, Flush, Read, Write, Lock, Ioctl, ListDirectory, QueryFile, QueryVolume}
use Rattle.spec_exchange.specs.Commands.{SetInfo}
use Rattle.spec_exchange.specs.State.{Server, Message, Accept, Heard, End, Reply, Answer}
use Rattle.spec_exchange.specs.Step.{step}
use Rattle.spec_exchange.specs.Fold.{fold, recovery_records}
use Rattle.spec_exchange.specs.Client.{Client}
use Rattle.spec_exchange.specs.ClientStep.{Act, Nothing, Sends, Asks, CloseChannel, CloseChannels, AllSettled}
use Rattle.spec_exchange.specs.ClientStep.{client_after, act, Pushes, IsCut, IsReady}
use Rattle.spec_exchange.specs.Dialogs.{DialogStep, GoesOn, Accepts, Binds, Readies, Refuses, dialog_step}
use Rattle.spec_exchange.specs.Network.{World, Event, Submit, Open, Push, Serve, Take, Cut, Drop, Restart, Crash, Wait}
use Rattle.spec_exchange.specs.Network.{Finish, Sent, Received, Token, ForDialog, ForOp, ForAttach, happens, changed}
use Rattle.spec_exchange.specs.Network.{later, may_open, may_serve, may_take_reply, pushed_by, answer, answer_to}
use Rattle.spec_exchange.specs.Network.{serve_front, absorb_front, take_reply, took_by, dialog_took, closed_by, cut_by}
use Rattle.spec_exchange.specs.Network.{behind_reply, restarted, Settings, start, run}
use Rattle.law_sessions.proofs.messages.Lists.{front_up}
use Rattle.law_sessions.proofs.messages.Reached.{on_every_run}
use Rattle.law_server.proofs.tables.Logic.{either}
use Rattle.law_answers.specs.statuses.Statuses.{StatusesFit}
use Rattle.law_answers.proofs.statuses.Checks.{is_low, LowIn, LowServer, Carries}
use Rattle.law_answers.proofs.statuses.Keeps.{all_low, low_more, LowAnswer, low_step, told_low, low_opening, low_nothing, low_fold}
use Rattle.law_answers.proofs.statuses.Waits.{plain_up}

-- of the tables and of the journal
abbrev pub LowWorld : World → Type 0
LowWorld w = LowServer w.server × all_low w.records ≡ true

closes : (w : World) (k : ℕ) (x : Act) → LowWorld w → LowWorld (closed_by w k x)
closes w k Nothing h = h
closes w k (Sends g) h = h
closes w k (Asks g) h = h
closes w k CloseChannel h = h
closes w k CloseChannels h = h
closes w k AllSettled h = h

cuts_by : (w : World) (k : ℕ) (x : Act) → LowWorld w → LowWorld (cut_by w k x)
cuts_by w k Nothing h = h
cuts_by w k (Sends g) h = h
cuts_by w k (Asks g) h = h
cuts_by w k CloseChannel h = h
cuts_by w k CloseChannels h = h
cuts_by w k AllSettled h = h

pushes_by : (w : World) (k : ℕ) (c : Client) (x : Act) → LowWorld w → LowWorld (pushed_by w k c x)
pushes_by w k c Nothing h = h
pushes_by w k c (Sends g) h = h
pushes_by w k c (Asks g) h = h
pushes_by w k c CloseChannel h = h
pushes_by w k c CloseChannels h = h
pushes_by w k c AllSettled h = h

-- ---- the server's steps

answers : (s : Server) (now : ℕ) (m : Message) (c : Command) → LowServer s → LowAnswer (answer_to s now m c)
answers s now m (Aside status) h = record { server = h; records = low_nothing }
answers s now m (Unreadable status) h = low_step s now (Heard m) h
answers s now m (Setup request) h = low_step s now (Heard m) h
answers s now m Logoff h = low_step s now (Heard m) h
answers s now m (TreeConnect share) h = low_step s now (Heard m) h
answers s now m TreeDisconnect h = low_step s now (Heard m) h
answers s now m (Create request) h = low_step s now (Heard m) h
answers s now m (Close file query) h = low_step s now (Heard m) h
answers s now m (Flush file) h = low_step s now (Heard m) h
answers s now m (Read file at size minimum channel) h = low_step s now (Heard m) h
answers s now m (Write file at bytes channel) h = low_step s now (Heard m) h
answers s now m (Lock file index number elements) h = low_step s now (Heard m) h
answers s now m (Ioctl file code room) h = low_step s now (Heard m) h
answers s now m (ListDirectory file class restart single pattern room) h = low_step s now (Heard m) h
answers s now m (QueryFile file class room) h = low_step s now (Heard m) h
answers s now m (QueryVolume file class room) h = low_step s now (Heard m) h
answers s now m (SetInfo file setting) h = low_step s now (Heard m) h

with_low : (w : World) (A : Answer) → LowWorld w → LowAnswer A → LowServer A.server × all_low (w.records ++ A.records) ≡ true
with_low w A h f = (f.server, low_more w.records A.records h.1 f.records)

serves : (w : World) (k : ℕ) (xs : List Sent) → LowWorld w → LowWorld (serve_front w k xs)
serves w k [] h = h
serves w k (x ∷ rest) h = with_low w (answer w x) h (answers w.server w.moment x.message x.message.command h.0)

absorbs : (w : World) (k : ℕ) (xs : List Sent) → LowWorld w → LowWorld (absorb_front w k xs)
absorbs w k [] h = h
absorbs w k (x ∷ rest) h = with_low w (answer w x) h (answers w.server w.moment x.message x.message.command h.0)

restarts : (w : World) → LowWorld w → LowWorld (restarted w)
restarts w h = let f = low_more w.records (recovery_records w.records) h.1 (low_opening (fold w.records)) in
    (low_fold (w.records ++ recovery_records w.records) f, f)

crashes : (w : World) (k : ℕ) (kept : Bool) → LowWorld w → LowWorld (changed w (Crash k kept))
crashes w k true h = restarts (absorb_front w k (w.conns k).up) (absorbs w k (w.conns k).up h)
crashes w k false h = restarts w h

-- ---- the client's

dialogs : (w : World) (k : ℕ) (r : Reply) (d : DialogStep) → LowWorld w → LowWorld (dialog_took w k r d)
dialogs w k r (GoesOn s) h = h
dialogs w k r Accepts h = h
dialogs w k r Binds h = closes w k (act w.client (IsReady k w.client.session w.client.tree)) h
dialogs w k r Readies h = closes w k (act w.client (IsReady k w.client.pending r.tree_id)) h
dialogs w k r (Refuses status) h = h

takes : (w : World) (k : ℕ) (ys : List Received) → LowWorld w → LowWorld (take_reply w k ys)
takes w k [] h = h
takes w k (y ∷ rest) h = by y.token
  where
    by : (t : Token) → LowWorld (took_by (behind_reply w k rest) k y.reply y.place t)
    by ForDialog = dialogs (behind_reply w k rest) k y.reply (dialog_step (w.client.stage k) y.reply.status) h
    by (ForOp g) = closes (behind_reply w k rest) k _ h
    by (ForAttach g) = closes (behind_reply w k rest) k _ h

cuts : (w : World) (k : ℕ) → LowWorld w → LowWorld (changed w (Cut k))
cuts w k h = either LowWorld (w.client.ready k) _ _ (λ _. cuts_by w k (act w.client (IsCut k)) h) (λ _. h)

low_on : (w : World) (e : Event) → LowWorld w → LowWorld (happens w e)
low_on w (Submit g op) h = h
low_on w (Open k) h = either LowWorld (may_open w k) (later (changed w (Open k)) 1) w
    (λ _. with_low w (step w.server w.moment (Accept k)) h (low_step w.server w.moment (Accept k) h.0)) (λ _. h)
low_on w (Push k slotless pick) h = either LowWorld (w.client.ready k) (later (changed w (Push k slotless pick)) 1) w
    (λ _. pushes_by w k (client_after w.client (Pushes k slotless pick)) (act w.client (Pushes k slotless pick)) h)
    (λ _. h)
low_on w (Serve k) h = either LowWorld (may_serve w k) (later (serve_front w k (w.conns k).up) 1) w
    (λ _. serves w k (w.conns k).up h) (λ _. h)
low_on w (Take k) h = either LowWorld (may_take_reply w k) (later (changed w (Take k)) 1) w (λ _. takes w k (w.conns k).down h) (λ _. h)
low_on w (Cut k) h = either LowWorld (w.conns k).client_open (later (changed w (Cut k)) 1) w (λ _. cuts w k h) (λ _. h)
low_on w (Drop k) h = either LowWorld (w.conns k).server_open (later (changed w (Drop k)) 1) w
    (λ _. with_low w (step w.server w.moment (End k)) h (low_step w.server w.moment (End k) h.0)) (λ _. h)
low_on w Restart h = restarts w h
low_on w (Crash k kept) h = either LowWorld (may_serve w k) (later (changed w (Crash k kept)) 1) w (λ _. crashes w k kept h) (λ _. h)
low_on w (Wait n) h = h
low_on w (Finish refusal) h = either LowWorld (not w.client.live) (later (changed w (Finish refusal)) 1) w (λ _. h) (λ _. h)

low_first : (z : Settings) → LowWorld (start z)
low_first z = let f = low_opening (fold []) in (low_fold (recovery_records []) f, f)

-- ---- what is told

stepped : (s : Server) (now : ℕ) (m : Message) → LowServer s → Carries m.command → m.fault ≡ None
    → is_low (step s now (Heard m)).reply.status ≡ true
stepped s now m h p f = told_low s now m h p (subst LowIn (sym f) tt)

told : (s : Server) (now : ℕ) (m : Message) (c : Command) → c ≡ m.command → LowServer s → Carries m.command → m.fault ≡ None
    → is_low (answer_to s now m c).reply.status ≡ true
told s now m (Aside status) e h p f = subst Carries (sym e) p
told s now m (Unreadable status) e h p f = stepped s now m h p f
told s now m (Setup request) e h p f = stepped s now m h p f
told s now m Logoff e h p f = stepped s now m h p f
told s now m (TreeConnect share) e h p f = stepped s now m h p f
told s now m TreeDisconnect e h p f = stepped s now m h p f
told s now m (Create request) e h p f = stepped s now m h p f
told s now m (Close file query) e h p f = stepped s now m h p f
told s now m (Flush file) e h p f = stepped s now m h p f
told s now m (Read file at size minimum channel) e h p f = stepped s now m h p f
told s now m (Write file at bytes channel) e h p f = stepped s now m h p f
told s now m (Lock file index number elements) e h p f = stepped s now m h p f
told s now m (Ioctl file code room) e h p f = stepped s now m h p f
told s now m (ListDirectory file class restart single pattern room) e h p f = stepped s now m h p f
told s now m (QueryFile file class room) e h p f = stepped s now m h p f
told s now m (QueryVolume file class room) e h p f = stepped s now m h p f
told s now m (SetInfo file setting) e h p f = stepped s now m h p f

pub low_world : (z : Settings) (es : List Event) → LowWorld (run es (start z))
low_world z es = on_every_run (λ w a. LowWorld w) z (low_first z) (λ xs e h. low_on (run xs (start z)) e h) es

fits : (n : ℕ) → is_low n ≡ true → n < 256 ^ 4
fits n e = grind (arith, nat_tests)

pub statuses_fit : StatusesFit
statuses_fit z es k x xs h =
    let w = run es (start z) in
    let m = x.message in
    let i = plain_up z es k 0 x (front_up (w.conns k).up x xs h) in
    fits (answer w x).reply.status (told w.server w.moment m m.command refl (low_world z es).0 i.command i.fault)
