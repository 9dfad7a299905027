-- Each event keeps the server and its journal free of USER_SESSION_DELETED, and so no message on a ready channel is told so.
use Rattle.std.proofs.lemmas.Bool.Decides.{nat_tests}
use Rattle.std.proofs.Common.{◌≡◌, ◌≢◌, ℕ, ◌==◌, Bool, true, false, not, List, [], ◌∷◌, ◌++◌, refl, arith, sym, subst, ◌∙◌, ap, Some}
use Rattle.spec_exchange.specs.Table.{is_at}
use Rattle.spec_exchange.specs.Status.{user_session_deleted}
use Rattle.spec_exchange.specs.Commands.{Command, Unreadable, Aside, Setup, Logoff, TreeConnect, TreeDisconnect, Create}
use Rattle.spec_exchange.specs.Commands.{Close, Flush, Read, Write, Lock, Ioctl, ListDirectory, QueryFile, QueryVolume}
use Rattle.spec_exchange.specs.Commands.{SetInfo, is_setup}
use Rattle.spec_exchange.specs.State.{Server, Message, Accept, Heard, End, Reply, Answer}
use Rattle.spec_exchange.specs.Check.{has_session}
use Rattle.spec_exchange.specs.Step.{step}
use Rattle.spec_exchange.specs.Fold.{fold, recovery_records}
use Rattle.spec_exchange.specs.Client.{Client}
use Rattle.spec_exchange.specs.ClientStep.{Act, Nothing, Sends, Asks, CloseChannel, CloseChannels, AllSettled}
use Rattle.spec_exchange.specs.ClientStep.{client_after, act, Pushes, IsCut, IsReady}
use Rattle.spec_exchange.specs.Dialogs.{DialogStep, GoesOn, Accepts, Binds, Readies, Refuses, dialog_step}
use Rattle.spec_exchange.specs.Network.{World, Event, Submit, Open, Push, Serve, Take, Cut, Drop, Restart, Crash, Wait}
use Rattle.spec_exchange.specs.Network.{Finish, Sent, Received, Token, ForDialog, ForOp, ForAttach, happens, changed}
use Rattle.spec_exchange.specs.Network.{later, may_open, may_serve, may_take_reply, pushed_by, answer, answer_to}
use Rattle.spec_exchange.specs.Network.{serve_front, absorb_front, take_reply, took_by, dialog_took, closed_by, cut_by}
use Rattle.spec_exchange.specs.Network.{behind_reply, restarted, Settings, start}
use Rattle.law_sessions.specs.messages.Connections.{Connections}
use Rattle.law_sessions.proofs.messages.Lists.{front_up}
use Rattle.law_server.proofs.tables.Logic.{either}
use Rattle.law_sessions.specs.sessions.Sessions.{Sessions}
use Rattle.law_sessions.proofs.sessions.Waiting.{AllUp}
use Rattle.law_answers.proofs.completeness.Events.{if_on}
use Rattle.law_answers.proofs.completeness.Facts.{StaysPresent}
use Rattle.law_answers.proofs.completeness.Statuses.{is_other, is_plain, FairServer}
use Rattle.law_answers.proofs.completeness.Keeps.{all_fair, fair_more, FairAnswer, fair_step, other_status}
use Rattle.law_answers.proofs.completeness.Keeps.{fair_opening, fair_nothing, fair_fold}
use Rattle.law_answers.proofs.completeness.Past.{PlainOp}
use Rattle.law_answers.proofs.completeness.Seats.{Seats, dialog_seat, work_kind, ops_token, no_dialog_up}

abbrev pub FairWorld : World → Type 0
FairWorld w = FairServer w.server × all_fair w.records ≡ true

closes : (w : World) (k : ℕ) (x : Act) → FairWorld w → FairWorld (closed_by w k x)
closes w k Nothing h = h
closes w k (Sends g) h = h
closes w k (Asks g) h = h
closes w k CloseChannel h = h
closes w k CloseChannels h = h
closes w k AllSettled h = h

cuts_by : (w : World) (k : ℕ) (x : Act) → FairWorld w → FairWorld (cut_by w k x)
cuts_by w k Nothing h = h
cuts_by w k (Sends g) h = h
cuts_by w k (Asks g) h = h
cuts_by w k CloseChannel h = h
cuts_by w k CloseChannels h = h
cuts_by w k AllSettled h = h

pushes_by : (w : World) (k : ℕ) (c : Client) (x : Act) → FairWorld w → FairWorld (pushed_by w k c x)
pushes_by w k c Nothing h = h
pushes_by w k c (Sends g) h = h
pushes_by w k c (Asks g) h = h
pushes_by w k c CloseChannel h = h
pushes_by w k c CloseChannels h = h
pushes_by w k c AllSettled h = h

-- ---- the server's steps

answers : (s : Server) (now : ℕ) (m : Message) (c : Command) → FairServer s → FairAnswer (answer_to s now m c)
answers s now m (Aside status) h = record { server = h; records = fair_nothing }
answers s now m (Unreadable status) h = fair_step s now (Heard m) h
answers s now m (Setup request) h = fair_step s now (Heard m) h
answers s now m Logoff h = fair_step s now (Heard m) h
answers s now m (TreeConnect share) h = fair_step s now (Heard m) h
answers s now m TreeDisconnect h = fair_step s now (Heard m) h
answers s now m (Create request) h = fair_step s now (Heard m) h
answers s now m (Close file query) h = fair_step s now (Heard m) h
answers s now m (Flush file) h = fair_step s now (Heard m) h
answers s now m (Read file at size minimum channel) h = fair_step s now (Heard m) h
answers s now m (Write file at bytes channel) h = fair_step s now (Heard m) h
answers s now m (Lock file index number elements) h = fair_step s now (Heard m) h
answers s now m (Ioctl file code room) h = fair_step s now (Heard m) h
answers s now m (ListDirectory file class restart single pattern room) h = fair_step s now (Heard m) h
answers s now m (QueryFile file class room) h = fair_step s now (Heard m) h
answers s now m (QueryVolume file class room) h = fair_step s now (Heard m) h
answers s now m (SetInfo file setting) h = fair_step s now (Heard m) h

with_fair : (w : World) (A : Answer) → FairWorld w → FairAnswer A → FairServer A.server × all_fair (w.records ++ A.records) ≡ true
with_fair w A h f = (f.server, fair_more w.records A.records h.1 f.records)

serves : (w : World) (k : ℕ) (xs : List Sent) → FairWorld w → FairWorld (serve_front w k xs)
serves w k [] h = h
serves w k (x ∷ rest) h = with_fair w (answer w x) h (answers w.server w.moment x.message x.message.command h.0)

absorbs : (w : World) (k : ℕ) (xs : List Sent) → FairWorld w → FairWorld (absorb_front w k xs)
absorbs w k [] h = h
absorbs w k (x ∷ rest) h = with_fair w (answer w x) h (answers w.server w.moment x.message x.message.command h.0)

restarts : (w : World) → FairWorld w → FairWorld (restarted w)
restarts w h = let f = fair_more w.records (recovery_records w.records) h.1 (fair_opening (fold w.records)) in
    (fair_fold (w.records ++ recovery_records w.records) f, f)

crashes : (w : World) (k : ℕ) (kept : Bool) → FairWorld w → FairWorld (changed w (Crash k kept))
crashes w k true h = restarts (absorb_front w k (w.conns k).up) (absorbs w k (w.conns k).up h)
crashes w k false h = restarts w h

-- ---- the client's

dialogs : (w : World) (k : ℕ) (r : Reply) (d : DialogStep) → FairWorld w → FairWorld (dialog_took w k r d)
dialogs w k r (GoesOn s) h = h
dialogs w k r Accepts h = h
dialogs w k r Binds h = closes w k (act w.client (IsReady k w.client.session w.client.tree)) h
dialogs w k r Readies h = closes w k (act w.client (IsReady k w.client.pending r.tree_id)) h
dialogs w k r (Refuses status) h = h

takes : (w : World) (k : ℕ) (ys : List Received) → FairWorld w → FairWorld (take_reply w k ys)
takes w k [] h = h
takes w k (y ∷ rest) h = by y.token
  where
    by : (t : Token) → FairWorld (took_by (behind_reply w k rest) k y.reply y.place t)
    by ForDialog = dialogs (behind_reply w k rest) k y.reply (dialog_step (w.client.stage k) y.reply.status) h
    by (ForOp g) = closes (behind_reply w k rest) k _ h
    by (ForAttach g) = closes (behind_reply w k rest) k _ h

cuts : (w : World) (k : ℕ) → FairWorld w → FairWorld (changed w (Cut k))
cuts w k h = either FairWorld (w.client.ready k) _ _ (λ _. cuts_by w k (act w.client (IsCut k)) h) (λ _. h)

pub fair_on : (w : World) (e : Event) → FairWorld w → FairWorld (happens w e)
fair_on w (Submit g op) h = h
fair_on w (Open k) h = either FairWorld (may_open w k) (later (changed w (Open k)) 1) w
    (λ _. with_fair w (step w.server w.moment (Accept k)) h (fair_step w.server w.moment (Accept k) h.0)) (λ _. h)
fair_on w (Push k slotless pick) h = either FairWorld (w.client.ready k) (later (changed w (Push k slotless pick)) 1) w
    (λ _. pushes_by w k (client_after w.client (Pushes k slotless pick)) (act w.client (Pushes k slotless pick)) h)
    (λ _. h)
fair_on w (Serve k) h = either FairWorld (may_serve w k) (later (serve_front w k (w.conns k).up) 1) w
    (λ _. serves w k (w.conns k).up h) (λ _. h)
fair_on w (Take k) h = either FairWorld (may_take_reply w k) (later (changed w (Take k)) 1) w (λ _. takes w k (w.conns k).down h) (λ _. h)
fair_on w (Cut k) h = either FairWorld (w.conns k).client_open (later (changed w (Cut k)) 1) w (λ _. cuts w k h) (λ _. h)
fair_on w (Drop k) h = either FairWorld (w.conns k).server_open (later (changed w (Drop k)) 1) w
    (λ _. with_fair w (step w.server w.moment (End k)) h (fair_step w.server w.moment (End k) h.0)) (λ _. h)
fair_on w Restart h = restarts w h
fair_on w (Crash k kept) h = either FairWorld (may_serve w k) (later (changed w (Crash k kept)) 1) w (λ _. crashes w k kept h) (λ _. h)
fair_on w (Wait n) h = h
fair_on w (Finish refusal) h = either FairWorld (not w.client.live) (later (changed w (Finish refusal)) 1) w (λ _. h) (λ _. h)

pub fair_first : (z : Settings) → FairWorld (start z)
fair_first z = let f = fair_opening (fold []) in (fair_fold (recovery_records []) f, f)

-- ---- what an operation's message is told on a ready channel

other_answer : (s : Server) (now : ℕ) (m : Message) (c : Command) → m.command ≡ c → FairServer s → is_plain m.command
    ≡ true → is_setup m.command ≡ false → has_session s m ≡ true → (step s now (Heard m)).reply.status ≢
    user_session_deleted
    → (answer_to s now m c).reply.status ≢ user_session_deleted
unfolding is_plain
other_answer s now m (Aside status) e h p n here f = λ g.
    absurd (let q = subst (λ i. not (i == user_session_deleted) ≡ true) g (ap is_plain (sym e) ∙ p) in cc)
other_answer s now m (Unreadable status) e h p n here f = f
other_answer s now m (Setup request) e h p n here f = f
other_answer s now m Logoff e h p n here f = f
other_answer s now m (TreeConnect share) e h p n here f = f
other_answer s now m TreeDisconnect e h p n here f = f
other_answer s now m (Create request) e h p n here f = f
other_answer s now m (Close file query) e h p n here f = f
other_answer s now m (Flush file) e h p n here f = f
other_answer s now m (Read file at size minimum channel) e h p n here f = f
other_answer s now m (Write file at bytes channel) e h p n here f = f
other_answer s now m (Lock file index number elements) e h p n here f = f
other_answer s now m (Ioctl file code room) e h p n here f = f
other_answer s now m (ListDirectory file class restart single pattern room) e h p n here f = f
other_answer s now m (QueryFile file class room) e h p n here f = f
other_answer s now m (QueryVolume file class room) e h p n here f = f
other_answer s now m (SetInfo file setting) e h p n here f = f

not_deleted : (n : ℕ) → is_other n ≡ true → n ≢ user_session_deleted
not_deleted n e f = absurd (let q = subst (λ i. not (i == user_session_deleted) ≡ true) f e in cc)

same_test : (a b : ℕ) → a ≡ b → (b == a) ≡ true
same_test a b e = grind (arith, nat_tests)

pub finds : (w : World) (a : ℕ → ℕ) → Connections w.client w.conns a → Sessions w.client w.conns w.server
    → Seats w.client w.conns w.server → AllUp PlainOp w.conns → FairServer w.server → StaysPresent w
finds w a fit s seats plain fair k x rest ready o so is =
    let f0 = front_up (w.conns k).up x rest is in let m = x.message in
    let ops = ops_token x.token (no_dialog_up w a k x rest fit ready is) in let from = s.from_client k 0 x f0 in
    let p = plain k 0 x f0 ops in let n = (work_kind m.command (s.work_up k 0 x f0 ops)).0 in
    let held = (seats k).held o so w.client.session (if_on (w.client.ready k) (Some w.client.session)
    (dialog_seat (w.client.stage k) (w.conns k).down w.client.session w.client.pending) ready) in
    let here : has_session w.server m ≡ true = ap (λ i. is_at m.session_id (w.server.session_on i)) from.1
    ∙ ap (is_at m.session_id) held ∙ same_test m.session_id w.client.session (s.current_up k 0 x f0 ops o).1 in
    other_answer w.server w.moment m m.command refl fair p n here
    (not_deleted (step w.server w.moment (Heard m)).reply.status (other_status w.server w.moment m fair p n from.2
    here))
