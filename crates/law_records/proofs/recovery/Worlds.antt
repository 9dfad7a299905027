-- Each event of the world, and each run: the records stand for the server.
use Rattle.std.proofs.Common.{◌≡◌, ℕ, Bool, true, false, List, [], ◌∷◌, ◌++◌, refl, arith, sym, subst, ◌∙◌, ap}
use Rattle.spec_exchange.specs.Commands.{Command, Aside, Unreadable, Setup, Logoff, TreeConnect, TreeDisconnect, Create}
use Rattle.spec_exchange.specs.Commands.{Close, Flush, Read, Write, Lock, Ioctl, ListDirectory, QueryFile, QueryVolume}
use Rattle.spec_exchange.specs.Commands.{SetInfo}
use Rattle.spec_exchange.specs.State.{Server, Message, ServerEvent, Accept, Heard, End, Record, Reply}
use Rattle.spec_exchange.specs.Step.{step, with_deadlines}
use Rattle.spec_exchange.specs.Fold.{nothing_yet, persistent_in, fold, fold_from, StandsFor}
use Rattle.spec_exchange.specs.ClientStep.{Act, Nothing, CloseChannels, Sends, Asks, AllSettled, Pushes, IsCut, Hears}
use Rattle.spec_exchange.specs.ClientStep.{act, client_after, CloseChannel, IsReady}
use Rattle.spec_exchange.specs.Client.{Client, leave_dialog}
use Rattle.spec_exchange.specs.Dialogs.{DialogStep, GoesOn, Accepts, Binds, Readies, Refuses, dialog_step}
use Rattle.spec_exchange.specs.Network.{World, Event, Submit, Open, Push, Serve, Take, Cut, Drop, Restart, Crash, Wait}
use Rattle.spec_exchange.specs.Network.{Finish, Sent, Received, Token, ForDialog, ForOp, ForAttach, Settings, start}
use Rattle.spec_exchange.specs.Network.{blank_server, run, happens, changed, is_possible, moments, later, answer_to}
use Rattle.spec_exchange.specs.Network.{serve_front, absorb_front, pushed_by, take_reply, took_by, dialog_took}
use Rattle.spec_exchange.specs.Network.{closed_by, cut_by, restarted, crashed, behind_reply, with_client, one_cut}
use Rattle.spec_exchange.specs.Network.{may_serve}
use Rattle.law_server.specs.tables.Fits.{Fits, Listed}
use Rattle.law_server.proofs.tables.Logic.{either}
use Rattle.law_server.proofs.tables.SessionEffects.{deadlines_keeps}
use Rattle.law_server.proofs.tables.Applied.{expired_keeps}
use Rattle.law_records.specs.recovery.Recovers.{kept_ranges, Mirrors, RecordRecovers}
use Rattle.law_records.proofs.recovery.Leaves.{fold_append}
use Rattle.law_records.proofs.recovery.Verdicts.{needs, nothing_owed}
use Rattle.law_records.proofs.recovery.Steps.{Runs, steps}
use Rattle.law_records.proofs.recovery.Durable.{restarts, same_durable}

-- ---- the server's step

pub stepped : (rs : List Record) (s : Server) (now : ℕ) (e : ServerEvent) → Runs e → Fits s → RecordRecovers rs s
    → RecordRecovers (rs ++ (step s now e).records) (step s now e).server
stepped rs s now e ok i h =
    subst (λ (x : Server). Mirrors x (step s now e).server) (sym (fold_append nothing_yet rs (step s now e).records))
    (steps (fold rs) s now e ok (needs s i) i.deadlines i.plain_attached
    (λ o d. needs _ (expired_keeps (with_deadlines s now) now o d (deadlines_keeps s now i))) h)

abbrev Kept : World → Type 0
Kept w = RecordRecovers w.records w.server

nothing_more : (rs : List Record) (s : Server) → RecordRecovers rs s → RecordRecovers (rs ++ []) s
nothing_more rs s h = subst (λ (x : Server). Mirrors x s) (sym (fold_append nothing_yet rs [])) (nothing_owed (fold rs) s h)

answers : (rs : List Record) (s : Server) (now : ℕ) (m : Message) (c : Command) → Fits s → RecordRecovers rs s
    → RecordRecovers (rs ++ (answer_to s now m c).records) (answer_to s now m c).server
answers rs s now m (Aside status) i h = nothing_more rs s h
answers rs s now m (Unreadable status) i h = stepped rs s now (Heard m) tt i h
answers rs s now m (Setup request) i h = stepped rs s now (Heard m) tt i h
answers rs s now m Logoff i h = stepped rs s now (Heard m) tt i h
answers rs s now m (TreeConnect share) i h = stepped rs s now (Heard m) tt i h
answers rs s now m TreeDisconnect i h = stepped rs s now (Heard m) tt i h
answers rs s now m (Create request) i h = stepped rs s now (Heard m) tt i h
answers rs s now m (Close file query) i h = stepped rs s now (Heard m) tt i h
answers rs s now m (Flush file) i h = stepped rs s now (Heard m) tt i h
answers rs s now m (Read file at size minimum channel) i h = stepped rs s now (Heard m) tt i h
answers rs s now m (Write file at bytes channel) i h = stepped rs s now (Heard m) tt i h
answers rs s now m (Lock file index number elements) i h = stepped rs s now (Heard m) tt i h
answers rs s now m (Ioctl file code room) i h = stepped rs s now (Heard m) tt i h
answers rs s now m (ListDirectory file class restart single pattern room) i h = stepped rs s now (Heard m) tt i h
answers rs s now m (QueryFile file class room) i h = stepped rs s now (Heard m) tt i h
answers rs s now m (QueryVolume file class room) i h = stepped rs s now (Heard m) tt i h
answers rs s now m (SetInfo file setting) i h = stepped rs s now (Heard m) tt i h

serves : (w : World) (k : ℕ) (up : List Sent) → Fits w.server → Kept w → Kept (serve_front w k up)
serves w k [] i h = h
serves w k (x ∷ rest) i h = answers w.records w.server w.moment x.message x.message.command i h

absorbs : (w : World) (k : ℕ) (up : List Sent) → Fits w.server → Kept w → Kept (absorb_front w k up)
absorbs w k [] i h = h
absorbs w k (x ∷ rest) i h = answers w.records w.server w.moment x.message x.message.command i h

-- what is served is what is absorbed
same_server : (w : World) (k : ℕ) (up : List Sent) → (serve_front w k up).server ≡ (absorb_front w k up).server
same_server w k [] = refl
same_server w k (x ∷ rest) = refl

-- ---- events that don't touch the server

pushes : (w : World) (k : ℕ) (c : Client) (x : Act) → Kept w → Kept (pushed_by w k c x)
pushes w k c Nothing h = h
pushes w k c CloseChannel h = h
pushes w k c CloseChannels h = h
pushes w k c (Sends g) h = h
pushes w k c (Asks g) h = h
pushes w k c AllSettled h = h

closes : (w : World) (k : ℕ) (x : Act) → Kept w → Kept (closed_by w k x)
closes w k Nothing h = h
closes w k CloseChannel h = h
closes w k CloseChannels h = h
closes w k (Sends g) h = h
closes w k (Asks g) h = h
closes w k AllSettled h = h

cuts : (w : World) (k : ℕ) (x : Act) → Kept w → Kept (cut_by w k x)
cuts w k Nothing h = h
cuts w k CloseChannel h = h
cuts w k CloseChannels h = h
cuts w k (Sends g) h = h
cuts w k (Asks g) h = h
cuts w k AllSettled h = h

dialogs : (w : World) (k : ℕ) (r : Reply) (x : DialogStep) → Kept w → Kept (dialog_took w k r x)
dialogs w k r (GoesOn stage) h = h
dialogs w k r Accepts h = h
dialogs w k r Binds h = closes w k (act w.client (IsReady k w.client.session w.client.tree)) h
dialogs w k r Readies h = closes w k (act w.client (IsReady k w.client.pending r.tree_id)) h
dialogs w k r (Refuses status) h = h

tokens : (w : World) (k : ℕ) (r : Reply) (place : ℕ) (t : Token) → Kept w → Kept (took_by w k r place t)
tokens w k r place ForDialog h = dialogs w k r (dialog_step (w.client.stage k) r.status) h
tokens w k r place (ForOp g) h = closes w k (act w.client (Hears k g false r place)) h
tokens w k r place (ForAttach g) h = closes w k (act w.client (Hears k g true r place)) h

takes : (w : World) (k : ℕ) (down : List Received) → Kept w → Kept (take_reply w k down)
takes w k [] h = h
takes w k (y ∷ rest) h = tokens (behind_reply w k rest) k y.reply y.place y.token h

-- ---- Restart and Crash

restarts_world : (w : World) → Listed w.server → Kept w → Kept (restarted w)
restarts_world w l h = restarts w.server w.records l h

crashes : (w : World) (k : ℕ) (kept : Bool) → Fits w.server → Listed (absorb_front w k (w.conns k).up).server → Kept w
    → Kept (crashed w k kept)
crashes w k true i l h = restarts_world (absorb_front w k (w.conns k).up) l (absorbs w k (w.conns k).up i h)
crashes w k false i l h = restarts_world w i.listed h

-- the state behind an absorbed front is that behind a serve
absorbed_fits : (w : World) (k : ℕ) → may_serve w k ≡ true → Fits (happens w (Serve k)).server
    → Fits (absorb_front w k (w.conns k).up).server
absorbed_fits w k may i =
    let e : happens w (Serve k) ≡ later (serve_front w k (w.conns k).up) 1 = rw may refl in
    subst Fits (ap (λ (v : World). v.server) e ∙ same_server w k (w.conns k).up) i

-- ---- each event

pub keeps : (w : World) (e : Event) → Fits w.server → ((x : Event) → Fits (happens w x).server) → Kept w → Kept (happens w e)
keeps w e i next h = either (λ v. Kept v) (is_possible w e) (later (changed w e) (moments e)) w (λ may. by e may) (λ _. h)
  where
    by : (x : Event) → is_possible w x ≡ true → Kept (changed w x)
    by (Submit g op) may = h
    by (Open k) may = stepped w.records w.server w.moment (Accept k) tt i h
    by (Push k slotless pick) may = pushes w k (client_after w.client (Pushes k slotless pick)) (act w.client (Pushes k slotless pick)) h
    by (Serve k) may = serves w k (w.conns k).up i h
    by (Take k) may = takes w k (w.conns k).down h
    by (Cut k) may = either (λ v. Kept v) (w.client.ready k) (with_client (cut_by w k (act w.client (IsCut k)))
        (client_after w.client (IsCut k))) (one_cut (with_client w (leave_dialog w.client k)) k)
        (λ _. cuts w k (act w.client (IsCut k)) h) (λ _. h)
    by (Drop k) may = stepped w.records w.server w.moment (End k) tt i h
    by Restart may = restarts_world w i.listed h
    by (Crash k kept) may = crashes w k kept i (absorbed_fits w k may (next (Serve k))).listed h
    by (Wait n) may = h
    by (Finish refusal) may = h

-- ---- each run

-- a world from which each run keeps the server's tables in order
abbrev pub Fine : World → Type 0
Fine w = (more : List Event) → Fits (run more w).server

fine_now : (w : World) → Fine w → Fits w.server
unfolding run
fine_now w f = f []

fine_next : (w : World) (e : Event) → Fine w → Fine (happens w e)
unfolding run
fine_next w e f = λ more. f (e ∷ more)

pub always : (es : List Event) (w : World) → Fine w → Kept w → Kept (run es w)
unfolding run
always [] w f h = h
always (e ∷ es) w f h = always es (happens w e) (fine_next w e f)
    (keeps w e (fine_now w f) (λ x. fine_now (happens w x) (fine_next w x f)) h)

blank_mirrors : (z : Settings) → RecordRecovers [] (blank_server z)
unfolding fold_from persistent_in kept_ranges
blank_mirrors z = (
  record { entries = refl; next_file = refl; directory = refl; delete_pending = refl; basic = refl; content = refl },
  record {
    opens = refl;
    standing = λ o. refl;
    opened = λ o e. refl;
    lock_sequences = λ o i e. refl;
    by_guid = λ c g. refl;
    ranges = λ f. refl;
  },
  record {
    version = refl;
    epoch = refl;
    open_ids_given = omega arith;
    full = refl;
    room = omega arith;
    expired_guids = refl;
    expired_count = refl;
  },
)

pub begins : (z : Settings) → Kept (start z)
begins z = restarts (blank_server z) [] (λ o. refl) (blank_mirrors z)

pub recovers : (z : Settings) → Fine (start z) → (es : List Event) → RecordRecovers (run es (start z)).records (run es (start z)).server
recovers z f es = always es (start z) f (begins z)

pub stands_for : (z : Settings) → Fine (start z) → (es : List Event) → StandsFor (run es (start z)).records (run es (start z)).server
stands_for z f es = same_durable (fold (run es (start z)).records) (run es (start z)).server (f es).listed (recovers z f es)
