-- Each event keeps the server's rows and its journal within their fields.
use Rattle.std.proofs.Common.{◌≡◌, ℕ, ◌<◌, ◌≤◌, ◌^◌, min, nat_le, Bool, true, false, not, List, [], ◌∷◌, ◌++◌}
use Rattle.std.proofs.Common.{length, refl, arith, sym}
use Rattle.std.proofs.Common.{subst, inl, inr}
use Rattle.spec_exchange.specs.Commands.{Command, Unreadable, Aside, Setup, Logoff, TreeConnect, TreeDisconnect, Create}
use Rattle.spec_exchange.specs.Commands.{Close, Flush, Read, Write, Lock, Ioctl, ListDirectory, QueryFile, QueryVolume, SetInfo}
use Rattle.spec_exchange.specs.State.{Server, Message, ServerEvent, Accept, Heard, End, Stop, Reply, Record, Answer, last_moment}
use Rattle.spec_exchange.specs.Check.{check}
use Rattle.spec_exchange.specs.Records.{origin_at}
use Rattle.spec_exchange.specs.Fold.{fold, recovery_records, full_room}
use Rattle.spec_exchange.specs.Step.{step, with_deadlines, max_connections, Ruling, Says, TakesIn, TurnsAway, TakesOut, TakesAllOut}
use Rattle.spec_exchange.specs.Step.{ruling, ruling_without_room, carried_out, connection_of, ends_with, take_out, take_all_out}
use Rattle.spec_exchange.specs.Client.{Client}
use Rattle.spec_exchange.specs.ClientStep.{Act, Nothing, Sends, Asks, CloseChannel, CloseChannels, AllSettled}
use Rattle.spec_exchange.specs.ClientStep.{client_after, act, Pushes, IsCut, IsReady}
use Rattle.spec_exchange.specs.Dialogs.{DialogStep, GoesOn, Accepts, Binds, Readies, Refuses, dialog_step}
use Rattle.spec_exchange.specs.Network.{World, Event, Submit, Open, Push, Serve, Take, Cut, Drop, Restart, Crash, Wait}
use Rattle.spec_exchange.specs.Network.{Finish, Sent, Received, Token, ForDialog, ForOp, ForAttach, happens, changed}
use Rattle.spec_exchange.specs.Network.{later, may_open, may_serve, may_take_reply, pushed_by, answer, answer_to}
use Rattle.spec_exchange.specs.Network.{serve_front, absorb_front, take_reply, took_by, dialog_took, closed_by, cut_by}
use Rattle.spec_exchange.specs.Network.{behind_reply, restarted, Settings, start, run}
use Rattle.law_sessions.proofs.messages.Reached.{on_every_run}
use Rattle.law_server.specs.tables.Fits.{Fits}
use Rattle.law_server.proofs.tables.Logic.{either}
use Rattle.law_server.proofs.tables.Doors.{by_ruling, recorded, Front, Rules}
use Rattle.law_server.proofs.tables.Checked.{checked}
use Rattle.law_server.proofs.tables.Stepped.{front_fits}
use Rattle.law_server.proofs.tables.Run.{fitting}
use Rattle.law_replies.proofs.counters.Fits.{operations_fit}
use Rattle.law_replies.specs.fields.Rows.{RowsFit, RowsAlwaysFit}
use Rattle.law_replies.proofs.fields.Changes.{Keeps, by_effect, ended_if, expired}
use Rattle.law_replies.proofs.fields.Written.{AllFit, fit_more, fit_named, fit_expired, fit_all_out, records_by, fit_opening, fold_fits}
use Rattle.law_replies.proofs.fields.Verdicts.{AsksFit, keeps, keeps_full}
use Rattle.law_replies.proofs.fields.Requests.{asks_fit}

-- ---- a step of the server

pub record FitAnswer (A : Answer) : Type 0 where
  pub server : RowsFit A.server
  pub records : AllFit A.records

taken_out : (s : Server) (k now : ℕ) (q : Bool) → RowsFit s → RowsFit (take_out s k now q)
taken_out s k now q h = ended_if s now (ends_with s k) q h

all_out : (s : Server) (ks : List ℕ) (now : ℕ) (q : Bool) → RowsFit s → RowsFit (take_all_out s ks now q)
unfolding take_all_out
all_out s [] now q h = h
all_out s (k ∷ ks) now q h = all_out (take_out s k now q) ks now q (taken_out s k now q h)

abbrev RulingKeeps : Server → Ruling → Type 0
RulingKeeps s (Says m v) = Keeps s v
RulingKeeps s (TakesIn k) = Unit {0}
RulingKeeps s TurnsAway = Unit {0}
RulingKeeps s (TakesOut k is_quiet) = Unit {0}
RulingKeeps s (TakesAllOut is_quiet) = Unit {0}

abbrev EventFits : ServerEvent → Type 0
EventFits (Heard m) = AsksFit m.command
EventFits (Accept k) = Unit {0}
EventFits (End k) = Unit {0}
EventFits Stop = Unit {0}

carries : (t : Server) (now : ℕ) (r : Ruling) → now < 256 ^ 8 → RulingKeeps t r → RowsFit t → FitAnswer (carried_out t now r)
carries t now (Says m v) n e h = record { server = by_effect t m now v n e h; records = records_by t m now v n e h }
carries t now (TakesIn k) n e h = record { server = h; records = tt }
carries t now TurnsAway n e h = record { server = h; records = tt }
carries t now (TakesOut k q) n e h = record { server = taken_out t k now q h; records = fit_named t (origin_at k) (ends_with t k) q }
carries t now (TakesAllOut q) n e h = record { server = all_out t t.connections now q h; records = fit_all_out t t.connections now q }

ruled : (t : Server) (e : ServerEvent) → Fits t → EventFits e → RowsFit t → RulingKeeps t (ruling t e)
ruled t (Accept k) i g h =
    either (λ (r : Ruling). RulingKeeps t r) (nat_le max_connections (length t.connections)) TurnsAway (TakesIn k) (λ _. tt) (λ _. tt)
ruled t (Heard m) i g h = keeps t m (check t m) i h g (checked t m)
ruled t (End k) i g h = tt
ruled t Stop i g h = tt

ruled_full : (t : Server) (r : Ruling) → RulingKeeps t (ruling_without_room r)
ruled_full t (Says m v) = keeps_full t v
ruled_full t (TakesIn k) = tt
ruled_full t TurnsAway = tt
ruled_full t (TakesOut k q) = tt
ruled_full t (TakesAllOut q) = tt

step_fits : (s : Server) (now : ℕ) (e : ServerEvent) → now < 256 ^ 8 → Fits s → EventFits e → RowsFit s → FitAnswer (step s now e)
step_fits s now e n i g h = by_ruling FitAnswer s now e (λ t front r at rules. whole t front r at (rule t front at r rules))
  where
    server : (t : Server) (front : List Record) → Front s now e t front → RowsFit t
    server t front (inl q) = subst RowsFit (sym q.0) h
    server t front (inr q) = subst RowsFit (sym q.2) (expired (with_deadlines s now) q.0 h)

    told : (t : Server) (front : List Record) → Front s now e t front → AllFit front
    told t front (inl q) = subst AllFit (sym q.1) tt
    told t front (inr q) = subst AllFit (sym q.3) (fit_expired (with_deadlines s now) (origin_at (connection_of e)) q.0)

    by : (t : Server) → Fits t → RowsFit t → (r : Ruling) → Rules t e r → RulingKeeps t r
    by t j u r (inl q) = subst (λ (x : Ruling). RulingKeeps t x) (sym q) (ruled t e j g u)
    by t j u r (inr q) = subst (λ (x : Ruling). RulingKeeps t x) (sym q) (ruled_full t (ruling t e))

    rule : (t : Server) (front : List Record) → Front s now e t front → (r : Ruling) → Rules t e r → RulingKeeps t r
    rule t front at r rules = let f = front_fits s now e t front at i in by t f.0 (server t front at) r rules

    whole : (t : Server) (front : List Record) (r : Ruling) → Front s now e t front → RulingKeeps t r
        → FitAnswer (recorded (carried_out t now r) (front ++ (carried_out t now r).records))
    whole t front r at rule = let c = carries t now r n rule (server t front at) in record {
      server = c.server;
      records = fit_more front (carried_out t now r).records (told t front at) c.records;
    }

-- ---- each event

abbrev pub FitWorld : World → Type 0
FitWorld w = RowsFit w.server × AllFit w.records

answers : (s : Server) (now : ℕ) (m : Message) (c : Command) → now < 256 ^ 8 → Fits s → AsksFit m.command → RowsFit s
    → FitAnswer (answer_to s now m c)
answers s now m (Aside status) n i g h = record { server = h; records = tt }
answers s now m (Unreadable status) n i g h = step_fits s now (Heard m) n i g h
answers s now m (Setup request) n i g h = step_fits s now (Heard m) n i g h
answers s now m Logoff n i g h = step_fits s now (Heard m) n i g h
answers s now m (TreeConnect share) n i g h = step_fits s now (Heard m) n i g h
answers s now m TreeDisconnect n i g h = step_fits s now (Heard m) n i g h
answers s now m (Create request) n i g h = step_fits s now (Heard m) n i g h
answers s now m (Close file query) n i g h = step_fits s now (Heard m) n i g h
answers s now m (Flush file) n i g h = step_fits s now (Heard m) n i g h
answers s now m (Read file at size minimum channel) n i g h = step_fits s now (Heard m) n i g h
answers s now m (Write file at bytes channel) n i g h = step_fits s now (Heard m) n i g h
answers s now m (Lock file index number elements) n i g h = step_fits s now (Heard m) n i g h
answers s now m (Ioctl file code room) n i g h = step_fits s now (Heard m) n i g h
answers s now m (ListDirectory file class restart single pattern room) n i g h = step_fits s now (Heard m) n i g h
answers s now m (QueryFile file class room) n i g h = step_fits s now (Heard m) n i g h
answers s now m (QueryVolume file class room) n i g h = step_fits s now (Heard m) n i g h
answers s now m (SetInfo file setting) n i g h = step_fits s now (Heard m) n i g h

with_fit : (w : World) (A : Answer) → FitWorld w → FitAnswer A → RowsFit A.server × AllFit (w.records ++ A.records)
with_fit w A h f = (f.server, fit_more w.records A.records h.1 f.records)

-- what its fronts ask fits
abbrev Asked : World → Type 0
Asked w = (k : ℕ) (x : Sent) (xs : List Sent) → (w.conns k).up ≡ x ∷ xs → AsksFit x.message.command

answered : (w : World) (k : ℕ) (x : Sent) (rest : List Sent) → (w.conns k).up ≡ x ∷ rest → w.moment < 256 ^ 8 → Fits w.server → Asked w
    → FitWorld w → FitAnswer (answer w x)
answered w k x rest is n i g h = answers w.server w.moment x.message x.message.command n i (g k x rest is) h.0

serves : (w : World) (k : ℕ) (xs : List Sent) → (w.conns k).up ≡ xs → w.moment < 256 ^ 8 → Fits w.server → Asked w → FitWorld w
    → FitWorld (serve_front w k xs)
serves w k [] is n i g h = h
serves w k (x ∷ rest) is n i g h = with_fit w (answer w x) h (answered w k x rest is n i g h)

absorbs : (w : World) (k : ℕ) (xs : List Sent) → (w.conns k).up ≡ xs → w.moment < 256 ^ 8 → Fits w.server → Asked w → FitWorld w
    → FitWorld (absorb_front w k xs)
absorbs w k [] is n i g h = h
absorbs w k (x ∷ rest) is n i g h = with_fit w (answer w x) h (answered w k x rest is n i g h)

restarts : (w : World) → FitWorld w → FitWorld (restarted w)
restarts w h =
    let all = fit_more w.records (recovery_records w.records) h.1 (fit_opening (fold w.records)) in
    let f = fold_fits (w.records ++ recovery_records w.records) all in
    let old = h.0 in (
      record { places = f.places; next = f.next; basics = f.basics; sizes = f.sizes; opens = f.opens; within = old.within },
      all,
    )

crashes : (w : World) (k : ℕ) (kept : Bool) → w.moment < 256 ^ 8 → Fits w.server → Asked w → FitWorld w
    → FitWorld (changed w (Crash k kept))
crashes w k true n i g h = restarts (absorb_front w k (w.conns k).up) (absorbs w k (w.conns k).up refl n i g h)
crashes w k false n i g h = restarts w h

-- ---- the client's

closes : (w : World) (k : ℕ) (x : Act) → FitWorld w → FitWorld (closed_by w k x)
closes w k Nothing h = h
closes w k (Sends g) h = h
closes w k (Asks g) h = h
closes w k CloseChannel h = h
closes w k CloseChannels h = h
closes w k AllSettled h = h

cuts_by : (w : World) (k : ℕ) (x : Act) → FitWorld w → FitWorld (cut_by w k x)
cuts_by w k Nothing h = h
cuts_by w k (Sends g) h = h
cuts_by w k (Asks g) h = h
cuts_by w k CloseChannel h = h
cuts_by w k CloseChannels h = h
cuts_by w k AllSettled h = h

pushes_by : (w : World) (k : ℕ) (c : Client) (x : Act) → FitWorld w → FitWorld (pushed_by w k c x)
pushes_by w k c Nothing h = h
pushes_by w k c (Sends g) h = h
pushes_by w k c (Asks g) h = h
pushes_by w k c CloseChannel h = h
pushes_by w k c CloseChannels h = h
pushes_by w k c AllSettled h = h

dialogs : (w : World) (k : ℕ) (r : Reply) (d : DialogStep) → FitWorld w → FitWorld (dialog_took w k r d)
dialogs w k r (GoesOn s) h = h
dialogs w k r Accepts h = h
dialogs w k r Binds h = closes w k (act w.client (IsReady k w.client.session w.client.tree)) h
dialogs w k r Readies h = closes w k (act w.client (IsReady k w.client.pending r.tree_id)) h
dialogs w k r (Refuses status) h = h

takes : (w : World) (k : ℕ) (ys : List Received) → FitWorld w → FitWorld (take_reply w k ys)
takes w k [] h = h
takes w k (y ∷ rest) h = by y.token
  where
    by : (t : Token) → FitWorld (took_by (behind_reply w k rest) k y.reply y.place t)
    by ForDialog = dialogs (behind_reply w k rest) k y.reply (dialog_step (w.client.stage k) y.reply.status) h
    by (ForOp g) = closes (behind_reply w k rest) k _ h
    by (ForAttach g) = closes (behind_reply w k rest) k _ h

cuts : (w : World) (k : ℕ) → FitWorld w → FitWorld (changed w (Cut k))
cuts w k h = either FitWorld (w.client.ready k) _ _ (λ _. cuts_by w k (act w.client (IsCut k)) h) (λ _. h)

fit_on : (w : World) (e : Event) → w.moment < 256 ^ 8 → Fits w.server → Asked w → FitWorld w → FitWorld (happens w e)
fit_on w (Submit g op) n i a h = h
fit_on w (Open k) n i a h =
    either FitWorld (may_open w k) (later (changed w (Open k)) 1) w
    (λ _. with_fit w (step w.server w.moment (Accept k)) h (step_fits w.server w.moment (Accept k) n i tt h.0)) (λ _. h)
fit_on w (Push k slotless pick) n i a h =
    either FitWorld (w.client.ready k) (later (changed w (Push k slotless pick)) 1) w
    (λ _. pushes_by w k (client_after w.client (Pushes k slotless pick)) (act w.client (Pushes k slotless pick)) h) (λ _. h)
fit_on w (Serve k) n i a h =
    either FitWorld (may_serve w k) (later (serve_front w k (w.conns k).up) 1) w (λ _. serves w k (w.conns k).up refl n i a h) (λ _. h)
fit_on w (Take k) n i a h =
    either FitWorld (may_take_reply w k) (later (changed w (Take k)) 1) w (λ _. takes w k (w.conns k).down h) (λ _. h)
fit_on w (Cut k) n i a h = either FitWorld (w.conns k).client_open (later (changed w (Cut k)) 1) w (λ _. cuts w k h) (λ _. h)
fit_on w (Drop k) n i a h =
    either FitWorld (w.conns k).server_open (later (changed w (Drop k)) 1) w
    (λ _. with_fit w (step w.server w.moment (End k)) h (step_fits w.server w.moment (End k) n i tt h.0)) (λ _. h)
fit_on w Restart n i a h = restarts w h
fit_on w (Crash k kept) n i a h =
    either FitWorld (may_serve w k) (later (changed w (Crash k kept)) 1) w (λ _. crashes w k kept n i a h) (λ _. h)
fit_on w (Wait t) n i a h = h
fit_on w (Finish refusal) n i a h =
    either FitWorld (not w.client.live) (later (changed w (Finish refusal)) 1) w (λ _. h) (λ _. h)

-- ---- every run

room_within : (n : ℕ) → min n full_room ≤ full_room
room_within n = omega arith

fit_first : (z : Settings) → FitWorld (start z)
fit_first z =
    let all = fit_opening (fold []) in
    let f = fold_fits (recovery_records []) all in (
      record { places = f.places; next = f.next; basics = f.basics; sizes = f.sizes; opens = f.opens; within = room_within z.room },
      all,
    )

pub moment_fits : (n : ℕ) → n ≤ last_moment → n < 256 ^ 8
moment_fits n l = omega (arith, l)

fit_step : (z : Settings) (xs : List Event) (e : Event) → FitWorld (run xs (start z)) → FitWorld (happens (run xs (start z)) e)
fit_step z xs e h =
    let w = run xs (start z) in
    let f = operations_fit z xs in
    fit_on w e (moment_fits w.moment f.moment) (fitting z xs) (λ k x rest is. asks_fit z xs k x rest is) h

pub fit_world : (z : Settings) (es : List Event) → FitWorld (run es (start z))
fit_world z es = on_every_run (λ w a. FitWorld w) z (fit_first z) (λ xs e h. fit_step z xs e h) es

pub rows_always_fit : RowsAlwaysFit
rows_always_fit z es = let f = fit_world z es in f.0
