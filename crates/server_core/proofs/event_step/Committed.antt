-- What a commit comes to for the event: its answer with the state behind it, or the disk's failure.
use Rattle.std.proofs.Common.{◌≡◌, inl, inr, ℕ, ◌+◌, Bool, true, false, if◌then◌else◌, List, ◌++◌, Result, Ok, Err}
use Rattle.std.proofs.Common.{OnOk, None, refl, sym, ap, subst, ◌∙◌}
use Rattle.spec_exchange.specs.Records.{fits}
use Rattle.spec_exchange.specs.State as model
use Rattle.spec_exchange.specs.Step.{Ruling, carried_out, event_answer, ruling, ruling_without_room, step, with_deadlines, written_down}
use Rattle.law_snapshots.specs.snapshots.Pieces.{SnapshotPiece}
use Rattle.server_core.proofs.journaled_tables.Answered.{Comes, answered, faulted}
use Rattle.server_core.proofs.journaled_tables.Laws.{Bodies, Steps}
use Rattle.journal.specs.disk_journal.Journal.{JournalState, OnlyRoom, JournalSettled}
use Rattle.server_checks.specs.event_heard.Heard.{event_of, heard_event}
use Rattle.server_checks.specs.declared.event_heard.asked.Asked.{Asked}
use Rattle.server_checks.specs.declared.event_heard.event.ServerEvent.{ServerEvent}
use Rattle.journal_bytes.specs.record_bodies.Body.{IsBodyOf, added_by, bodies_of}
use Rattle.server_checks.specs.Shown.{TablesShown}
use Rattle.server_checks.specs.declared.tables.Config.{Config}
use Rattle.server_core.specs.commit_event.Commits.{BesideCommitted, Commits}
use Rattle.server_effects.specs.declared.answering.Answer.{Answer}
use Rattle.server_checks.specs.setups.Setups.{progress_of}
use Rattle.server_checks.specs.declared.setups.error.EventError.{EventError}
use Rattle.server_core.specs.journaled_tables.Beside.{logons_behind}
use Rattle.server_core.specs.journaled_tables.Counted.{counting}
use Rattle.server_core.specs.journaled_tables.Heard.{IsJournaledHeard}
use Rattle.server_core.specs.journaled_tables.Holds.{EventAnswers, JournaledHeld}
use Rattle.server_core.specs.journaled_tables.Rulings.{MayRule}
use Rattle.server_core.specs.declared.journaled_tables.state.ServerState.{ServerState}
use Rattle.law_server.specs.tables.Fits.{Fits}
use Rattle.server_effects.specs.prepared_event.Prepared.{IsPrepared, prepared_ruling}
use Rattle.server_effects.specs.declared.prepared_event.prepared.Prepared.{Prepared}
use Rattle.server_core.specs.recording.Writes.{WritesBut}
use Rattle.server_plan.specs.rulings.Rulings.{AbleToRule}
use Rattle.server_plan.specs.logon_steps.Steps.{PreparedStep}
use Rattle.server_checks.specs.session_table.Logons.{LogonsShown}
use Rattle.spec_crypto.specs.tokens.Tokens.{Users}
use Rattle.spec_world.specs.Ends.{Logons}

committed_own : {D : Type 0} (told : Type 0) (seen : D → List ℕ) (may_leave : D → List ℕ → Type 0)
    (base : List SnapshotPiece) (faults : D → ℕ)
    (old mid new : ServerState D) (s y : model.Server) (L : Logons) (records : List model.Record) (now : ℕ) (e : ServerEvent)
    (B : model.Answer) (all : List model.Record) (body : List ℕ) (result : Result Answer EventError) → Bodies → Steps
    → old.stopped ≡ None → faults mid.journal.disk ≡ faults old.journal.disk → JournaledHeld told seen may_leave base mid s records
    → Comes s now (heard_event new.tables.config.users L s e) (record B { records = all }) body → y.journal ≡ s.journal
    → Commits y B body result new
    → BesideCommitted new new.tables.config.users L e now (progress_of (heard_event new.tables.config.users L s e) B.reply) result
    → WritesBut faults mid body result new
    → (told → (bodies : List (List ℕ)) → JournalSettled seen may_leave mid.journal bodies
    → OnOk result (JournalSettled seen may_leave new.journal (bodies ++ bodies_of body)))
    → EventAnswers told seen may_leave base faults old new new.tables.config.users s L records now e result
committed_own told seen may_leave base faults old mid new s y L records now e B all body (Ok r) law steps none same h k j c b w g =
    answered told seen may_leave base mid new s L records now e (record B { records = all }) body r law steps h k c.0 c.1
    (subst (λ (n : ℕ). TablesShown new.tables (counting B.server (n + added_by body))) j c.2) b
    (record { same = w.0; journal_same = w.1; used = w.2; settled = g })
committed_own told seen may_leave base faults old mid new s y L records now e B all body (Err x) law steps none same h k j c b w g =
    let users = new.tables.config.users in
    let ev = heard_event users L s e in
    faulted told seen may_leave base faults old mid new s L records now ev (record B { records = all }) body
    (logons_behind users L e now (progress_of ev (step s now ev).reply)) x none same k
    (subst (λ (n : ℕ). TablesShown new.tables (counting B.server n)) j c)
    (subst (λ (r : model.Reply). LogonsShown new.tables.sessions (logons_behind users L e now (progress_of ev r)).keys
    (logons_behind users L e now (progress_of ev r)).pending) (sym (ap (λ (A : model.Answer). A.reply) k.step_is)) b) w

-- what `commit` says
pub record Committing {D : Type 0} (told : Type 0) (seen : D → List ℕ) (may_leave : D → List ℕ → Type 0) (faults : D → ℕ)
    (mid new : ServerState D) (a : Asked) (p : Prepared) (body : List ℕ) (now : ℕ) (result : Result Answer EventError) : Type 0 where
  pub shown : (s : model.Server) → Fits s → IsPrepared mid.tables s now (event_of a) p → AbleToRule s (prepared_ruling (event_of a) p)
      → Commits s (carried_out (with_deadlines s now) now (prepared_ruling (event_of a) p)) body result new
  pub beside : (users : Users) (s : model.Server) (L : Logons) (e : ServerEvent) → Fits s → IsPrepared mid.tables s now (event_of a) p
      → MayRule s (event_of a) (prepared_ruling (event_of a) p) → AbleToRule s (prepared_ruling (event_of a) p)
      → IsJournaledHeard users L s e a
      → LogonsShown mid.tables.sessions L.keys L.pending → PreparedStep L a now p
      → BesideCommitted new users L e now (progress_of (heard_event users L s e)
      (carried_out (with_deadlines s now) now (prepared_ruling (event_of a) p)).reply) result
  pub writes : WritesBut faults mid body result new
  pub acknowledged : told → (bodies : List (List ℕ)) → JournalSettled seen may_leave mid.journal bodies
      → OnOk result (JournalSettled seen may_leave new.journal (bodies ++ bodies_of body))
  pub config : new.tables.config ≡ mid.tables.config

-- the event is prepared on a state, from which it is carried out: that before it, or the one without an open that expired
pub record Carrying {D : Type 0} (told : Type 0) (seen : D → List ℕ) (may_leave : D → List ℕ → Type 0)
    (base : List SnapshotPiece) (old mid : ServerState D)
    (users : Users) (s y : model.Server) (L : Logons) (records : List model.Record) (now : ℕ) (e : ServerEvent) (a : Asked)
    (p : Prepared) (body : List ℕ) (all : List model.Record) : Type 0 where
  pub none : old.stopped ≡ None
  pub room : OnlyRoom old.journal mid.journal
  pub held : JournaledHeld told seen may_leave base mid s records
  pub users_are : users ≡ mid.tables.config.users
  pub heard : IsJournaledHeard users L y e a
  pub same : heard_event users L y e ≡ heard_event users L s e
  pub fits : Fits y
  pub prepared : IsPrepared mid.tables y now (event_of a) p
  pub may : MayRule y (event_of a) (prepared_ruling (event_of a) p)
  pub able : AbleToRule y (prepared_ruling (event_of a) p)
  pub logons : LogonsShown mid.tables.sessions L.keys L.pending
  pub step : PreparedStep L a now p
  pub count : y.journal ≡ s.journal
  pub comes : Comes s now (heard_event users L s e)
      (record (carried_out (with_deadlines y now) now (prepared_ruling (event_of a) p)) { records = all }) body

pub event_carried : {D : Type 0} (told : Type 0) (seen : D → List ℕ) (may_leave : D → List ℕ → Type 0)
    (base : List SnapshotPiece) (faults : D → ℕ)
    (old mid new : ServerState D) (users : Users) (s y : model.Server) (L : Logons) (records : List model.Record) (now : ℕ)
    (e : ServerEvent) (a : Asked) (p : Prepared) (body : List ℕ) (all : List model.Record)
    (result : Result Answer EventError) → Bodies → Steps
    → Committing told seen may_leave faults mid new a p body now result
    → Carrying told seen may_leave base old mid users s y L records now e a p body all
    → EventAnswers told seen may_leave base faults old new users s L records now e result
event_carried {D} told seen may_leave base faults old mid new users s y L records now e a p body all result law steps k f =
    let B = carried_out (with_deadlines y now) now (prepared_ruling (event_of a) p) in
    subst (λ (us : Users). Comes s now (heard_event us L s e) (record B { records = all }) body
    → BesideCommitted new us L e now (progress_of (heard_event us L s e) B.reply) result
    → EventAnswers told seen may_leave base faults old new us s L records now e result)
    (ap (λ (z : Config). z.users) k.config ∙ sym f.users_are)
    (λ comes beside. committed_own told seen may_leave base faults old mid new s y L records now e B all body result law steps f.none
    (ap (λ (j : JournalState D). faults j.disk) f.room.0) f.held comes f.count (k.shown y f.fits f.prepared f.able)
    beside k.writes k.acknowledged)
    f.comes
    (subst (λ (v : model.ServerEvent). BesideCommitted new users L e now (progress_of v B.reply) result) f.same
    (k.beside users y L e f.fits f.prepared f.may f.able f.heard f.logons f.step))

-- ---- alone

may_fit : (s : model.Server) (x : model.ServerEvent) (b : Bool) → MayRule s x (if b then ruling s x else ruling_without_room (ruling s x))
may_fit s x true = inl refl
may_fit s x false = inr refl

pub may_plan : (s : model.Server) (now : ℕ) (x : model.ServerEvent) (r : Ruling)
    → r ≡ (if fits s (carried_out s now (ruling s x)).records then ruling s x else ruling_without_room (ruling s x)) → MayRule s x r
may_plan s now x r e = subst (λ (q : Ruling). MayRule s x q) (sym e) (may_fit s x (fits s (carried_out s now (ruling s x)).records))

-- what `expiring_law` and `carried_law` say of it
pub record AloneLaws : Type 0 where
  pub alone : (s : model.Server) (now : ℕ) (e : model.ServerEvent) → event_answer (with_deadlines s now) now e
      ≡ carried_out (with_deadlines s now) now
      (if fits s (carried_out s now (ruling s e)).records then ruling s e else ruling_without_room (ruling s e))
  pub records : (s : model.Server) (now : ℕ) (e : model.ServerEvent)
      → (event_answer (with_deadlines s now) now e).records ≡ (event_answer s now e).records
  pub counts : (s : model.Server) (now : ℕ) (r : Ruling) → (carried_out s now r).server.journal ≡ s.journal

pub alone_comes : AloneLaws → (s : model.Server) (now : ℕ) (ev x : model.ServerEvent) (r : Ruling) (body : List ℕ)
    → step s now ev ≡ written_down (event_answer (with_deadlines s now) now x)
    → r ≡ (if fits s (carried_out s now (ruling s x)).records then ruling s x else ruling_without_room (ruling s x))
    → IsBodyOf body (event_answer s now x).records
    → let B = carried_out (with_deadlines s now) now r in Comes s now ev (record B { records = B.records }) body
alone_comes law s now ev x r body is e b =
    let d = with_deadlines s now in
    let same = law.alone s now x ∙ ap (λ (q : Ruling). carried_out d now q) (sym e) in record {
      step_is = is ∙ ap written_down same;
      count = law.counts d now r;
      written = subst (λ (rs : List model.Record). IsBodyOf body rs) (sym (law.records s now x)
          ∙ ap (λ (A : model.Answer). A.records) same) b;
    }
