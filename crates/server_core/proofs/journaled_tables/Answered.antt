-- What an event that was carried out answers, behind its body or where the disk failed.
use Rattle.std.proofs.Common.{◌≡◌, inl, ℕ, ◌+◌, List, Err, None, sym, ap, subst, ◌∙◌}
use Rattle.wire_commands.specs.values.Meaning.{reply_of}
use Rattle.spec_exchange.specs.Records.{entry_bytes}
use Rattle.spec_exchange.specs.State as model
use Rattle.spec_exchange.specs.Step.{step, written_down}
use Rattle.server_checks.specs.event_heard.Heard.{heard_event}
use Rattle.server_checks.specs.declared.event_heard.event.ServerEvent.{ServerEvent}
use Rattle.journal_bytes.specs.record_bodies.Body.{IsBodyOf, added_by}
use Rattle.server_checks.specs.Shown.{TablesShown}
use Rattle.server_effects.specs.declared.answering.Answer.{Answer}
use Rattle.server_checks.specs.setups.Setups.{progress_of}
use Rattle.server_checks.specs.declared.setups.error.EventError.{EventError}
use Rattle.server_checks.specs.declared.setups.error.EventError.TheVariants.{Memory, DiskFault, Stopped}
use Rattle.law_snapshots.specs.snapshots.Pieces.{SnapshotPiece}
use Rattle.server_core.specs.journaled_tables.Beside.{BesideCarried, logons_behind}
use Rattle.server_core.specs.journaled_tables.Counted.{counting}
use Rattle.server_core.specs.journaled_tables.Holds.{EventRefused, JournaledHeld, StepAnswers, uncounted}
use Rattle.server_core.specs.journaled_tables.Shown.{ServerShown}
use Rattle.server_core.specs.declared.journaled_tables.state.ServerState.{ServerState}
use Rattle.server_core.specs.recording.Writes.{WritesBut}
use Rattle.server_core.proofs.journaled_tables.Behind.{Written, holds_more}
use Rattle.server_core.proofs.journaled_tables.Laws.{Bodies, Steps, follows}
use Rattle.server_checks.specs.session_table.Logons.{LogonsShown}
use Rattle.base_outside.specs.streams.Faults.{Rose}
use Rattle.spec_world.specs.Ends.{Logons}

-- what the event comes to, before its bytes are counted
pub record Comes (s : model.Server) (now : ℕ) (ev : model.ServerEvent) (C : model.Answer) (body : List ℕ) : Type 0 where
  pub step_is : step s now ev ≡ written_down C
  pub count : C.server.journal ≡ s.journal
  pub written : IsBodyOf body C.records

-- the bytes of its records are those of its body
counted : Bodies → (s : model.Server) (now : ℕ) (ev : model.ServerEvent) (C : model.Answer) (body : List ℕ) → Comes s now ev C body
    → (written_down C).server ≡ counting C.server (s.journal + added_by body)
counted law s now ev C body k =
    ap (λ (n : ℕ). counting C.server n) (ap (λ (n : ℕ). n + entry_bytes C.records) k.count
    ∙ ap (λ (n : ℕ). s.journal + n) (sym (law.added body C.records k.written)))

pub answered : {D : Type 0} (told : Type 0) (seen : D → List ℕ) (may_leave : D → List ℕ → Type 0)
    (base : List SnapshotPiece) (old new : ServerState D)
    (s : model.Server) (L : Logons) (records : List model.Record) (now : ℕ) (e : ServerEvent) (C : model.Answer)
    (body : List ℕ) (r : Answer)
    → Bodies → Steps → JournaledHeld told seen may_leave base old s records
    → let ev = heard_event new.tables.config.users L s e in Comes s now ev C body
    → reply_of r.reply ≡ C.reply → r.acted ≡ C.acted → TablesShown new.tables (counting C.server (s.journal + added_by body))
    → BesideCarried new.tables new.tables.config.users L e now (progress_of ev C.reply) r
    → Written told seen may_leave old new body
    → StepAnswers told seen may_leave base new s L records now e r (step s now ev)
answered told seen may_leave base old new s L records now e C body r law steps h k reply acted shown beside w =
    let ev = heard_event new.tables.config.users L s e in
    let is = counted law s now ev C body k in
    let p = progress_of ev C.reply in
    subst (λ (A : model.Answer). StepAnswers told seen may_leave base new s L records now e r A) (sym k.step_is) (
      w.same ∙ h.goes_on,
      reply,
      acted,
      beside.1,
      holds_more told seen may_leave base old new s (written_down C).server (logons_behind new.tables.config.users L e now p)
          records C.records body law h
          (follows steps s now ev (written_down C) h.fits k.step_is) k.written (ap (λ (u : model.Server). u.journal) is) w (record {
            tables = subst (λ (u : model.Server). TablesShown new.tables u) (sym is) shown;
            logons = beside.0;
          }),
    )

-- the disk failed: the tables have the change, without its bytes
pub faulted : {D : Type 0} (told : Type 0) (seen : D → List ℕ) (may_leave : D → List ℕ → Type 0)
    (base : List SnapshotPiece) (faults : D → ℕ)
    (old mid new : ServerState D)
    (s : model.Server) (L : Logons) (records : List model.Record) (now : ℕ) (ev : model.ServerEvent) (C : model.Answer) (body : List ℕ)
    (M : Logons) (x : EventError) → old.stopped ≡ None → faults mid.journal.disk ≡ faults old.journal.disk → Comes s now ev C body
    → TablesShown new.tables (counting C.server s.journal) → LogonsShown new.tables.sessions M.keys M.pending
    → WritesBut {A = Answer} faults mid body (Err x) new → EventRefused told seen may_leave base faults x old new s L records now ev M
faulted told seen may_leave base faults old mid new s L records now ev C body M Memory none same k shown logons w = absurd w
faulted told seen may_leave base faults old mid new s L records now ev C body M (DiskFault n) none same k shown logons w = (
  none,
  w.0,
  subst (λ (f : ℕ). Rose f n) same w.2,
  w.3,
  inl (subst (λ (A : model.Answer). ServerShown new.tables (uncounted s A.server) M) (sym k.step_is) (record {
    tables = shown;
    logons = logons;
  })),
)
faulted told seen may_leave base faults old mid new s L records now ev C body M (Stopped n) none same k shown logons w = absurd w
