-- What an event answers that found no memory: the state is as before, or one open has expired alone.
use Rattle.std.proofs.Common.{◌≡◌, inr, ℕ, ◌+◌, List, ◌++◌, Some, None, refl, sym, ap, subst, ◌∙◌}
use Rattle.std.proofs.Common.{nat_le, false, true}
use Rattle.spec_exchange.specs.Records.{entry_bytes, fits}
use Rattle.spec_exchange.specs.State as model
use Rattle.spec_exchange.specs.Step.{due, expire, max_expired_guids, with_deadlines}
use Rattle.journal.specs.disk_journal.Journal.{JournalSettled}
use Rattle.journal_bytes.specs.record_bodies.Body.{IsBodyOf, added_by, bodies_of}
use Rattle.server_checks.specs.Shown.{TablesShown}
use Rattle.server_checks.specs.declared.setups.error.EventError.{EventError}
use Rattle.server_checks.specs.declared.setups.error.EventError.TheVariants.{Memory, DiskFault, Stopped}
use Rattle.law_snapshots.specs.snapshots.Pieces.{SnapshotPiece}
use Rattle.server_core.specs.journaled_tables.Counted.{counting, front_of}
use Rattle.server_core.specs.journaled_tables.Holds.{EventRefused, JournaledHeld}
use Rattle.server_core.specs.declared.journaled_tables.state.ServerState.{ServerState}
use Rattle.server_core.specs.journaled_tables.Alone.{AloneShown, written_as}
use Rattle.server_core.specs.recording.Writes.{WritesBut}
use Rattle.server_core.proofs.journaled_tables.Behind.{holds_more}
use Rattle.server_core.proofs.journaled_tables.Laws.{Bodies, Expiries, follows_alone}
use Rattle.server_checks.specs.session_table.Logons.{LogonsShown}
use Rattle.base_outside.specs.streams.Faults.{Rose}
use Rattle.spec_world.specs.Ends.{Logons}
use Rattle.spec_world.specs.Lacking.{Expires, alone_records, expired_alone}

-- an open is due, and may expire, with a body for its records
pub record Due (s : model.Server) (now : ℕ) (ev : model.ServerEvent) (o : ℕ) (front : List ℕ) : Type 0 where
  pub is_due : due (with_deadlines s now) now ≡ Some o
  pub kept : nat_le max_expired_guids s.expired_count ≡ false
  pub room : fits s (front_of s ev o) ≡ true
  pub body : IsBodyOf front (front_of s ev o)
  -- `dated_law`'s front: as without the first deadlines
  pub front_is : alone_records s now ev o ≡ front_of s ev o

pub expires : (s : model.Server) (now : ℕ) (ev : model.ServerEvent) (o : ℕ) (front : List ℕ) → Due s now ev o front
    → Expires s now ev (expired_alone s now ev o) o
expires s now ev o front d = record {
  is_due = d.is_due;
  kept = d.kept;
  room = ap (fits s) d.front_is ∙ d.room;
  behind = refl;
}

counted : Bodies → (s : model.Server) (now : ℕ) (ev : model.ServerEvent) (o : ℕ) (front : List ℕ) → Due s now ev o front
    → s.journal + entry_bytes (alone_records s now ev o) ≡ s.journal + added_by front
counted law s now ev o front d =
    ap (λ (rs : List model.Record). s.journal + entry_bytes rs) d.front_is
    ∙ ap (λ (n : ℕ). s.journal + n) (sym (law.added front (front_of s ev o) d.body))

pub lone : {D : Type 0} (told : Type 0) (seen : D → List ℕ) (may_leave : D → List ℕ → Type 0)
    (base : List SnapshotPiece) (faults : D → ℕ) (old mid new : ServerState D)
    (s : model.Server) (L M : Logons) (records : List model.Record) (now : ℕ) (ev : model.ServerEvent) (o : ℕ) (front : List ℕ)
    (x : EventError) → Bodies → Expiries → old.stopped ≡ None → faults mid.journal.disk ≡ faults old.journal.disk
    → JournaledHeld told seen may_leave base mid s records → Due s now ev o front → LogonsShown new.tables.sessions L.keys L.pending
    → AloneShown s now o front x new → WritesBut faults mid front (written_as x) new
    → (told → (bodies : List (List ℕ)) → JournalSettled seen may_leave mid.journal bodies → x ≡ Memory
    → JournalSettled seen may_leave new.journal (bodies ++ bodies_of front))
    → EventRefused told seen may_leave base faults x old new s L records now ev M
lone told seen may_leave base faults old mid new s L M records now ev o front Memory law more none same h d logons shown w settled = (
  w.0 ∙ h.goes_on,
  inr (
    o,
    expired_alone s now ev o,
    expires s now ev o front d,
    holds_more told seen may_leave base mid new s (expired_alone s now ev o) L records (alone_records s now ev o) front law h
        (follows_alone more s now ev (expired_alone s now ev o) o h.fits (expires s now ev o front d)
        (more.version_alone (with_deadlines s now) o))
        (subst (λ (rs : List model.Record). IsBodyOf front rs) (sym d.front_is) d.body) (counted law s now ev o front d) (record {
          same = w.0;
          journal_same = w.1;
          used = w.2;
          settled = λ tells bodies b. settled tells bodies b refl;
        }) (record {
          tables = subst (λ (n : ℕ). TablesShown new.tables (counting (expire (with_deadlines s now) o) n))
              (sym (counted law s now ev o front d)) shown;
          logons = logons;
        }),
  ),
)
lone told seen may_leave base faults old mid new s L M records now ev o front
    (DiskFault n) law more none same h d logons shown w settled = (
      none,
      w.0,
      subst (λ (f : ℕ). Rose f n) same w.2,
      w.3,
      inr (
        o,
        expired_alone s now ev o,
        expires s now ev o front d,
        record { tables = shown; logons = logons },
      ),
    )
lone told seen may_leave base faults old mid new s L M records now ev o front (Stopped n) law more none same h d logons shown
    w settled = absurd w
