-- What comes of the body of an expiry that stands alone.
use Rattle.std.proofs.Common.{◌≡◌, ℕ, List, arith, inl, inr, ◌∙◌}
use Rattle.std.specs.Prelude.{Err}
use Rattle.spec_exchange.specs.State.{Server}
use Rattle.spec_exchange.specs.Step.{expire, with_deadlines}
use Rattle.spec_journal.specs.Forms.{StandsFor}
use Rattle.spec_wire.specs.journal.Moments.{LeavesOnly}
use Rattle.journal.specs.disk_journal.Journal.{JournalState, JournalSettled}
use Rattle.server_checks.specs.Shown.{TablesShown}
use Rattle.server_checks.specs.declared.tables.Tables.{Tables}
use Rattle.server_checks.specs.declared.setups.error.EventError.{EventError}
use Rattle.server_checks.specs.declared.setups.error.EventError.TheVariants.{DiskFault, Memory, Stopped}
use Rattle.server_core.specs.journaled_tables.Alone.{AloneShown, written_as}
use Rattle.server_core.specs.journaled_tables.Counted.{counting}
use Rattle.server_core.specs.declared.journaled_tables.state.ServerState.{ServerState}
use Rattle.server_core.specs.recording.Writes.{WritesBut}
use Rattle.server_core.specs.body_writing.Bodies.{LeavesOf}

-- ---- the disk failed

-- whatever becomes of the tables
pub failed_as : {D : Type 0} (faults : D → ℕ) (old new : ServerState D) (t : Tables) (front : List ℕ) (x : EventError)
    → WritesBut {A = Unit} faults old front (Err x) new → WritesBut faults old front (written_as x) (record new { tables = t })
failed_as faults old new t front Memory w = absurd w
failed_as faults old new t front (DiskFault n) w = w
failed_as faults old new t front (Stopped n) w = absurd w

pub failed_shown : {D : Type 0} (faults : D → ℕ) (old mid new : ServerState D) (s : Server) (now o : ℕ) (front : List ℕ) (x : EventError)
    → WritesBut {A = Unit} faults old front (Err x) mid
    → TablesShown new.tables (counting (expire (with_deadlines s now) o) s.journal) → AloneShown s now o front x new
failed_shown faults old mid new s now o front Memory w h = absurd w
failed_shown faults old mid new s now o front (DiskFault n) w h = h
failed_shown faults old mid new s now o front (Stopped n) w h = absurd w

pub not_memory : {D : Type 0} (faults : D → ℕ) (old new : ServerState D) (front : List ℕ) (x : EventError)
    → WritesBut {A = Unit} faults old front (Err x) new → x ≡ Memory → ⊥
not_memory faults old new front Memory w e = w
not_memory faults old new front (DiskFault n) w e = absurd (cc)
not_memory faults old new front (Stopped n) w e = absurd (cc)

-- ---- nothing was written

stands : {D : Type 0} (seen : D → List ℕ) (may_leave : D → List ℕ → Type 0) (j : JournalState D) (bodies : List (List ℕ))
    → JournalSettled seen may_leave j bodies → (c : List ℕ) → may_leave j.disk c → StandsFor c bodies
stands seen may_leave j bodies s c left = inr (record {
  form = j.form;
  gate = s.gate;
  rest = s.rest;
  spelled = s.durable c left ∙ s.file;
  closed = s.closed;
  fit = s.fit;
})

pub nothing_left : {D : Type 0} (seen : D → List ℕ) (may_leave : D → List ℕ → Type 0) (moment : D → ℕ)
    (left_since : D → ℕ → List ℕ → Type 0) (only_now : (d : D) (c : List ℕ) → left_since d (moment d) c → may_leave d c)
    (j : JournalState D) (bodies : List (List ℕ)) (front : List ℕ) → JournalSettled seen may_leave j bodies
    → LeavesOnly moment left_since j.disk j.disk (LeavesOf bodies front)
nothing_left seen may_leave moment left_since only_now j bodies front s = record {
  later = omega arith;
  each = λ c left. inl (stands seen may_leave j bodies s c (only_now j.disk c left));
  before = λ t c le left. inl left;
}
