-- A body that goes onto the disk: the room for it, what the write comes to, and what a crash meanwhile leaves.
use Rattle.std.specs.Prelude.{◌≡◌, ◌⊎◌, ℕ, ◌+◌, ◌≤◌, false, List, ◌++◌, Option, Some, Result, Ok, Err, ⊤}
use Rattle.spec_journal.specs.Forms.{StandsFor}
use Rattle.journal.specs.disk_journal.Journal.{Allows, JournalState}
use Rattle.journal.specs.declared.disk_journal.journal.JournalError.{JournalError}
use Rattle.journal.specs.declared.disk_journal.journal.JournalError.TheVariants as causes
use Rattle.journal_bytes.specs.record_bodies.Body.{added_by, bodies_of}
use Rattle.server_checks.specs.declared.setups.error.EventError.{EventError}
use Rattle.server_checks.specs.declared.setups.error.EventError.TheVariants.{Memory, DiskFault, Stopped}
use Rattle.base_outside.specs.streams.Faults.{Rose}

-- room for a body of so many bytes; none wants none
abbrev pub HasBodyRoom : {D : Type 0} → JournalState D → ℕ → Type 0
HasBodyRoom journal n = (n ≡ 0) ⊎ (Allows journal n false × (n + 5 ≤ journal.room))

-- memory ran out, or the journal stopped before
abbrev pub IsLack : {D : Type 0} → JournalState D → EventError → Type 0
IsLack journal Memory = ⊤
IsLack journal (DiskFault count) = ⊥
IsLack journal (Stopped count) = journal.stopped ≡ Some count

-- the journal uses a body more, or the disk failed and the journal stopped
abbrev pub WritesBody : {D : Type 0} → (D → ℕ) → JournalState D → List ℕ → Result Unit EventError → JournalState D → Type 0
WritesBody faults old body (Ok u) new = (new.stopped ≡ old.stopped) × (new.used ≡ old.used + added_by body)
WritesBody faults old body (Err Memory) new = ⊥
WritesBody faults old body (Err (DiskFault count)) new = (new.stopped ≡ Some count) × Rose (faults old.disk) count
    × (count ≡ faults new.disk)
WritesBody faults old body (Err (Stopped count)) new = ⊥

-- a crash leaves the bodies before, or these and this one
abbrev pub LeavesOf : List (List ℕ) → List ℕ → List ℕ → Type 0
LeavesOf bodies body bytes = StandsFor bytes bodies ⊎ StandsFor bytes (bodies ++ bodies_of body)

-- a refusal of the journal, of which the others count as memory that ran out
abbrev pub event_error_of : JournalError → EventError
event_error_of causes.Memory = Memory
event_error_of (causes.DiskFault count) = DiskFault count
event_error_of (causes.NotAJournal at) = Memory
event_error_of (causes.Full would limit) = Memory
event_error_of (causes.Stopped count) = Stopped count

-- the count at which a call of the disk failed
abbrev pub stopped_by : EventError → Option ℕ → Option ℕ
stopped_by Memory stopped = stopped
stopped_by (DiskFault count) stopped = Some count
stopped_by (Stopped count) stopped = stopped
