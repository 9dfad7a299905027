-- A server that writes its journal anew: what that comes to, and what a crash meanwhile leaves.
use Rattle.std.specs.Prelude.{◌≡◌, ◌⊎◌, ℕ, List, [], Bool, true, false, Option, Some, None, Result, Ok, Err, ⊤}
use Rattle.spec_exchange.specs.State as model
use Rattle.spec_journal.specs.Forms.{StandsFor}
use Rattle.spec_world.specs.Ends.{Logons}
use Rattle.base_outside.specs.streams.Faults.{Rose}
use Rattle.law_snapshots.specs.snapshots.Pieces.{SnapshotPiece}
use Rattle.journal.specs.disk_journal.Journal.{JournalState, JournalSettled}
use Rattle.journal.specs.disk_journal.Rewrite.{DraftStops}
use Rattle.journal.specs.declared.disk_journal.journal.JournalError.{JournalError}
use Rattle.journal.specs.declared.disk_journal.journal.JournalError.TheVariants as causes
use Rattle.server_checks.specs.declared.setups.error.EventError.{EventError}
use Rattle.server_checks.specs.declared.setups.error.EventError.TheVariants.{Memory, DiskFault, Stopped}
use Rattle.server_core.specs.Over.{StandsOver}
use Rattle.server_core.specs.Reading.{SpellOver}
use Rattle.server_core.specs.journaled_tables.Counted.{counting}
use Rattle.server_core.specs.journaled_tables.Holds.{HoldsOver}
use Rattle.server_core.specs.journaled_tables.Shown.{ServerShown}
use Rattle.server_core.specs.snapshot_writing.Told.{IsDraftWritten}
use Rattle.server_core.specs.snapshot_writing.Whole.{IsSnapshotOf}
use Rattle.server_core.specs.declared.journaled_tables.state.ServerState.{ServerState}

-- ---- a server

-- It was done: the state is as before but for the bytes that the journal uses, and a snapshot stands for it, without records behind it.
-- Or it was given up, and all goes on as before; or the disk failed, now or before.
abbrev pub Compacts : {D : Type 0} → Type 0 → (D → List ℕ) → (D → List ℕ → Type 0) → (D → ℕ) → List SnapshotPiece → ServerState D
    → ServerState D → model.Server → Logons → List model.Record → Result Bool EventError → Type 0
Compacts told seen may_leave faults base old new s L records (Ok true) = (old.stopped ≡ None) × (new.stopped ≡ None)
    × (next : List SnapshotPiece) × HoldsOver told seen may_leave next new (counting s new.journal.used) L []
Compacts told seen may_leave faults base old new s L records (Ok false) = (old.stopped ≡ None) × (new.stopped ≡ None)
    × HoldsOver told seen may_leave base new s L records
Compacts told seen may_leave faults base old new s L records (Err Memory) = ⊥
Compacts told seen may_leave faults base old new s L records (Err (DiskFault count)) = (old.stopped ≡ None)
    × (new.stopped ≡ Some count) × Rose (faults old.journal.disk) count × (count ≡ faults new.journal.disk) × ServerShown new.tables s L
Compacts told seen may_leave faults base old new s L records (Err (Stopped count)) = (old.stopped ≡ Some count) × (new ≡ old)

-- bytes stand for the server by a snapshot alone
abbrev pub StandsAnew : model.Server → List ℕ → Type 0
StandsAnew s bytes = (next : List SnapshotPiece) × (front : List (List ℕ)) × StandsFor bytes front × SpellOver next front []
    × StandsOver next [] s

-- a crash leaves the bodies before, or such a snapshot
abbrev pub CompactionLeaves : model.Server → List (List ℕ) → List ℕ → Type 0
CompactionLeaves s bodies bytes = StandsFor bytes bodies ⊎ StandsAnew s bytes

-- a server that answers goes on; one that has stopped tells the count at which it did
abbrev pub CompactionHalts : Option ℕ → Option ℕ → Result Bool EventError → Type 0
CompactionHalts old new (Ok done) = (old ≡ None) × (new ≡ None)
CompactionHalts old new (Err Memory) = ⊥
CompactionHalts old new (Err (DiskFault count)) = (old ≡ None) × (new ≡ Some count)
CompactionHalts old new (Err (Stopped count)) = (new ≡ Some count) × ((n : ℕ) → old ≡ Some n → count ≡ n)

-- where a server stops, by why it didn't write its journal anew
abbrev pub stop_of : EventError → Option ℕ
stop_of Memory = None
stop_of (DiskFault count) = Some count
stop_of (Stopped count) = Some count

-- ---- its journal

-- what writing it anew comes to
abbrev pub JournalRewrites : {D : Type 0} → (D → ℕ) → JournalState D → Result Bool EventError → JournalState D → Type 0
JournalRewrites faults old (Ok true) new = (old.stopped ≡ None) × (new.stopped ≡ None) × (faults new.disk ≡ faults old.disk)
JournalRewrites faults old (Ok false) new = (old.stopped ≡ None) × IsDraftWritten faults old new
JournalRewrites faults old (Err Memory) new = ⊥
JournalRewrites faults old (Err (DiskFault count)) new = DraftStops faults count old new
JournalRewrites faults old (Err (Stopped count)) new = (old.stopped ≡ Some count) × (new ≡ old)

-- a refusal of the journal that is no fault of its disk gives the draft up
abbrev pub given_up_by : JournalError → Result Bool EventError
given_up_by causes.Memory = Ok false
given_up_by (causes.DiskFault count) = Err (DiskFault count)
given_up_by (causes.NotAJournal at) = Ok false
given_up_by (causes.Full would limit) = Ok false
given_up_by (causes.Stopped count) = Err (Stopped count)

-- it has the bodies of a snapshot
abbrev pub IsAnew : {D : Type 0} → Type 0 → (D → List ℕ) → (D → List ℕ → Type 0) → JournalState D → model.Server → Type 0
IsAnew told seen may_leave journal s = (bodies : List (List ℕ)) × IsSnapshotOf s bodies
    × (told → JournalSettled seen may_leave journal bodies)

-- it has them where it was done, and else those that it had
abbrev pub HasNewBodies : {D : Type 0} → Type 0 → (D → List ℕ) → (D → List ℕ → Type 0) → JournalState D → model.Server
    → Result Bool EventError → Type 0
HasNewBodies told seen may_leave journal s (Ok true) = IsAnew told seen may_leave journal s
HasNewBodies told seen may_leave journal s (Ok false) = ⊤
HasNewBodies told seen may_leave journal s (Err x) = ⊤

abbrev pub HasOldBodies : {D : Type 0} → (D → List ℕ) → (D → List ℕ → Type 0) → JournalState D → List (List ℕ) → Result Bool EventError
    → Type 0
HasOldBodies seen may_leave journal bodies (Ok true) = ⊤
HasOldBodies seen may_leave journal bodies (Ok false) = JournalSettled seen may_leave journal bodies
HasOldBodies seen may_leave journal bodies (Err x) = ⊤

-- a crash leaves the bodies before, or those of a snapshot
abbrev pub RewriteLeaves : model.Server → List (List ℕ) → List ℕ → Type 0
RewriteLeaves s bodies bytes = StandsFor bytes bodies ⊎ ((front : List (List ℕ)) × IsSnapshotOf s front × StandsFor bytes front)
