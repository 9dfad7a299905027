-- What a restart answers of a disk.
use Rattle.std.specs.Prelude.{◌≡◌, ◌⊎◌, ℕ, ◌+◌, ◌<◌, ◌≤◌, min, List, [], ◌∷◌, ◌++◌, length, take, slice_get, Some, true, Result, Ok, Err, ⊤}
use Rattle.std.specs.Prelude.{None}
use Rattle.base_outside.specs.streams.Disk.{Only}
use Rattle.wire_commands.specs.values.Meaning.{address_of}
use Rattle.spec_exchange.specs.Fold.{Configuration, full_room}
use Rattle.spec_exchange.specs.Records.{entry_bytes}
use Rattle.spec_exchange.specs.State as model
use Rattle.spec_wire.specs.journal.Grammar.{front}
use Rattle.spec_journal.specs.Forms.{StandsFor, BreaksAt, GateStands}
use Rattle.spec_wire.specs.journal.Moments.{LeavesOnly, Quiet}
use Rattle.journal.specs.disk_journal.Journal.{JournalState, FailedAt, JournalSettled, journal_capped}
use Rattle.journal.specs.declared.disk_journal.journal.JournalError.{JournalError}
use Rattle.journal.specs.declared.disk_journal.journal.JournalError.TheVariants as causes
use Rattle.law_records.specs.recovery.Recovers.{RecordRecovers}
use Rattle.law_records.specs.recovery.Restarted.{Bare}
use Rattle.law_snapshots.specs.snapshots.Pieces.{SnapshotPiece}
use Rattle.server_checks.specs.Shown.{TablesShown}
use Rattle.server_checks.specs.declared.tables.Config.{Config}
use Rattle.server_checks.specs.declared.tables.Tables.{Tables}
use Rattle.law_server.specs.tables.Fits.{Fits, all_sound}
use Rattle.server_core.specs.Over.{StandsOver, begun_over, opening_over, opened_over}
use Rattle.server_core.specs.Reading.{NoServerAdds, SpellOver}
use Rattle.server_checks.specs.session_table.Logons.{LogonsShown}
use Rattle.spec_world.specs.Ends.{no_logons}

-- ---- the state

-- what a configuration tells the model; more than the full room counts as that
abbrev pub configuration_of : Config → Configuration
configuration_of z = record {
  share = z.share;
  room = min z.room full_room;
  encrypts = z.encrypts;
  address = address_of z.address;
}

-- the state under a configuration, behind a journal of so many bytes
abbrev pub configured : model.Server → Configuration → ℕ → model.Server
configured s z journal = record s { share = z.share; room = z.room; encrypts = z.encrypts; address = z.address; journal = journal }

-- no session has begun in this epoch, and there is no connection
abbrev pub IsServerBegun : model.Server → Type 0
IsServerBegun s = Bare s × s.session_ids_given ≡ 0

-- the tables show the state that a start makes of a base and these records, which fits together and for which both stand with what it adds
pub record IsRecovered (z : Config) (t : Tables) (bytes : ℕ) (base : List SnapshotPiece) (records : List model.Record) : Type 0 where
  pub shown : TablesShown t (begun_over (configuration_of z) bytes base records)
  pub logons : LogonsShown t.sessions no_logons.keys no_logons.pending
  pub fits : Fits (begun_over (configuration_of z) bytes base records)
  pub version : (begun_over (configuration_of z) bytes base records).version ≡ 2
  pub sound : all_sound (opened_over base records) ≡ true
  pub for_state : StandsOver base (opened_over base records) (begun_over (configuration_of z) bytes base records)
  pub plain : base ≡ [] → RecordRecovers (opened_over base records) (begun_over (configuration_of z) bytes base records)

-- ---- the disk

-- the disk stood for this base and these records, and the journal stands for these and what the recovery adds, in one body
pub record StandsBehind {D : Type 0} (seen : D → List ℕ) (may_leave : D → List ℕ → Type 0) (disk : D) (journal : JournalState D)
    (bytes : ℕ) (base : List SnapshotPiece) (records : List model.Record) : Type 0 where
  pub bodies : List (List ℕ)
  pub body : List ℕ
  pub stood : StandsFor (seen disk) bodies
  pub spelled : SpellOver base bodies records
  pub sound : all_sound records ≡ true
  pub bytes_are : bytes ≡ length (front bodies) + 1
  pub settled : JournalSettled seen may_leave journal (bodies ++ body ∷ [])
  pub more : SpellOver base (bodies ++ body ∷ []) (opened_over base records)

-- ---- the answers

-- behind so many bytes a journal has room for what a recovery adds
abbrev pub HasEpochRoom : ℕ → List SnapshotPiece → List model.Record → Type 0
HasEpochRoom bytes base records = bytes + entry_bytes (opening_over base records) ≤ 1073741824

-- No call of the disk has failed: its count of faults is what it was. So the records that the recovery adds stand on it, and the
-- journal uses their bytes behind those that it used, within its upper limit. Where the disk tells its bytes, base and records are all that
-- it stood for.
abbrev pub ServerRestarts : {D : Type 0} → Type 0 → (D → List ℕ) → (D → List ℕ → Type 0) → (D → ℕ) → Config → D → JournalState D → Tables
    → Type 0
ServerRestarts told seen may_leave faults z disk journal t = (journal.stopped ≡ None) × (faults journal.disk ≡ faults disk)
    × (bytes : ℕ) × (records : List model.Record) × (base : List SnapshotPiece) × IsRecovered z t bytes base records
    × (bytes + entry_bytes (opening_over base records) ≡ journal.used)
    × (told → StandsBehind seen may_leave disk journal bytes base records) × HasEpochRoom bytes base records

-- the body that begins at this gate is the first that no server writes
abbrev pub IsNoBody : List ℕ → ℕ → Type 0
IsNoBody bytes gate = (bodies : List (List ℕ)) × (k : ℕ) × (body : List ℕ) × (base : List SnapshotPiece) × (records : List model.Record)
    × StandsFor bytes bodies × (slice_get bodies k ≡ Some body) × GateStands bytes bodies k gate
    × (spelled : SpellOver base (take k bodies) records) × (all_sound records ≡ true) × NoServerAdds base spelled.back records body

-- A journal, all of whose bodies a server writes, would pass its upper limit by the records that a recovery adds.
abbrev pub IsFull : List ℕ → ℕ → ℕ → Type 0
IsFull bytes would limit = (bodies : List (List ℕ)) × (base : List SnapshotPiece) × (records : List model.Record) × StandsFor bytes bodies
    × SpellOver base bodies records × (all_sound records ≡ true)
    × (would ≡ journal_capped (length (front bodies) + 1 + entry_bytes (opening_over base records))) × (limit ≡ 1073741824)
    × (limit < would)

-- Why it is refused. A count of faults that is told rose, and is that of the disk as it was left; with another cause the count stays.
abbrev pub RestartRefused : {D : Type 0} → Type 0 → (D → List ℕ) → (D → ℕ) → (disk left : D) → JournalError → Type 0
RestartRefused told seen faults disk left causes.Memory = faults left ≡ faults disk
RestartRefused told seen faults disk left (causes.DiskFault n) = FailedAt faults disk left n
RestartRefused told seen faults disk left (causes.NotAJournal at) = (faults left ≡ faults disk)
    × (told → BreaksAt (seen disk) at ⊎ IsNoBody (seen disk) at)
RestartRefused told seen faults disk left (causes.Full would limit) = (faults left ≡ faults disk) × (told → IsFull (seen disk) would limit)
RestartRefused told seen faults disk left (causes.Stopped n) = ⊥

abbrev pub BeginAnswers : {D : Type 0} → Type 0 → (D → List ℕ) → (D → List ℕ → Type 0) → (D → ℕ) → Config → D → JournalState D
    → Result Tables JournalError → Type 0
BeginAnswers told seen may_leave faults z disk journal (Ok t) = ServerRestarts told seen may_leave faults z disk journal t
BeginAnswers told seen may_leave faults z disk journal (Err x) = RestartRefused told seen faults disk journal.disk x

-- ---- a crash at any moment

-- bytes stand for the bodies as they were, or with the one that a recovery adds
abbrev pub StandsBegun : List (List ℕ) → List ℕ → Type 0
StandsBegun bodies bytes = StandsFor bytes bodies
    ⊎ ((body : List ℕ) × (base : List SnapshotPiece) × (records : List model.Record) × SpellOver base bodies records
    × SpellOver base (bodies ++ body ∷ []) (opened_over base records) × StandsFor bytes (bodies ++ body ∷ []))

-- it leaves what it could leave before, or such bytes
abbrev pub RestartLeaves : (List ℕ → Type 0) → List (List ℕ) → List ℕ → Type 0
RestartLeaves may_leave bodies bytes = may_leave bytes ⊎ StandsBegun bodies bytes

-- ---- the disk behind a start that is refused

-- this holds unless the disk failed
abbrev pub UnlessFailed : JournalError → Type 0 → Type 0
UnlessFailed causes.Memory kept = kept
UnlessFailed (causes.DiskFault n) kept = ⊤
UnlessFailed (causes.NotAJournal at) kept = kept
UnlessFailed (causes.Full would limit) kept = kept
UnlessFailed (causes.Stopped n) kept = kept

-- It still stands for these bodies, which a crash leaves too, then and meanwhile: nothing waits for a sync.
pub record KeepsBodies {D : Type 0} (seen : D → List ℕ) (may_leave : D → List ℕ → Type 0) (moment : D → ℕ)
    (left_since : D → ℕ → List ℕ → Type 0) (disk left : D) (bodies : List (List ℕ)) : Type 0 where
  pub stands : StandsFor (seen left) bodies
  pub durable : Only (seen left) (may_leave left)
  pub any_moment : LeavesOnly moment left_since disk left (λ c. may_leave disk c ⊎ StandsFor c bodies)

-- Why a start is refused, and how it leaves the disk: as it was where its bytes break the grammar, and else with the bodies that it
-- stood for; where it failed, with these or these and the one that a recovery adds.
pub record StartRefused {D : Type 0} (told : Type 0) (seen : D → List ℕ) (may_leave : D → List ℕ → Type 0) (moment : D → ℕ)
    (left_since : D → ℕ → List ℕ → Type 0) (faults : D → ℕ) (disk left : D) (cause : JournalError) : Type 0 where
  pub caused : RestartRefused told seen faults disk left cause
  pub as_it_was : told → (at : ℕ) → BreaksAt (seen disk) at → Quiet told seen may_leave moment left_since disk left
  pub stands : told → (bodies : List (List ℕ)) → StandsFor (seen disk) bodies
      → UnlessFailed cause (KeepsBodies seen may_leave moment left_since disk left bodies)
  pub stays : told → (bodies : List (List ℕ)) → StandsFor (seen disk) bodies → StandsBegun bodies (seen left)
  pub any_moment : told → (bodies : List (List ℕ)) → StandsFor (seen disk) bodies
      → LeavesOnly moment left_since disk left (RestartLeaves (may_leave disk) bodies)
