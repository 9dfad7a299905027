-- What a recovery reads, body by body, and what stops it.
use Rattle.std.specs.Prelude.{◌≡◌, ◌⊎◌, ℕ, nat_le, Bool, List, [], ◌∷◌, ◌++◌, length, take, true, false, slice_get, Some, ⊤}
use Rattle.spec_exchange.specs.Fold.{nothing_yet, fold_from}
use Rattle.spec_exchange.specs.State as model
use Rattle.spec_journal.specs.declared.form.Form.{Form}
use Rattle.spec_journal.specs.Forms.{form_front}
use Rattle.law_snapshots.specs.snapshots.Pieces.{SnapshotPiece, with_pieces}
use Rattle.law_snapshots.specs.snapshots.Taken.{takes_pieces}
use Rattle.journal_bytes.specs.piece_bytes.Grammar.{SpellsPieces, BreaksPieces}
use Rattle.journal_bytes.specs.record_bytes.Grammar.{SpellsRecords, BreaksRecords}
use Rattle.journal_bytes.specs.record_bytes.Meaning.{records_of}
use Rattle.journal_bytes.specs.declared.record_bytes.fault.RecordError.{RecordError}
use Rattle.journal_bytes.specs.declared.record_bytes.fault.RecordError.TheVariants as faulty
use Rattle.journal_bytes.specs.declared.record_bytes.value.Record.{Record}
use Rattle.journal_bytes.specs.declared.piece_bytes.fault.PieceError.{PieceError}
use Rattle.journal_bytes.specs.declared.piece_bytes.fault.PieceError.TheVariants as pieced
use Rattle.journal.specs.disk_journal.Journal.{JournalState, JournalSettled}
use Rattle.journal.specs.declared.disk_journal.journal.JournalError.{JournalError}
use Rattle.journal.specs.declared.disk_journal.journal.JournalError.TheVariants as causes
use Rattle.base_outside.specs.streams.Faults.{Rose}
use Rattle.law_server.specs.tables.Fits.{Fits, all_sound}
use Rattle.server_core.specs.Over.{based, found_over}
use Rattle.server_core.specs.durable_state.Durable.{DurableShown}
use Rattle.server_core.specs.declared.durable_state.durable.Durable.{Durable}

-- ---- what bodies stand for

-- one body after the other, each in the version that the records before it have reached
abbrev pub SpellFrom : model.Server → List (List ℕ) → List model.Record → Type 0
SpellFrom s [] rs = rs ≡ []
SpellFrom s (body ∷ bodies) rs = (front : List Record) × (rest : List model.Record) × SpellsRecords s.version body front
    × (rs ≡ records_of front ++ rest) × SpellFrom (fold_from s (records_of front)) bodies rest

abbrev pub BodiesSpell : List (List ℕ) → List model.Record → Type 0
BodiesSpell bodies rs = SpellFrom nothing_yet bodies rs

-- A body that no server writes: it is no list of records, or one of them makes an open that deletes the root on close.
abbrev pub NoServerWrites : ℕ → List ℕ → Type 0
NoServerWrites version body = ((place : ℕ) × BreaksRecords version body place)
    ⊎ ((rs : List Record) × SpellsRecords version body rs × (all_sound (records_of rs) ≡ false))

-- ---- what they stand for over a snapshot

-- one body after the other, each of one piece at least, all of which a reader takes
abbrev pub PiecesFrom : model.Server → List (List ℕ) → List SnapshotPiece → Type 0
PiecesFrom s [] ps = ps ≡ []
PiecesFrom s (body ∷ bodies) ps = (p : SnapshotPiece) × (front : List SnapshotPiece) × (rest : List SnapshotPiece)
    × SpellsPieces body (p ∷ front) × (takes_pieces s (p ∷ front) ≡ true) × (ps ≡ (p ∷ front) ++ rest)
    × PiecesFrom (with_pieces s (p ∷ front)) bodies rest

-- the first bodies are these pieces, and those behind them these records
pub record SpellOver (base : List SnapshotPiece) (bodies : List (List ℕ)) (since : List model.Record) : Type 0 where
  pub front : List (List ℕ)
  pub back : List (List ℕ)
  pub bodies_are : bodies ≡ front ++ back
  pub pieces : PiecesFrom nothing_yet front base
  pub records : SpellFrom (based base) back since

-- a body tells by its first byte what it has: pieces from 64 on, and records below
abbrev pub begins_pieces : List ℕ → Bool
begins_pieces [] = false
begins_pieces (b ∷ bs) = nat_le 64 b

-- A body of pieces that no server writes behind others, of which these have records: some have, or it is no list of pieces, or not all of
-- them are taken.
abbrev pub NoSnapshotHas : List SnapshotPiece → List (List ℕ) → List ℕ → Type 0
NoSnapshotHas base back body = (back ≡ [] → ⊥) ⊎ ((place : ℕ) × BreaksPieces body place)
    ⊎ ((ps : List SnapshotPiece) × SpellsPieces body ps × (takes_pieces (based base) ps ≡ false))

-- A body that no server writes behind a base and records, the bodies of which are these.
abbrev pub NoServerAdds : List SnapshotPiece → List (List ℕ) → List model.Record → List ℕ → Type 0
NoServerAdds base back since body = ((begins_pieces body ≡ true) × NoSnapshotHas base back body)
    ⊎ ((begins_pieces body ≡ false) × NoServerWrites (found_over base since).version body)

-- ---- what was read

abbrev pub IsNothing : model.Server → Type 0
IsNothing s = s ≡ nothing_yet

-- the state behind a body of these records: their fold, where none makes an open that deletes the root on close
abbrev pub FoldedBy : Durable → model.Server → List ℕ → Type 0
FoldedBy d s body = (rs : List Record) × SpellsRecords s.version body rs × (all_sound (records_of rs) ≡ true)
    × DurableShown d (fold_from s (records_of rs))

-- the state behind a body of these pieces, in front of which no records stand; all of them are taken, and the state fits together
abbrev pub PiecedBy : Durable → model.Server → List ℕ → Bool → Type 0
PiecedBy d s body behind = (behind ≡ false) × (ps : List SnapshotPiece) × SpellsPieces body ps × (takes_pieces s ps ≡ true)
    × DurableShown d (with_pieces s ps) × Fits (with_pieces s ps)

-- a body was applied behind records or not, and it is told whether it has records
abbrev pub AppliedBy : Durable → model.Server → List ℕ → Bool → Bool → Type 0
AppliedBy d s body behind told = ((told ≡ true) × FoldedBy d s body)
    ⊎ ((told ≡ false) × (begins_pieces body ≡ true) × PiecedBy d s body behind)

-- Bodies that were read one behind the other: they are a base and records, none of which makes an open that deletes the root on close, and
-- the state is what they stand for.
pub record IsReadOver (d : Durable) (base : List SnapshotPiece) (bodies : List (List ℕ)) (records : List model.Record) : Type 0 where
  pub spelled : SpellOver base bodies records
  pub sound : all_sound records ≡ true
  pub shown : DurableShown d (found_over base records)
  pub fits : Fits (found_over base records)

-- where the disk tells its bytes they are all that it has
abbrev pub HandedOut : {D : Type 0} → Type 0 → (D → List ℕ) → (D → List ℕ → Type 0) → JournalState D → List (List ℕ) → Type 0
HandedOut told seen may_leave journal bodies = told → (all : List (List ℕ)) → JournalSettled seen may_leave journal all → bodies ≡ all

-- ---- what stops it

-- the first body that no server writes, told by its gate in a journal of this form
abbrev pub FoldRefused : Form → List (List ℕ) → JournalError → Type 0
FoldRefused form bodies (causes.NotAJournal at) = (k : ℕ) × (body : List ℕ) × (base : List SnapshotPiece) × (records : List model.Record)
    × (slice_get bodies k ≡ Some body) × (at ≡ length (form_front form (take k bodies)))
    × (spelled : SpellOver base (take k bodies) records) × (all_sound records ≡ true) × NoServerAdds base spelled.back records body
FoldRefused form bodies causes.Memory = ⊤
FoldRefused form bodies (causes.DiskFault n) = ⊤
FoldRefused form bodies (causes.Full would limit) = ⊤
FoldRefused form bodies (causes.Stopped n) = ⊤

-- a body that isn't read is no list of records, or memory ran out
abbrev pub cause_of : RecordError → ℕ → JournalError
cause_of faulty.Memory gate = causes.Memory
cause_of (faulty.BadRecord place) gate = causes.NotAJournal gate

abbrev pub piece_cause_of : PieceError → ℕ → JournalError
piece_cause_of pieced.Memory gate = causes.Memory
piece_cause_of (pieced.BadPiece place) gate = causes.NotAJournal gate

abbrev pub BodyCause : ℕ → JournalError → Type 0
BodyCause gate causes.Memory = ⊤
BodyCause gate (causes.NotAJournal at) = at ≡ gate
BodyCause gate (causes.DiskFault n) = ⊥
BodyCause gate (causes.Full would limit) = ⊥
BodyCause gate (causes.Stopped n) = ⊥

-- a body of records that isn't applied, in the version that the records before it have reached, is one that no server writes, or memory
-- ran out
abbrev pub RecordsRefused : ℕ → List ℕ → JournalError → Type 0
RecordsRefused version body (causes.NotAJournal at) = NoServerWrites version body
RecordsRefused version body causes.Memory = ⊤
RecordsRefused version body (causes.DiskFault n) = ⊤
RecordsRefused version body (causes.Full would limit) = ⊤
RecordsRefused version body (causes.Stopped n) = ⊤

-- a body of pieces that isn't applied to a state: records stand in front of it, or it is no list of pieces, or not all of them are taken,
-- or memory ran out
abbrev pub PiecesRefused : Bool → model.Server → List ℕ → JournalError → Type 0
PiecesRefused behind s body (causes.NotAJournal at) = (behind ≡ true) ⊎ ((place : ℕ) × BreaksPieces body place)
    ⊎ ((ps : List SnapshotPiece) × SpellsPieces body ps × (takes_pieces s ps ≡ false))
PiecesRefused behind s body causes.Memory = ⊤
PiecesRefused behind s body (causes.DiskFault n) = ⊤
PiecesRefused behind s body (causes.Full would limit) = ⊤
PiecesRefused behind s body (causes.Stopped n) = ⊤

-- the same of any body
abbrev pub BodyRefused : Bool → model.Server → List ℕ → JournalError → Type 0
BodyRefused behind s body x = ((begins_pieces body ≡ true) × PiecesRefused behind s body x)
    ⊎ ((begins_pieces body ≡ false) × RecordsRefused s.version body x)

-- what reading answers of any disk: its count of faults rises exactly where it is told
abbrev pub ReadRefused : {D : Type 0} → (D → ℕ) → D → JournalError → JournalState D → Type 0
ReadRefused faults disk causes.Memory new = faults new.disk ≡ faults disk
ReadRefused faults disk (causes.DiskFault n) new = Rose (faults disk) n × (n ≡ faults new.disk)
ReadRefused faults disk (causes.NotAJournal at) new = faults new.disk ≡ faults disk
ReadRefused faults disk (causes.Full would limit) new = ⊥
ReadRefused faults disk (causes.Stopped n) new = ⊥
