-- A snapshot under way: the pieces that stand in the bodies of a draft, and behind them those that are gathered for its next body.
use Rattle.std.specs.Prelude.{◌≡◌, ◌⊎◌, ℕ, ◌≤◌, List, [], ◌∷◌, ◌++◌, Some, Result, Ok, Err, IsOk}
use Rattle.base_outside.specs.declared.streams.room.DiskStep.{DiskStep}
use Rattle.base_outside.specs.declared.streams.room.DiskStep.TheVariants.{Done, NoRoom}
use Rattle.spec_wire.specs.journal.Moments.{Quiet}
use Rattle.law_snapshots.specs.snapshots.Pieces.{SnapshotPiece}
use Rattle.journal.specs.declared.disk_journal.journal.JournalError.{JournalError}
use Rattle.journal.specs.declared.disk_journal.journal.JournalError.TheVariants as errors
use Rattle.journal.specs.disk_journal.Journal.{JournalState}
use Rattle.journal.specs.disk_journal.Rewrite.{RewriteState, IsDrafted, DraftStops}
use Rattle.journal_bytes.specs.piece_bytes.Grammar.{SpellsPieces, AreWritablePieces, pieces_spelling}
use Rattle.server_core.specs.declared.snapshot_writing.bodies.Unwritten.{Unwritten}
use Rattle.server_core.specs.declared.snapshot_writing.bodies.Unwritten.TheVariants.{GivenUp, Fault}

-- a body is these pieces, one at least
abbrev pub IsPieceBody : List ℕ → List SnapshotPiece → Type 0
IsPieceBody b [] = ⊥
IsPieceBody b (p ∷ ps) = SpellsPieces b (p ∷ ps)

-- bodies are these pieces, one behind the other
abbrev pub AreBodiesOf : List (List ℕ) → List SnapshotPiece → Type 0
AreBodiesOf [] ps = ps ≡ []
AreBodiesOf (b ∷ bs) ps = (front : List SnapshotPiece) × (rest : List SnapshotPiece) × (ps ≡ front ++ rest) × IsPieceBody b front
    × AreBodiesOf bs rest

pub record IsTold {D : Type 0} (told : Type 0) (drafted : D → List ℕ) (disk : D) (rewrite : RewriteState) (body : List ℕ)
    (ps : List SnapshotPiece) : Type 0 where
  pub bodies : List (List ℕ)
  pub front : List SnapshotPiece
  pub last : List SnapshotPiece
  pub all : ps ≡ front ++ last
  pub draft : told → IsDrafted drafted disk rewrite bodies
  pub bodies_are : AreBodiesOf bodies front
  pub body_is : body ≡ pieces_spelling last
  pub writable : AreWritablePieces last

-- nothing changed but the disk, beside which a draft is written, and the room, which never falls
abbrev pub IsDraftWritten : {D : Type 0} → (D → ℕ) → JournalState D → JournalState D → Type 0
IsDraftWritten faults old new = (new ≡ record old { disk = new.disk; room = new.room }) × (old.room ≤ new.room)
    × (faults new.disk ≡ faults old.disk)

-- the journal goes on, or stopped at this fault
abbrev pub DraftAnswers : {D : Type 0} → (D → ℕ) → JournalState D → Result Unit Unwritten → JournalState D → Type 0
DraftAnswers faults old (Ok done) new = IsDraftWritten faults old new
DraftAnswers faults old (Err GivenUp) new = IsDraftWritten faults old new
DraftAnswers faults old (Err (Fault n)) new = DraftStops faults n old new ⊎ ((old.stopped ≡ Some n) × IsDraftWritten faults old new)

-- what a step into a draft came to
abbrev pub IsOutcome : Result DiskStep JournalError → Result Unit Unwritten → Type 0
IsOutcome (Ok Done) r = IsOk r
IsOutcome (Ok NoRoom) r = r ≡ Err GivenUp
IsOutcome (Err errors.Memory) r = r ≡ Err GivenUp
IsOutcome (Err (errors.DiskFault n)) r = r ≡ Err (Fault n)
IsOutcome (Err (errors.NotAJournal at)) r = r ≡ Err GivenUp
IsOutcome (Err (errors.Full would limit)) r = r ≡ Err GivenUp
IsOutcome (Err (errors.Stopped n)) r = r ≡ Err (Fault n)

-- what writing into a draft does to the journal
pub record DraftGoesOn {D : Type 0} (told : Type 0) (seen : D → List ℕ) (may_leave : D → List ℕ → Type 0) (moment : D → ℕ)
    (left_since : D → ℕ → List ℕ → Type 0) (faults : D → ℕ) (old new : JournalState D) (result : Result Unit Unwritten) : Type 0 where
  pub quiet : Quiet told seen may_leave moment left_since old.disk new.disk
  pub cause : DraftAnswers faults old result new
