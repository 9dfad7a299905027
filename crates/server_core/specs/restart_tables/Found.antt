-- What a restart has found before it writes anything.
use Rattle.std.specs.Prelude.{◌≡◌, ℕ, ◌+◌, List, [], ◌∷◌, ◌++◌, length, None, true, Ok}
use Rattle.spec_exchange.specs.Records.{entry_bytes}
use Rattle.spec_exchange.specs.State as model
use Rattle.law_snapshots.specs.snapshots.Pieces.{SnapshotPiece}
use Rattle.spec_journal.specs.Forms.{StandsFor}
use Rattle.journal.specs.disk_journal.Journal.{JournalState, JournalRecovers, JournalSettled}
use Rattle.server_core.specs.durable_state.Durable.{DurableShown}
use Rattle.server_core.specs.declared.durable_state.durable.Durable.{Durable}
use Rattle.law_server.specs.tables.Fits.{Fits, all_sound}
use Rattle.server_core.specs.Over.{found_over, opening_over, opened_over}
use Rattle.server_core.specs.Reading.{SpellOver}

-- the journal is what was recovered of the disk
abbrev pub IsOf : {D : Type 0} → Type 0 → (D → List ℕ) → (D → List ℕ → Type 0) → (D → ℕ) → D → JournalState D → Type 0
IsOf told seen may_leave faults disk journal = JournalRecovers told seen faults disk (Ok journal)
    × (told → (bodies : List (List ℕ)) → StandsFor (seen disk) bodies → JournalSettled seen may_leave journal bodies)

-- these are all of its bodies, and with this one they spell what the recovery adds too
pub record IsRead {D : Type 0} (seen : D → List ℕ) (may_leave : D → List ℕ → Type 0) (journal : JournalState D)
    (all bodies : List (List ℕ)) (base : List SnapshotPiece) (records : List model.Record) (body : List ℕ) : Type 0 where
  pub same : bodies ≡ all
  pub spelled : SpellOver base all records
  pub settled : JournalSettled seen may_leave journal all
  pub more : SpellOver base (all ++ body ∷ []) (opened_over base records)

-- A journal was first so, and is so once all its bodies are read; the state shows their base, their records and those that this body is to
-- add.
pub record Found {D : Type 0} (told : Type 0) (seen : D → List ℕ) (may_leave : D → List ℕ → Type 0) (faults : D → ℕ)
    (first journal : JournalState D) (d : Durable) (body : List ℕ) : Type 0 where
  pub bodies : List (List ℕ)
  pub base : List SnapshotPiece
  pub records : List model.Record
  pub goes_on : journal.stopped ≡ None
  pub no_fault : faults journal.disk ≡ faults first.disk
  pub taken : SpellOver base bodies records
  pub sound : all_sound records ≡ true
  pub fits : Fits (found_over base records)
  pub shown : DurableShown d (found_over base (opened_over base records))
  pub adds : entry_bytes (opening_over base records) ≡ 5 + length body
  pub read : told → (all : List (List ℕ)) → JournalSettled seen may_leave first all
      → IsRead seen may_leave journal all bodies base records body
