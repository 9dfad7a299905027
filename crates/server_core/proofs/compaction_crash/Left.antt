-- What a crash while a journal is written anew leaves stands for the server, by the old bodies or by a snapshot.
use Rattle.std.proofs.Common.{inl, inr, ℕ, List, []}
use Rattle.spec_exchange.specs.Fold.{Configuration}
use Rattle.spec_exchange.specs.State.{Record, Server}
use Rattle.spec_journal.specs.Forms.{BreaksAt, StandsFor}
use Rattle.law_server.proofs.tables.Folded.{sound_none}
use Rattle.law_snapshots.specs.snapshots.Pieces.{SnapshotPiece}
use Rattle.server_core.specs.Reading.{SpellOver}
use Rattle.server_core.specs.compaction.Compacts.{CompactionLeaves}
use Rattle.server_core.specs.crash.Left.{IsRecordedOver, StartsAgain}
use Rattle.server_core.specs.restart_tables.Restart.{IsNoBody}
use Rattle.server_core.proofs.crash.Over.{Starts}

module _ (starts : Starts) where
  pub taken_compacted : (base : List SnapshotPiece) (s : Server) (records : List Record) (bodies : List (List ℕ)) (bytes : List ℕ) (at : ℕ)
      → IsRecordedOver base s records bodies → CompactionLeaves s bodies bytes → (BreaksAt bytes at → ⊥) × (IsNoBody bytes at → ⊥)
  taken_compacted base s records bodies bytes at i (inl h) = starts.taken bytes bodies base records at h i.spelled i.sound
  taken_compacted base s records bodies bytes at i (inr h) = starts.taken bytes h.1 h.0 [] at h.2 h.3 sound_none

  pub again_compacted : (base : List SnapshotPiece) (s : Server) (records : List Record) (bodies : List (List ℕ)) (bytes : List ℕ)
      (others : List (List ℕ)) (found : List SnapshotPiece) (kept : List Record) (z : Configuration) (count : ℕ)
      → IsRecordedOver base s records bodies → CompactionLeaves s bodies bytes → StandsFor bytes others → SpellOver found others kept
      → StartsAgain s found kept z count
  again_compacted base s records bodies bytes others found kept z count i (inl h) stands spells =
      starts.again s bytes base found records kept others z count (bodies, h, i) stands spells
  again_compacted base s records bodies bytes others found kept z count i (inr h) stands spells =
      starts.again s bytes h.0 found [] kept others z count
      (h.1, h.2, record { fits = i.fits; version = i.version; sound = sound_none; spelled = h.3; for_state = h.4 }) stands spells
