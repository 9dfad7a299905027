-- A start over a snapshot and records that stand for a server stands where it stood.
use Rattle.std.proofs.Common.{◌≡◌, ℕ, true, List, [], subst}
use Rattle.spec_exchange.specs.Fold.{Configuration, nothing_yet}
use Rattle.spec_exchange.specs.State.{Record, Server}
use Rattle.law_records.specs.fold.Order.{FilesAscend}
use Rattle.law_records.specs.recovery.Restarted.{EntriesLeft}
use Rattle.law_server.specs.tables.Fits.{Fits, all_sound}
use Rattle.law_snapshots.specs.behind.Found.{FoundFor}
use Rattle.law_snapshots.specs.restarts.Reopened.{RestartKept, reopened}
use Rattle.law_snapshots.specs.snapshots.Pieces.{SnapshotPiece, unfolded}
use Rattle.law_snapshots.specs.snapshots.Taken.{takes_pieces}
use Rattle.server_core.specs.Over.{based}
use Rattle.server_core.specs.Reading.{SpellOver}
use Rattle.server_core.specs.crash.Left.{IsRecordedOver, StartsAgain}
use Rattle.server_core.proofs.SnapshotBodies.{all_taken}

-- what `piece_fits_law` and `restart_over_law` say
abbrev pub PiecesFit : Type 0
PiecesFit = (base : List SnapshotPiece) (stored : ℕ → List ℕ) → takes_pieces (unfolded [] stored) base ≡ true
    → Fits (unfolded base stored) × FilesAscend (unfolded base stored)

abbrev pub StandsAgain : Type 0
StandsAgain = (z : Configuration) (bytes : ℕ) (base : List SnapshotPiece) (stored : ℕ → List ℕ) (since : List Record) (s : Server)
    → FoundFor base stored since s → RestartKept s (reopened z bytes base stored since)

abbrev pub EntriesAgain : Type 0
EntriesAgain = (z : Configuration) (bytes : ℕ) (base : List SnapshotPiece) (stored : ℕ → List ℕ) (since : List Record) (s : Server)
    → Fits (unfolded base stored) → all_sound since ≡ true → Fits s → FoundFor base stored since s
    → EntriesLeft s (reopened z bytes base stored since)

-- what pieces of bodies stand for fits together
pub based_fits : PiecesFit → (base : List SnapshotPiece) (bodies : List (List ℕ)) (since : List Record) → SpellOver base bodies since
    → Fits (based base) × FilesAscend (based base)
unfolding Rattle.law_snapshots.specs.snapshots.Pieces.with_pieces
based_fits law base bodies since h = law base (λ f. []) (all_taken nothing_yet h.front base h.pieces)

pub starts_again : PiecesFit → StandsAgain → EntriesAgain → (s : Server) (base found : List SnapshotPiece) (records kept : List Record)
    (z : Configuration) (count : ℕ) → (bodies : List (List ℕ)) → IsRecordedOver base s records bodies
    → (base ≡ found) × (records ≡ kept) → StartsAgain s found kept z count
starts_again law stands entries s base found records kept z count bodies r same =
    subst (λ (ps : List SnapshotPiece). StartsAgain s ps kept z count) same.0
    (subst (λ (rs : List Record). StartsAgain s base rs z count) same.1 (record {
      stands = stands z count base (λ f. []) records s r.for_state;
      entries = entries z count base (λ f. []) records s (based_fits law base bodies records r.spelled).0 r.sound r.fits r.for_state;
    }))
