-- Bodies that are pieces of a snapshot are read as these pieces.
use Rattle.std.proofs.Common.{◌≡◌, true, ◌&&◌, ℕ, List, [], ◌∷◌, ◌++◌, sym, ap, ◌∙◌}
use Rattle.spec_exchange.specs.State.{Server}
use Rattle.law_server.proofs.tables.Logic.{front_of, back_of}
use Rattle.law_snapshots.specs.snapshots.Pieces.{SnapshotPiece, with_pieces}
use Rattle.law_snapshots.specs.snapshots.Taken.{takes_pieces}
use Rattle.server_core.specs.Reading.{PiecesFrom}
use Rattle.server_core.specs.snapshot_writing.Told.{AreBodiesOf, IsPieceBody}

-- `piece_fits_law`
abbrev pub Joined : Type 0
Joined = (s : Server) (ps qs : List SnapshotPiece) → (with_pieces s (ps ++ qs) ≡ with_pieces (with_pieces s ps) qs)
    × (takes_pieces s (ps ++ qs) ≡ (takes_pieces s ps && takes_pieces (with_pieces s ps) qs))

-- what is taken is taken in two parts
split : Joined → (s : Server) (ps front rest : List SnapshotPiece) → ps ≡ front ++ rest → takes_pieces s ps ≡ true
    → (takes_pieces s front && takes_pieces (with_pieces s front) rest) ≡ true
split law s ps front rest e h =
    sym (law s front rest).1 ∙ (sym (ap (λ (xs : List SnapshotPiece). takes_pieces s xs) e) ∙ h)

pub read_as : Joined → (s : Server) (bodies : List (List ℕ)) (ps : List SnapshotPiece) → AreBodiesOf bodies ps → takes_pieces s ps ≡ true
    → PiecesFrom s bodies ps
read_as law s [] ps h taken = h
read_as law s (b ∷ bodies) ps h taken = by h.0 h.1 h.2 h.3 h.4 (read_as law (with_pieces s h.0) bodies h.1 h.4)
  where
    by : (front rest : List SnapshotPiece) → ps ≡ front ++ rest → IsPieceBody b front → AreBodiesOf bodies rest
        → (takes_pieces (with_pieces s front) rest ≡ true → PiecesFrom (with_pieces s front) bodies rest)
        → PiecesFrom s (b ∷ bodies) ps
    by [] rest e i more again = absurd i
    by (p ∷ front) rest e i more again =
        let t = split law s ps (p ∷ front) rest e taken in (
          p,
          front,
          rest,
          i,
          front_of (takes_pieces s (p ∷ front)) (takes_pieces (with_pieces s (p ∷ front)) rest) t,
          e,
          again (back_of (takes_pieces s (p ∷ front)) (takes_pieces (with_pieces s (p ∷ front)) rest) t),
        )
